-- A deed is calls of a custody.
use Rattle.std.proofs.Common.{◌≡◌, ◌==◌, ℕ, List, [], ◌∷◌, ◌++◌, length, map, Option, Bool, true, false, inl, inr, refl, sym, ap, subst}
use Rattle.std.specs.Prelude.{MatchBool}
use Rattle.std.proofs.lemmas.Bool.Decides.{Decides-eqb}
use Rattle.std.proofs.lemmas.List.{map-append}
use Rattle.custody_records.proofs.Elements.{differs}
use Rattle.vault_volume.specs.declared.volume.Volume as volume
use Rattle.sqlite.specs.Store.{Ghosts}
use Rattle.custody_machine.specs.Commands.{command_of}
use Rattle.custody_machine.specs.Machine.{Check, Receive}
use Rattle.custody_rules.specs.DueDays.{due_days}
use Rattle.custody.specs.declared.custody.Custody.{Custody}
use Rattle.custody.specs.OpenCustody.{current_records}
use Rattle.custody.specs.Custody.{open_custody_of, is_open}
use Rattle.answer_lines.specs.Printing.{Writer}
use Rattle.agent_cli.specs.Acts.{Sweeps, SweepsDays, file_name, is_over}
use Rattle.agent_cli.specs.declared.order.Deed.TheVariants as deed
use Rattle.theorems.specs.CustodyCalls.{CustodyCall, Applies, Fetches, Previews, Explains, Audits, HasCalled}
use Rattle.theorems.specs.Deeds.{AreChecks, AreSweepCalls, DeedsAreCalls, HasMadeCalls, IsOneCall, SweepsAreChecks}
use Rattle.theorems.specs.Lives.{Agent, Up, Down, LifeStep, Calls, AgentGoes, AgentGoesAlong}
use Rattle.theorems.proofs.HonestLemmas.{IsHonestIn, honest_called}

no_checks : (days : List (List ℕ × ℕ)) (now : ℕ) → AreChecks days now []
no_checks [] now = tt
no_checks (day ∷ days) now = tt

-- a sweep that checks nothing, and one that may check
no_sweep : (over : Bool) (days : List (List ℕ × ℕ)) (now : ℕ) → MatchBool over (◌≡◌ {A = List CustodyCall} [] []) (AreChecks days now [])
no_sweep true days now = refl
no_sweep false days now = no_checks days now

module _ {V S : Type 0} {g : volume.Ghosts V} {database : Ghosts S} where
  -- ---- calls in order

  -- steps, and then others
  goes_join : (old mid new : Agent (Custody V S g database)) (xs ys : List LifeStep) → AgentGoesAlong database old xs mid → AgentGoesAlong database mid ys new → AgentGoesAlong database old (xs ++ ys) new
  goes_join old mid new [] ys first then = subst (λ agent. AgentGoesAlong database agent ys new) first then
  goes_join old mid new (x ∷ xs) ys first then = (first.0, first.1, goes_join first.0 mid new xs ys first.2 then)

  -- an agent is up, and its database honest
  abbrev IsHonestAgent : Agent (Custody V S g database) → Type 0
  IsHonestAgent (Up custody) = IsHonestIn custody
  IsHonestAgent (Down rows image) = ⊥

  honest_goes : (old new : Custody V S g database) (calls : List CustodyCall) → AgentGoesAlong database (Up old) (map Calls calls) (Up new) → IsHonestIn new → IsHonestIn old
  honest_goes old new [] goes honest = subst IsHonestAgent goes honest
  honest_goes old new (call ∷ calls) goes honest = by goes.0 goes.1
    where
      by : (next : Agent (Custody V S g database)) → AgentGoes database (Up old) (Calls call) next → IsHonestIn old
      by (Up mid) did = honest_called old mid call did.0 did.1
      by (Down rows image) did = absurd did

  module _ (AreCalls : List CustodyCall → Type 0) (old new : Custody V S g database) where
    -- a database that is honest after calls was so before them
    pub honest_before : HasMadeCalls AreCalls database old new → IsHonestIn new → IsHonestIn old
    honest_before made = honest_goes old new made.calls made.goes

    -- no call was made
    pub no_calls : AreCalls [] → new ≡ old → HasMadeCalls AreCalls database old new
    no_calls none same = record { calls = []; are_calls = none; goes = ap Up same }

  -- calls were made, and then others
  pub calls_join : (First Then Both : List CustodyCall → Type 0) (old mid new : Custody V S g database) → ((xs ys : List CustodyCall) → First xs → Then ys → Both (xs ++ ys))
      → HasMadeCalls First database old mid → HasMadeCalls Then database mid new → HasMadeCalls Both database old new
  calls_join First Then Both old mid new both first then = record {
    calls = first.calls ++ then.calls;
    are_calls = both first.calls then.calls first.are_calls then.are_calls;
    goes = subst (λ steps. AgentGoesAlong database (Up old) steps (Up new)) (sym (map-append Calls first.calls then.calls)) (goes_join (Up old) (Up mid) (Up new) (map Calls first.calls) (map Calls then.calls) first.goes then.goes);
  }

  -- ---- deeds

  one_call : {T : Type 0} (call : T → CustodyCall) (old new : Custody V S g database) (answer : T) → HasCalled old (call answer) new → IsHonestIn new → HasMadeCalls (IsOneCall call) database old new
  one_call call old new answer did honest = record { calls = call answer ∷ []; are_calls = (answer, refl); goes = (Up new, (did, honest), refl) }

  pub sweeps_are_checks : (old new : Custody V S g database) → SweepsAreChecks database old new
  sweeps_are_checks old new [] now status output errors swept honest = no_calls (AreChecks [] now) old new tt swept.0
  sweeps_are_checks old new (day ∷ days) now status output errors swept honest =
      by (λ done. sweeps_are_checks swept.0 new days now status (record { before = swept.2; after = output.after }) (record { before = swept.3; after = errors.after }) (swept.5 done) honest) (swept.1 == 0) refl
    where
      then : Custody V S g database
      then = swept.0

      -- the check, and the calls behind it
      first_and : HasMadeCalls (AreChecks days now) database then new → HasMadeCalls (AreChecks (day ∷ days) now) database old new
      first_and rest = record {
        calls = Applies (Check day.0 day.1) now swept.4.0 ∷ rest.calls;
        are_calls = ((swept.4.0, refl), rest.are_calls);
        goes = (Up then, (swept.4.1, honest_before (AreChecks days now) then new rest honest), rest.goes);
      }

      by : (swept.1 ≡ 0 → HasMadeCalls (AreChecks days now) database then new) → (b : Bool) → (swept.1 == 0) ≡ b → HasMadeCalls (AreChecks (day ∷ days) now) database old new
      by rest true e = first_and (rest ((Decides-eqb swept.1 0).0 e))
      by rest false e = first_and (no_calls (AreChecks days now) then new (no_checks days now) (swept.6 (differs swept.1 0 e)).0)

  -- nothing is checked where too many are due
  swept_if : (over : Bool) (days : List (List ℕ × ℕ)) (now : ℕ) (old new : Custody V S g database) (Refuses Checks : Type 0) → (Refuses → new ≡ old) → (Checks → HasMadeCalls (AreChecks days now) database old new)
      → MatchBool over Refuses Checks → HasMadeCalls (λ calls. MatchBool over (calls ≡ []) (AreChecks days now calls)) database old new
  swept_if true days now old new Refuses Checks same checks swept = no_calls (λ calls. calls ≡ []) old new refl (same swept)
  swept_if false days now old new Refuses Checks same checks swept = checks swept

  swept_days : (at_most : Option ℕ) (days : List (List ℕ × ℕ)) (old new : Custody V S g database) (now status : ℕ) (output errors : Writer) → SweepsDays at_most days old now new status output errors → IsHonestIn new
      → HasMadeCalls (AreSweepCalls at_most days now) database old new
  swept_days at_most days old new now status output errors swept honest =
      swept_if (is_over at_most (length days)) days now old new _ _ (λ refused. refused.0) (λ checked. sweeps_are_checks old new days now status output errors checked honest) swept

  swept_due : (at_most : Option ℕ) (old new : Custody V S g database) (now status : ℕ) (output errors : Writer) → Sweeps at_most old now new status output errors → IsHonestIn new
      → HasMadeCalls (AreSweepCalls at_most (due_days (current_records (open_custody_of old)) now) now) database old new
  swept_due at_most old new now status output errors sweeps honest = by (is_open old) refl
    where
      none : new ≡ old → HasMadeCalls (AreSweepCalls at_most (due_days (current_records (open_custody_of old)) now) now) database old new
      none same = let days = due_days (current_records (open_custody_of old)) now in no_calls (AreSweepCalls at_most days now) old new (no_sweep (is_over at_most (length days)) days now) same

      by : (b : Bool) → is_open old ≡ b → HasMadeCalls (AreSweepCalls at_most (due_days (current_records (open_custody_of old)) now) now) database old new
      by false shut = none (sweeps.while_closed shut).0
      by true opened = elim (sweeps.swept opened) [ inl swept ↦ swept_days at_most (due_days (current_records (open_custody_of old)) now) old new now status output errors swept honest | inr unswept ↦ none unswept.0 ]

  pub deeds_are_calls : (old new : Custody V S g database) → DeedsAreCalls database old new
  deeds_are_calls old new (deed.Put file) bytes now status output errors acts honest = one_call (Applies (Receive (file_name file.now) bytes) now) old new acts.0 acts.1 honest
  deeds_are_calls old new (deed.Do command) bytes now status output errors acts honest = one_call (Applies (command_of command) now) old new acts.0 acts.1 honest
  deeds_are_calls old new (deed.Preview stated) bytes now status output errors acts honest = one_call (Previews stated now) old new acts.1.0 acts.1.1 honest
  deeds_are_calls old new (deed.Fetch reference name) bytes now status output errors acts honest = one_call (Fetches reference name.now) old new acts.1.0 acts.1.1 honest
  deeds_are_calls old new (deed.Explain tld day rev) bytes now status output errors acts honest = one_call (Explains tld day rev) old new acts.1.0 acts.1.1 honest
  deeds_are_calls old new deed.Audit bytes now status output errors acts honest = one_call Audits old new acts.1.0 acts.1.1 honest
  deeds_are_calls old new (deed.Sweep at_most) bytes now status output errors acts honest = swept_due at_most old new now status output errors acts.1 honest
  deeds_are_calls old new other bytes now status output errors acts honest = no_calls (λ calls. calls ≡ []) old new refl acts.0
