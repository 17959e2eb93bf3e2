-- What a sweep of the days due records.
use Rattle.std.proofs.Common.{◌≡◌, ◌==◌, ℕ, List, [], ◌∷◌, Bool, true, false, refl, sym, ◌∙◌, ap, subst, arith, inl, inr, Result, Ok, Err}
use Rattle.std.specs.Prelude.{is_none}
use Rattle.std.proofs.lemmas.Bool.Decides.{Decides-eqb}
use Rattle.vault_volume.specs.declared.volume.Volume as volume
use Rattle.sqlite.specs.Store.{Ghosts}
use Rattle.custody_records.specs.Records.{Records}
use Rattle.custody_machine.specs.Machine as machine
use Rattle.custody_machine.specs.Machine.{Check}
use Rattle.custody_machine.specs.Rulings.{AddsRegistry, AddsPart, AddsVerdict, AddsAbsence, AddsRelease, AddsHold, LiftsHold, DropsBytes, Ruling, RefuseRuling, KeptRuling, CompareRuling, GoRuling, Decides, command_bytes}
use Rattle.custody_machine.proofs.Accepting.{accept_inj}
use Rattle.custody_rules.specs.DueDays.{due_days}
use Rattle.custody.specs.declared.answers.Reply.{Reply}
use Rattle.custody.specs.declared.answers.Refused.{Refused}
use Rattle.custody.specs.declared.answers.Refused.TheVariants as refused
use Rattle.custody.specs.declared.custody.Custody.{Custody}
use Rattle.custody.specs.Custody.{HasApplied, is_open, open_custody_of}
use Rattle.custody.specs.OpenCustody.{current_records}
use Rattle.custody.specs.RulingAnswers.{FollowsRuling}
use Rattle.answer_lines.specs.Printing.{Writer}
use Rattle.answer_lines.specs.Statuses.{IsStatusAfter, answer_status}
use Rattle.agent_cli.specs.Acts.{IsSwept}
use Rattle.agent_cli.specs.DueSwept.{SweepRecordsDue, WouldRecordAbsence, with_absence, with_absences}
use Rattle.agent_cli.proofs.DueLemmas.{IsDue, due_checked, due_differ, is_due, stays_due}
use Rattle.custody_records.proofs.Elements.{Differ, IsIn, differs}

-- status 0 is that of what is done
done_of : {T : Type 0} (answer : Result T Refused) → IsStatusAfter (answer_status answer) 0 → (found : T) × (answer ≡ Ok found)
done_of (Ok found) status = (found, refl)
done_of (Err (refused.Refusal why)) (inl e) = absurd (omega (arith, e))
done_of (Err (refused.Refusal why)) (inr e) = absurd (omega (arith, e))
done_of (Err (refused.Failure why)) (inl e) = absurd (omega (arith, e))
done_of (Err (refused.Failure why)) (inr e) = absurd (omega (arith, e))

-- ---- one check

module _ (records later : Records) (tld : List ℕ) (day now : ℕ) (reply : Reply) (would : WouldRecordAbsence records tld day now) where
  -- a check that would record an absence, and is done, has recorded it: no other ruling is that of the check
  absence_recorded : (ruling : Ruling) → Decides ruling records (Check tld day) now → FollowsRuling ruling records (command_bytes (Check tld day)) now (Ok reply) later → later ≡ with_absence records (tld, day) now
  absence_recorded (RefuseRuling refusal) decides follows = cc
  absence_recorded (KeptRuling entry) decides follows =
      let repeat : true ≡ false = ap (λ (r : machine.Reply). r.is_repeat) (accept_inj _ _ _ _ (sym (decides []) ∙ would.1 [])).0 in cc
  absence_recorded (CompareRuling name part extents) decides follows = absurd decides.0.named
  absence_recorded (GoRuling (AddsRegistry other first)) decides follows = let no = decides.0.0 in cc
  absence_recorded (GoRuling (AddsPart name)) decides follows = absurd decides.0.0
  absence_recorded (GoRuling (AddsVerdict stated)) decides follows = let no = decides.0 in cc
  absence_recorded (GoRuling (AddsAbsence other date)) decides follows =
      let same = decides.0 in
      let tld_is : other ≡ tld = cc in
      let day_is : date ≡ day = cc in
      follows.2 ∙ (λ i. with_absence records (tld_is i, day_is i) now)
  absence_recorded (GoRuling (AddsRelease reference other reason)) decides follows = let no = decides.0.0 in cc
  absence_recorded (GoRuling (AddsHold reference other date)) decides follows = let no = decides.0.0 in cc
  absence_recorded (GoRuling (LiftsHold reference)) decides follows = let no = decides.0.0 in cc
  absence_recorded (GoRuling DropsBytes) decides follows = let no = decides.0 in cc

-- ---- each of them

module _ {V S : Type 0} {g : volume.Ghosts V} {database : Ghosts S} where
  abbrev records_in : Custody V S g database → Records
  records_in custody = current_records (open_custody_of custody)

  abbrev AreDue : Custody V S g database → ℕ → List (List ℕ × ℕ) → Type 0
  AreDue custody now days = (day : List ℕ × ℕ) → IsIn days day → IsDue (records_in custody) now day.0 day.1

  abbrev HasRecorded : Custody V S g database → List (List ℕ × ℕ) → ℕ → Custody V S g database → Type 0
  HasRecorded old days now new = (is_open new ≡ true) × (records_in new ≡ with_absences (records_in old) days now)

  sweep_records : (days : List (List ℕ × ℕ)) (old new : Custody V S g database) (now : ℕ) (output errors : Writer) → is_open old ≡ true → Differ days → AreDue old now days → IsSwept days old now new 0 output errors → HasRecorded old days now new
  sweep_records [] old new now output errors opened differ due swept = (ap is_open swept.0 ∙ opened, ap records_in swept.0)
  sweep_records (day ∷ days) old new now output errors opened differ due swept =
      let rest = sweep_records days then new now (record { before = swept.2; after = output.after }) (record { before = swept.3; after = errors.after }) opened_then differ.1 due_then (swept.5 done) in
      (rest.0, rest.1 ∙ ap (λ r. with_absences r days now) records_then)
    where
      then : Custody V S g database
      then = swept.0

      zero_by : (b : Bool) → (swept.1 == 0) ≡ b → swept.1 ≡ 0
      zero_by true e = (Decides-eqb swept.1 0).0 e
      zero_by false e = sym (swept.6 (differs swept.1 0 e)).1

      done : swept.1 ≡ 0
      done = zero_by (swept.1 == 0) refl

      found : (reply : Reply) × (swept.4.0 ≡ Ok reply)
      found = done_of swept.4.0 (subst (IsStatusAfter (answer_status swept.4.0)) done swept.4.2)

      applied : HasApplied old (Check day.0 day.1) now (Ok found.0) then
      applied = subst (λ answer. HasApplied old (Check day.0 day.1) now answer then) found.1 swept.4.1

      opened_then : is_open then ≡ true
      opened_then = ap is_none (applied.closes opened)

      records_then : records_in then ≡ with_absence (records_in old) day now
      records_then = let ruled = (applied.done opened).ruled in
          absence_recorded (records_in old) (records_in then) day.0 day.1 now found.0 (due_checked (records_in old) day.0 day.1 now (due day (inl refl))) ruled.0 ruled.1 ruled.2

      due_then : AreDue then now days
      due_then other at = subst (λ r. IsDue r now other.0 other.1) (sym records_then)
          (stays_due (records_in old) now day other (λ same. differ.0 (subst (IsIn days) (sym same) at)) (due other (inr at)))

  pub sweep_records_due : (old new : Custody V S g database) → SweepRecordsDue old new
  sweep_records_due old new now output errors opened swept =
      sweep_records (due_days (records_in old) now) old new now output errors opened (due_differ (records_in old) now) (λ day at. is_due (records_in old) now day.0 day.1 at) swept
