-- The states of the example, and the parts of each, by the answers of its commands.
use Rattle.std.proofs.Common.{◌≡◌, ℕ, ◌+◌, List, [], ◌∷◌, length, Option, Some, None, Bool, true, false, cond, codes, inl, inr, refl, sym, ◌∙◌, ap, subst, arith, Result, Ok, Err}
use Rattle.std.specs.Prelude.{count_by, drop, take}
use Rattle.std.specs.declared.cmp.Ordering.{Ordering}
use Rattle.std.specs.FinMap as fin
use Rattle.std.specs.FinMap.{FinMap, entries, get-empty, insert, entries-insert, len-entries, len-empty}
use Rattle.schedule.specs.Schedule.{day_of}
use Rattle.deposit_name.specs.declared.errors.NameError.{NameError}
use Rattle.deposit_name.specs.Name.{Name}
use Rattle.desk.specs.declared.grounds.Ground.TheVariants.{Operator}
use Rattle.custody_records.specs.Keys.{PartKey, part_cmp}
use Rattle.custody_records.specs.inside.Orders.{part_total, part_exact}
use Rattle.custody_records.specs.Records as records
use Rattle.custody_records.specs.Records.{key_of}
use Rattle.custody_machine.specs.NameReading.{read_name}
use Rattle.custody_machine.specs.MapValues.{map_keyed}
use Rattle.custody_machine.specs.State.{State, Part, empty}
use Rattle.custody_machine.specs.Machine.{Command, Register, Receive, Statement, Check, Release, Hold, Lift, Purge, Record, OfRegistry, OfPart, OfPurge, Reply, Accept, TimedCommand, step, effect, after, state_after, unless_kept, receive_step, lift_step, hold_of, state_with_registry, state_with_part, received_part, without_bytes, is_due_part, is_dropped, part_dropped_if_due, part_under_name, count_due, kept_record, Step, Refuse}
use Rattle.custody_machine.specs.SameValues.{is_same_state}
use Rattle.custody_machine.specs.History.{is_step_to}
use Rattle.custody_machine.specs.FetchResult.{fetch_result}
use Rattle.custody_machine.specs.ExampleLife.{example_life, clock_moment, example_tld, example_file_name, example_part_key, example_statement, new_reply, reply_again, IsAccepted, AreAccepted, CustodyLives}
use Rattle.custody_machine.proofs.MapValues.{map_keyed-empty, map_keyed-insert}
use Rattle.custody_machine.proofs.Accepting.{step_accepts, accept_inj, made_is_new, repeats_part}
use Rattle.custody_machine.proofs.SameValues.{state_decides}
use Rattle.custody_machine.proofs.Keeping.{Again, accepted_is_kept, asked_again}
use Rattle.theorems.specs.ExampleService.{example_part, example_failure, example_absence, example_release, example_hold, example_lifting, receive_hello, state_of_registry, state_of_part}

-- ---- what a command has made

module _ (s new : State) where
  -- what answers it as new is its effect
  pub effect_is : (command : Command) (now : ℕ) (made : Record) → step s command now ≡ Accept (new_reply made) new → effect s command now ≡ Accept (new_reply made) new
  effect_is command now made is =
      sym (ap (λ o. unless_kept s o (effect s command now)) (made_is_new s command now (new_reply made) new is refl)) ∙ (step_accepts s command now (new_reply made) new is).1

  registered_is : (tld : List ℕ) (day now : ℕ) (made : Record) → step s (Register tld day) now ≡ Accept (new_reply made) new → new ≡ state_with_registry s tld day
  registered_is tld day now made is = sym (accept_inj _ _ _ _ (effect_is (Register tld day) now made is)).1

  received_is : (text bytes : List ℕ) (now : ℕ) (key : PartKey) (part : Part) → step s (Receive text bytes) now ≡ Accept (new_reply (OfPart key part)) new → new ≡ state_with_part s key part
  received_is text bytes now key part is = by (read_name text) (effect_is (Receive text bytes) now (OfPart key part) is)
    where
      by : (r : Result Name NameError) → receive_step s r bytes now ≡ Accept (new_reply (OfPart key part)) new → new ≡ state_with_part s key part
      by (Err fault) e = cc
      by (Ok name) e =
          let same = accept_inj _ _ _ _ e in
          let entry : OfPart (key_of name) (received_part name bytes now) ≡ OfPart key part = ap (λ (reply : Reply). reply.entry) same.0 in
          let keys : key_of name ≡ key = cc in
          let parts : received_part name bytes now ≡ part = cc in
          sym same.1 ∙ (λ i. state_with_part s (keys i) (parts i))

  -- a command that is of no part leaves each as it is
  abbrev is_of_parts : Command → Bool
  is_of_parts (Receive text bytes) = true
  is_of_parts Purge = true
  is_of_parts _ = false

  same_parts : (command : Command) (now : ℕ) (made : Record) → is_of_parts command ≡ false → step s command now ≡ Accept (new_reply made) new → new.parts ≡ s.parts
  same_parts command now made other is = by command other (effect_is command now made is)
    where
      by : (c : Command) → is_of_parts c ≡ false → effect s c now ≡ Accept (new_reply made) new → new.parts ≡ s.parts
      by (Receive text bytes) other e = cc
      by Purge other e = cc
      by (Lift reference) other e = lifted (hold_of s reference) e
        where
          lifted : (o : Option records.Hold) → lift_step s reference now o ≡ Accept (new_reply made) new → new.parts ≡ s.parts
          lifted None e = cc
          lifted (Some hold) e = ap (λ (state : State). state.parts) (sym (accept_inj _ _ _ _ e).1)
      by _ other e = ap (λ (state : State). state.parts) (sym (accept_inj _ _ _ _ e).1)

-- ---- one after the other

abbrev rest : ℕ → List (TimedCommand × Record)
rest n = drop n example_life

module _ (lives : CustodyLives) where
  is_registered : state_after empty (Register example_tld 20_667) (clock_moment 20_667 9 0) ≡ state_of_registry
  is_registered = registered_is _ _ _ _ _ _ lives.accepted.0.accepts

  pub registering : IsAccepted empty state_of_registry (Register example_tld 20_667, clock_moment 20_667 9 0) (OfRegistry example_tld 20_667)
  registering = subst (λ s. IsAccepted empty s (Register example_tld 20_667, clock_moment 20_667 9 0) (OfRegistry example_tld 20_667)) is_registered lives.accepted.0

  from_registered : AreAccepted state_of_registry (rest 1)
  from_registered = subst (λ s. AreAccepted s (rest 1)) is_registered lives.accepted.1

  pub is_received : state_after state_of_registry receive_hello (clock_moment 20_667 10 0) ≡ state_of_part
  is_received = received_is _ _ _ _ _ _ _ from_registered.0.accepts

  pub receiving : IsAccepted state_of_registry state_of_part (receive_hello, clock_moment 20_667 10 0) (OfPart example_part_key example_part)
  receiving = subst (λ s. IsAccepted state_of_registry s (receive_hello, clock_moment 20_667 10 0) (OfPart example_part_key example_part)) is_received from_registered.0

  from_received : AreAccepted state_of_part (rest 2)
  from_received = subst (λ s. AreAccepted s (rest 2)) is_received from_registered.1

-- ---- of what follows the part, without the terms that the states are

-- the states after the statement, the check, the release, the hold, the lifting and the purge, by the answers of these
pub record AreStates (stated checked released on_hold lifted purged : State) : Type 0 where
  pub stating : step state_of_part (Statement example_statement) (clock_moment 20_667 10 5) ≡ Accept (new_reply example_failure) stated
  pub checking : step stated (Check example_tld 20_668) (clock_moment 20_670 0 0) ≡ Accept (new_reply example_absence) checked
  pub releasing : step checked (Release (codes "R-1") example_tld Operator) (clock_moment 20_670 3 0) ≡ Accept (new_reply example_release) released
  pub holding : step released (Hold (codes "H-1") example_tld 20_667) (clock_moment 21_032 9 0) ≡ Accept (new_reply example_hold) on_hold
  pub sparing : step on_hold Purge (clock_moment 21_033 0 0) ≡ Accept (new_reply (OfPurge 0)) on_hold
  pub fetching : fetch_result released (codes "R-1") example_file_name ≡ Ok (codes "hello")
  pub lifting : step on_hold (Lift (codes "H-1")) (clock_moment 21_033 9 0) ≡ Accept (new_reply example_lifting) lifted
  pub purging : step lifted Purge (clock_moment 21_033 10 0) ≡ Accept (new_reply (OfPurge 1)) purged

pub record HasStates : Type 0 where
  pub stated : State
  pub checked : State
  pub released : State
  pub on_hold : State
  pub lifted : State
  pub purged : State
  pub are : AreStates stated checked released on_hold lifted purged

module _ (lives : CustodyLives) where
  abbrev until : List TimedCommand → State
  until commands = after state_of_part commands

  abbrev four : List TimedCommand
  four =
      (Statement example_statement, clock_moment 20_667 10 5)
      ∷ (Check example_tld 20_668, clock_moment 20_670 0 0)
      ∷ (Release (codes "R-1") example_tld Operator, clock_moment 20_670 3 0)
      ∷ (Hold (codes "H-1") example_tld 20_667, clock_moment 21_032 9 0)
      ∷ []

  from_empty : (commands : List TimedCommand) → after empty ((Register example_tld 20_667, clock_moment 20_667 9 0) ∷ (receive_hello, clock_moment 20_667 10 0) ∷ commands) ≡ until commands
  from_empty commands =
      ap (λ s. after s ((receive_hello, clock_moment 20_667 10 0) ∷ commands)) (is_registered lives) ∙ ap (λ s. after s commands) (is_received lives)

  abbrev held_state : State
  held_state = until four

  abbrev lifted_state : State
  lifted_state = state_after held_state (Lift (codes "H-1")) (clock_moment 21_033 9 0)

  pub states : HasStates
  states = let f = from_received lives in record {
    stated = until (take 1 four);
    checked = until (take 2 four);
    released = until (take 3 four);
    on_hold = held_state;
    lifted = lifted_state;
    purged = state_after lifted_state Purge (clock_moment 21_033 10 0);
    are = record {
      stating = f.0.accepts;
      checking = f.1.0.accepts;
      releasing = f.1.1.0.accepts;
      holding = f.1.1.1.0.accepts;
      sparing = subst (λ s. step s Purge (clock_moment 21_033 0 0) ≡ Accept (new_reply (OfPurge 0)) s) (from_empty four) lives.held;
      fetching = ap (λ s. fetch_result s (codes "R-1") example_file_name) (sym (from_empty (take 3 four))) ∙ lives.released;
      lifting = f.1.1.1.1.0.accepts;
      purging = f.1.1.1.1.1.0.accepts;
    };
  }

-- ---- the parts of each

pub nothing : {K X : Type 0} (R : K → K → Ordering) → entries (fin.empty {K = K} {X = X} {R = R}) ≡ []
nothing {X = X} R = of _ (sym (len-entries fin.empty) ∙ len-empty R X)
  where
    of : {A : Type 0} (es : List A) → length es ≡ 0 → es ≡ []
    of [] e = refl
    of (x ∷ es) e = absurd (omega arith)

abbrev pub one_part_of : Part → FinMap part_cmp Part
one_part_of part = insert fin.empty example_part_key part

one_entry : (part : Part) → entries (one_part_of part) ≡ (example_part_key, part) ∷ []
one_entry part = entries-insert part_total fin.empty example_part_key part ∙ ap (fin.put part_cmp example_part_key part) (nothing part_cmp)

module _ (s new : State) (now : ℕ) (parts : s.parts ≡ one_part_of example_part) (is : step s Purge now ≡ Accept (new_reply (OfPurge 1)) new) where
  did : effect s Purge now ≡ Accept (new_reply (OfPurge 1)) new
  did = effect_is s new Purge now (OfPurge 1) is

  due : is_due_part s.holds (day_of now) example_part_key example_part ≡ true
  due =
      let counted : OfPurge (count_due s (day_of now)) ≡ OfPurge 1 = ap (λ (reply : Reply). reply.entry) (accept_inj _ _ _ _ did).0 in
      let one : count_due s (day_of now) ≡ 1 = cc in
      let es = ap entries parts ∙ one_entry example_part in
      by _ (sym (ap (count_by (λ (e : PartKey × Part). is_due_part s.holds (day_of now) e.0 e.1)) es) ∙ one)
    where
      by : (b : Bool) → 0 + cond b 1 0 ≡ 1 → b ≡ true
      by true e = refl
      by false e = absurd (omega (arith, e))

  pub purged_parts : new.parts ≡ one_part_of (without_bytes example_part)
  purged_parts =
      let drops = part_dropped_if_due s.holds (day_of now) in
      ap (λ (state : State). state.parts) (sym (accept_inj _ _ _ _ did).1)
      ∙ ap (map_keyed drops) parts
      ∙ map_keyed-insert part_cmp part_exact drops part_total fin.empty example_part_key example_part
      ∙ ap (λ m. insert m example_part_key (drops example_part_key example_part)) (map_keyed-empty part_cmp part_exact drops part_total)
      ∙ ap (λ b. one_part_of (cond b (without_bytes example_part) example_part)) due

module _ (stated checked released on_hold lifted purged : State) (are : AreStates stated checked released on_hold lifted purged) where
  pub stated_parts : stated.parts ≡ one_part_of example_part
  stated_parts = same_parts _ _ _ _ _ refl are.stating

  pub checked_parts : checked.parts ≡ one_part_of example_part
  checked_parts = same_parts _ _ _ _ _ refl are.checking ∙ stated_parts

  pub released_parts : released.parts ≡ one_part_of example_part
  released_parts = same_parts _ _ _ _ _ refl are.releasing ∙ checked_parts

  pub held_parts : on_hold.parts ≡ one_part_of example_part
  held_parts = same_parts _ _ _ _ _ refl are.holding ∙ released_parts

  pub lifted_parts : lifted.parts ≡ one_part_of example_part
  lifted_parts = same_parts _ _ _ _ _ refl are.lifting ∙ held_parts

  pub dropped_parts : purged.parts ≡ one_part_of (without_bytes example_part)
  dropped_parts = purged_parts lifted purged _ lifted_parts are.purging

  -- what is released is fetched while it is on hold
  pub fetched : fetch_result on_hold (codes "R-1") example_file_name ≡ Ok (codes "hello")
  fetched =
      let did = effect_is released on_hold _ _ _ are.holding in
      ap (λ s. fetch_result s (codes "R-1") example_file_name) (sym (accept_inj _ _ _ _ did).1) ∙ are.fetching

-- ---- the part that comes again, and what a stop has left of it

module _ (lives : CustodyLives) where
  -- the part is recorded
  recorded_again : kept_record state_of_part receive_hello ≡ Some (OfPart example_part_key example_part)
  recorded_again = by (kept_record state_of_part receive_hello) (step_accepts state_of_part receive_hello _ _ _ (receiving lives).again).1
    where
      by : (o : Option Record) → unless_kept state_of_part o (effect state_of_part receive_hello (clock_moment 20_667 10 0)) ≡ Accept (reply_again (OfPart example_part_key example_part)) state_of_part → o ≡ Some (OfPart example_part_key example_part)
      by (Some entry) e = ap (λ (reply : Reply). Some reply.entry) (accept_inj _ _ _ _ e).0
      by None e = absurd (anew (read_name example_file_name) e)
        where
          anew : (r : Result Name NameError) → receive_step state_of_part r (codes "hello") (clock_moment 20_667 10 0) ≡ Accept (reply_again (OfPart example_part_key example_part)) state_of_part → ⊥
          anew (Err fault) e = cc
          anew (Ok name) e = let clash : false ≡ true = ap (λ (reply : Reply). reply.is_repeat) (accept_inj _ _ _ _ e).0 in cc

  -- at whatever moment it comes again, it is answered by its record
  pub repeats_at : (now : ℕ) → step state_of_part receive_hello now ≡ Accept (record { entry = OfPart example_part_key example_part; is_repeat = true }) state_of_part
  repeats_at now = by (asked_again state_of_part receive_hello (OfPart example_part_key example_part) now refl (accepted_is_kept _ _ _ _ _ (receiving lives).accepts) tt).0
    where
      by : Again state_of_part receive_hello (OfPart example_part_key example_part) now → step state_of_part receive_hello now ≡ Accept (record { entry = OfPart example_part_key example_part; is_repeat = true }) state_of_part
      by (inl is) = is
      by (inr (refuses, (name, read, dropped))) =
          let none = (step_accepts state_of_part receive_hello _ _ _ (receiving lives).again).0 in
          let r = repeats_part state_of_part example_file_name (codes "hello") _ (OfPart example_part_key example_part) none recorded_again in
          let same : Ok name ≡ Ok r.name = sym read ∙ r.named in
          let names : name ≡ r.name = cc in
          let clash : true ≡ false = sym dropped ∙ ap (λ n. is_dropped (part_under_name state_of_part n)) names ∙ r.none.dropped in
          cc

  abbrev once_registered : State
  once_registered = after empty ((Register example_tld 20_667, clock_moment 20_667 9 0) ∷ [])

  -- a stop has left it out
  pub left_out : (now : ℕ) → is_step_to (step once_registered receive_hello now) (Some state_of_registry) ≡ false
  left_out now = ap (λ s. is_step_to (step s receive_hello now) (Some state_of_registry)) (is_registered lives) ∙ by (step state_of_registry receive_hello now) refl
    where
      by : (r : Step) → step state_of_registry receive_hello now ≡ r → is_step_to r (Some state_of_registry) ≡ false
      by (Refuse refusal) is = refl
      by (Accept reply new) is = differs (is_same_state state_of_registry new) refl
        where
          differs : (b : Bool) → is_same_state state_of_registry new ≡ b → b ≡ false
          differs false e = refl
          differs true e =
              let same = (state_decides state_of_registry new).0 e in
              let kept = accepted_is_kept state_of_registry receive_hello now reply state_of_registry (is ∙ ap (Accept reply) (sym same)) in
              let clash : Some kept.kept ≡ None = sym kept.at ∙ get-empty {X = Part} part_cmp (key_of kept.name) in
              cc

  -- or it is found
  pub taken_in : is_step_to (step once_registered receive_hello (clock_moment 20_667 10 0)) (Some state_of_part) ≡ true
  taken_in =
      ap (λ s. is_step_to (step s receive_hello (clock_moment 20_667 10 0)) (Some state_of_part)) (is_registered lives)
      ∙ ap (λ r. is_step_to r (Some state_of_part)) (receiving lives).accepts ∙ (state_decides state_of_part state_of_part).1 refl
