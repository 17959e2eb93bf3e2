-- One life of a custody, computed command by command.
use Rattle.std.proofs.Common.{◌≡◌, ◌≢◌, ℕ, List, [], ◌∷◌, ◌==◌, length, is_some, Some, None, Bool, true, false, cond, codes, refl, sym, ◌∙◌, ap, subst, arith, Ok, Err}
use Rattle.std.specs.Prelude.{slice_index}
use Rattle.std.specs.Fmt.{digits}
use Rattle.std.specs.Ordering.{eq_by_cmp}
use Rattle.std.specs.declared.cmp.Ordering.{Ordering}
use Rattle.std.specs.FinMap as fin
use Rattle.std.specs.FinMap.{entries, get, insert, get-empty, get-insert, entries-insert, len-entries, len-empty}
use Rattle.schedule.specs.Calendar.{date_of, day_number, days_of_years, days_of_months}
use Rattle.schedule.specs.Schedule.{year_after}
use Rattle.deposit_name.specs.declared.kinds.Kind.TheVariants.{Full}
use Rattle.deposit_name.specs.Name.{Name, IsName, name_text}
use Rattle.deposit_name.proofs.IdentifierLemmas.{is_tld-IsTld}
use Rattle.desk.specs.declared.checks.Check.TheVariants.{Frame}
use Rattle.desk.specs.declared.grounds.Ground.TheVariants.{Operator}
use Rattle.desk.specs.declared.notices.NoticeKind.TheVariants.{Failure, Absence}
use Rattle.deposit_verify.specs.declared.verdict.Verdict.TheVariants.{Fail}
use Rattle.deposit_verify.specs.Known.{Known}
use Rattle.deposit_verify.specs.Verdict.{verdict, IsLawful}
use Rattle.deposit_verify.specs.Checks.{PassesCheck, IsVerdict}
use Rattle.deposit_verify.proofs.Verdicts.{below_none}
use Rattle.custody_records.specs.Keys.{PartKey, text_cmp, part_cmp, NoticeKey, notice_cmp}
use Rattle.custody_records.specs.inside.Orders.{text_total, part_total, part_exact, notice_total}
use Rattle.custody_records.specs.Records as records
use Rattle.custody_records.specs.Records.{Notice}
use Rattle.custody_machine.specs.declared.answers.Refusal.TheVariants.{DroppedAfterKeeping}
use Rattle.custody_machine.specs.NameReading.{read_name}
use Rattle.custody_machine.specs.State.{State, Part, empty}
use Rattle.custody_machine.specs.MapValues.{map_keyed}
use Rattle.custody_machine.specs.Machine.{Command, Register, Receive, Statement, Check, Release, Hold, Lift, Purge, Record, OfRegistry, OfPart, OfNotice, OfRelease, OfHold, OfLifting, OfPurge, Accept, TimedCommand, refusal_of, kept_record, effect, unless_kept, step, state_of, state_after, after, state_with_registry, state_with_part, received_part, state_with_notice, state_with_release, state_with_hold, lifting_of, without_bytes, is_dropped, part_dropped_if_due, count_due}
use Rattle.custody_machine.specs.History.{Running, Stopped, HappensAlong, found}
use Rattle.custody_machine.specs.Examples.{pair_of}
use Rattle.custody_machine.specs.FetchResult.{fetch_result}
use Rattle.custody_machine.specs.ExampleLife.{clock_moment, example_tld, example_file_name, example_part_key, example_statement, example_notice_key, entries_until_release, entries_until_hold, example_life, commands_of, new_reply, reply_again, IsAccepted, AreAccepted, life_events, CustodyLives}
use Rattle.custody_machine.proofs.MapValues.{map_keyed-empty, map_keyed-insert}
use Rattle.custody_machine.proofs.Accepting.{read_of, step_none, step_repeats, insert_here}
use Rattle.custody_machine.proofs.Examples.{has_examples}

-- ---- a name, a verdict and a day

abbrev name : Name
name = record { tld = example_tld; day = 20_667; kind = Full; part = 1; rev = 0 }

name_in_form : IsName name
name_in_form = record {
  tld = (is_tld-IsTld example_tld).0 refl;
  day = (omega arith, omega arith);
  part = (omega arith, omega arith);
  rev = omega arith;
}

file_of_name : example_file_name ≡ name_text name
unfolding date_of digits
file_of_name = refl

name_read : read_name example_file_name ≡ Ok name
name_read = read_of example_file_name name (name_in_form, file_of_name)

-- the five bytes begin otherwise than a frame
hello_fails : (known : Known) → IsVerdict (codes "hello") known (Fail Frame)
hello_fails known = (λ holds. let first : 104 ≡ 82 = ap (λ (t : List ℕ). slice_index t 0) holds.2.1 in absurd (omega arith), below_none (PassesCheck (codes "hello") known))

kept_until : year_after 20_667 ≡ 21_032
unfolding year_after date_of day_number days_of_years days_of_months
kept_until = refl

-- ---- maps of one entry, and of none

nothing : {K X : Type 0} (R : K → K → Ordering) → entries (fin.empty {K = K} {X = X} {R = R}) ≡ []
nothing {X = X} R = of _ (sym (len-entries fin.empty) ∙ len-empty R X)
  where
    of : {A : Type 0} (es : List A) → length es ≡ 0 → es ≡ []
    of [] e = refl
    of (x ∷ es) e = absurd (omega arith)

-- ---- the states

abbrev registered : State
registered = state_with_registry empty example_tld 20_667

abbrev part : Part
part = received_part name (codes "hello") (clock_moment 20_667 10 0)

abbrev received : State
received = state_with_part registered example_part_key part

abbrev failure : Notice
failure = record { day = 20_667; at = clock_moment 20_667 10 5; kind = Failure 0 (codes "X") Frame }

abbrev stated : State
stated = state_with_notice received (example_notice_key 1) failure

abbrev absence : Notice
absence = record { day = 20_668; at = clock_moment 20_670 0 0; kind = Absence }

abbrev checked : State
checked = state_with_notice stated (example_notice_key 2) absence

abbrev release : records.Release
release = record { tld = example_tld; reason = Operator; at = clock_moment 20_670 3 0; names = example_file_name ∷ [] }

abbrev released : State
released = state_with_release checked (codes "R-1") release

abbrev standing : records.Hold
standing = records.new_hold example_tld 20_667 (clock_moment 21_032 9 0)

abbrev held : State
held = state_with_hold released (codes "H-1") standing

abbrev lifted : State
lifted = state_with_hold held (codes "H-1") (records.lifted_at (clock_moment 21_033 9 0) standing)

abbrev purged : State
purged = record lifted { parts = insert fin.empty example_part_key (without_bytes part) }

-- ---- what the maps have

first_day : get registered.registries example_tld ≡ Some 20_667
first_day = insert_here text_total fin.empty example_tld 20_667

one_part : (p : Part) (q : PartKey) → get (insert (fin.empty {R = part_cmp}) example_part_key p) q ≡ cond (eq_by_cmp part_cmp q example_part_key) (Some p) None
one_part p q = get-insert part_total fin.empty example_part_key p q ∙ ap (cond (eq_by_cmp part_cmp q example_part_key) (Some p)) (get-empty part_cmp q)

one_entry : (p : Part) → entries (insert (fin.empty {R = part_cmp}) example_part_key p) ≡ (example_part_key, p) ∷ []
one_entry p = entries-insert part_total fin.empty example_part_key p ∙ ap (fin.put part_cmp example_part_key p) (nothing part_cmp)

no_notices : entries (fin.empty {X = Notice} {R = notice_cmp}) ≡ []
no_notices = nothing notice_cmp

one_notice : entries (insert (fin.empty {R = notice_cmp}) (example_notice_key 1) failure) ≡ (example_notice_key 1, failure) ∷ []
one_notice = entries-insert notice_total fin.empty (example_notice_key 1) failure ∙ ap (fin.put notice_cmp (example_notice_key 1) failure) no_notices

two_notices : entries (insert (insert (fin.empty {R = notice_cmp}) (example_notice_key 1) failure) (example_notice_key 2) absence) ≡ (example_notice_key 1, failure) ∷ (example_notice_key 2, absence) ∷ []
two_notices = entries-insert notice_total _ (example_notice_key 2) absence ∙ ap (fin.put notice_cmp (example_notice_key 2) absence) one_notice

released_under : get released.releases (codes "R-1") ≡ Some release
released_under = insert_here text_total fin.empty (codes "R-1") release

held_under : get held.holds (codes "H-1") ≡ Some standing
held_under = insert_here text_total fin.empty (codes "H-1") standing

held_entries : entries held.holds ≡ (codes "H-1", standing) ∷ []
held_entries = entries-insert text_total fin.empty (codes "H-1") standing ∙ ap (fin.put text_cmp (codes "H-1") standing) (nothing text_cmp)

lifted_under : get lifted.holds (codes "H-1") ≡ Some (records.lifted_at (clock_moment 21_033 9 0) standing)
lifted_under = insert_here text_total held.holds (codes "H-1") (records.lifted_at (clock_moment 21_033 9 0) standing)

lifted_entries : entries lifted.holds ≡ (codes "H-1", records.lifted_at (clock_moment 21_033 9 0) standing) ∷ []
lifted_entries = entries-insert text_total held.holds (codes "H-1") (records.lifted_at (clock_moment 21_033 9 0) standing) ∙ ap (fin.put text_cmp (codes "H-1") (records.lifted_at (clock_moment 21_033 9 0) standing)) held_entries

-- ---- the commands

-- what a test tells apart is not the same
apart : (test : State → Bool) (a b : State) → test a ≡ true → test b ≡ false → a ≢ b
apart test a b passes fails same = let clash : true ≡ false = sym passes ∙ ap test same ∙ fails in cc

-- a command that is not refused and no repeat has its effect
made : (old new : State) (c : Command) (now : ℕ) (record_made : Record) → refusal_of old c now ≡ None → kept_record old c ≡ None → effect old c now ≡ Accept (new_reply record_made) new → step old c now ≡ Accept (new_reply record_made) new
made old new c now record_made stands repeats gives = step_none old c now stands ∙ (λ i. unless_kept old (repeats i) (gives i))

accepted : (old new : State) (c : Command) (now : ℕ) (record_made : Record) → step old c now ≡ Accept (new_reply record_made) new → new ≢ old → step new c now ≡ Accept (reply_again record_made) new → IsAccepted old new (c, now) record_made
accepted old new c now record_made accepts changes again = record { accepts = accepts; changes = changes; again = again; examples = has_examples old new c now (new_reply record_made) accepts }

registering : IsAccepted empty registered (Register example_tld 20_667, clock_moment 20_667 9 0) (OfRegistry example_tld 20_667)
registering = accepted _ _ _ _ _ (made _ _ _ _ _ refl (simp (get-empty {X = ℕ} text_cmp)) refl) (apart (λ state. is_some (get state.registries example_tld)) _ _ (ap is_some first_day) (ap is_some (get-empty text_cmp example_tld))) (step_repeats _ _ _ _ refl (simp first_day))

receiving : IsAccepted registered received (Receive example_file_name (codes "hello"), clock_moment 20_667 10 0) (OfPart example_part_key part)
receiving = accepted _ _ _ _ _
    (made _ _ _ _ _ (simp (name_read, first_day, get-empty {X = Part} part_cmp, no_notices)) (simp (name_read, get-empty {X = Part} part_cmp)) (simp name_read))
    (apart (λ state. is_some (get state.parts example_part_key)) _ _ (ap is_some (one_part part example_part_key)) (ap is_some (get-empty {X = Part} part_cmp example_part_key))) (step_repeats _ _ _ _ (simp (name_read, first_day, one_part, no_notices)) (simp (name_read, one_part)))

stating : IsLawful → IsAccepted received stated (Statement example_statement, clock_moment 20_667 10 5) (OfNotice (example_notice_key 1) failure)
stating lawful = accepted _ _ _ _ _
    (made _ _ _ _ _ (simp (first_day, one_part, no_notices)) (simp (one_part, no_notices)) (simp (one_part, no_notices, fails)))
    (apart (λ state. length (entries state.notices) == 1) _ _ (ap (λ (es : List (NoticeKey × Notice)). length es == 1) one_notice) (ap (λ (es : List (NoticeKey × Notice)). length es == 1) no_notices)) (step_repeats _ _ _ _ (simp (first_day, one_part, one_notice)) (simp (one_part, one_notice)))
  where
    fails : (known : Known) → verdict (codes "hello") known ≡ Fail Frame
    fails known = sym (lawful.only (codes "hello") known (Fail Frame) (hello_fails known))

checking : IsAccepted stated checked (Check example_tld 20_668, clock_moment 20_670 0 0) (OfNotice (example_notice_key 2) absence)
checking = accepted _ _ _ _ _ (made _ _ _ _ _ (simp (first_day, one_notice)) (simp one_notice) (simp one_notice)) (apart (λ state. length (entries state.notices) == 2) _ _ (ap (λ (es : List (NoticeKey × Notice)). length es == 2) two_notices) (ap (λ (es : List (NoticeKey × Notice)). length es == 2) one_notice)) (step_repeats _ _ _ _ (simp (first_day, two_notices)) (simp two_notices))

releasing : IsAccepted checked released (Release (codes "R-1") example_tld Operator, clock_moment 20_670 3 0) (OfRelease (codes "R-1") release)
releasing = accepted _ _ _ _ _
    (made _ _ _ _ _ (simp (first_day, get-empty {X = records.Release} text_cmp)) (simp (get-empty {X = records.Release} text_cmp)) (simp (one_entry, sym file_of_name)))
    (apart (λ state. is_some (get state.releases (codes "R-1"))) _ _ (ap is_some released_under) (ap is_some (get-empty text_cmp (codes "R-1")))) (step_repeats _ _ _ _ (simp (first_day, released_under)) (simp released_under))

holding : IsAccepted released held (Hold (codes "H-1") example_tld 20_667, clock_moment 21_032 9 0) (OfHold (codes "H-1") standing)
holding = accepted _ _ _ _ _
    (made _ _ _ _ _ (simp (first_day, get-empty {X = records.Hold} text_cmp)) (simp (get-empty {X = records.Hold} text_cmp)) refl)
    (apart (λ state. is_some (get state.holds (codes "H-1"))) _ _ (ap is_some held_under) (ap is_some (get-empty text_cmp (codes "H-1")))) (step_repeats _ _ _ _ (simp (first_day, held_under)) (simp held_under))

lifting : IsAccepted held lifted (Lift (codes "H-1"), clock_moment 21_033 9 0) (OfLifting (codes "H-1") (clock_moment 21_033 9 0))
lifting = accepted _ _ _ _ _
    (made _ _ _ _ _ (simp held_under) (simp held_under) (simp held_under))
    (apart (λ state. is_some (lifting_of state (codes "H-1"))) _ _ (simp lifted_under) (simp held_under)) (step_repeats _ _ _ _ (simp lifted_under) (simp lifted_under))

-- a purge of one part, with these holds
dropping : (holds : fin.FinMap text_cmp records.Hold) (old new : Part) → part_dropped_if_due holds 21_033 example_part_key old ≡ new → map_keyed (part_dropped_if_due holds 21_033) (insert (fin.empty {R = part_cmp}) example_part_key old) ≡ insert fin.empty example_part_key new
dropping holds old new is = map_keyed-insert part_cmp part_exact (part_dropped_if_due holds 21_033) part_total fin.empty example_part_key old
    ∙ (λ i. insert (map_keyed-empty part_cmp part_exact (part_dropped_if_due holds 21_033) part_total i) example_part_key (is i))

purging : IsAccepted lifted purged (Purge, clock_moment 21_033 10 0) (OfPurge 1)
purging = accepted _ _ _ _ _
    (made _ _ _ _ _ refl refl (λ i. Accept (new_reply (OfPurge (one_due i))) (record lifted { parts = dropping lifted.holds part (without_bytes part) due i })))
    (apart (λ state. is_dropped (get state.parts example_part_key)) _ _ (ap is_dropped (one_part (without_bytes part) example_part_key)) (ap is_dropped (one_part part example_part_key)))
    (made _ _ _ _ _ refl refl (λ i. Accept (new_reply (OfPurge (none_due i))) (record lifted { parts = dropping lifted.holds (without_bytes part) (without_bytes part) refl i })))
  where
    due : part_dropped_if_due lifted.holds 21_033 example_part_key part ≡ without_bytes part
    due = simp (kept_until, lifted_entries)

    one_due : count_due lifted 21_033 ≡ 1
    one_due = simp (one_entry, kept_until, lifted_entries)

    none_due : count_due purged 21_033 ≡ 0
    none_due = simp one_entry

-- while its day is on hold the part stays
spared : step held Purge (clock_moment 21_033 0 0) ≡ Accept (new_reply (OfPurge 0)) held
spared = made _ _ _ _ _ refl refl (λ i. Accept (new_reply (OfPurge (none_due i))) (record held { parts = dropping held.holds part part stays i }))
  where
    stays : part_dropped_if_due held.holds 21_033 example_part_key part ≡ part
    stays = simp (kept_until, held_entries)

    none_due : count_due held 21_033 ≡ 0
    none_due = simp (one_entry, kept_until, held_entries)

-- ---- what is fetched

hello_is_fetched : fetch_result released (codes "R-1") example_file_name ≡ Ok (codes "hello")
hello_is_fetched = simp (released_under, name_read, one_part)

hello_is_dropped : fetch_result purged (codes "R-1") example_file_name ≡ Err DroppedAfterKeeping
hello_is_dropped = simp (released_under, name_read, one_part)

-- ---- the life

-- from one state to another, by commands that make these records
LeadTo : State → List (TimedCommand × Record) → State → Type 0
LeadTo old [] end = old ≡ end
LeadTo old (one ∷ later) end = (new : State) × IsAccepted old new one.0 one.1 × LeadTo new later end

until_released : IsLawful → LeadTo empty entries_until_release released
unfolding LeadTo
until_released lawful = (registered, registering, (received, receiving, (stated, stating lawful, (checked, checking, (released, releasing, refl)))))

until_held : IsLawful → LeadTo empty entries_until_hold held
unfolding LeadTo
until_held lawful = (registered, registering, (received, receiving, (stated, stating lawful, (checked, checking, (released, releasing, (held, holding, refl))))))

until_purged : IsLawful → LeadTo empty example_life purged
unfolding LeadTo
until_purged lawful =
    (registered, registering, (received, receiving, (stated, stating lawful, (checked, checking, (released, releasing, (held, holding, (lifted, lifting, (purged, purging, refl))))))))

goes : (old new : State) (one : TimedCommand × Record) → IsAccepted old new one.0 one.1 → new ≡ state_after old one.0.0 one.0.1
goes old new one is = sym (ap (state_of old) is.accepts)

are_accepted : (old : State) (ones : List (TimedCommand × Record)) (end : State) → LeadTo old ones end → AreAccepted old ones
unfolding LeadTo
are_accepted old [] end leads = tt
are_accepted old (one ∷ later) end leads =
    subst (λ (new : State). IsAccepted old new one.0 one.1 × AreAccepted new later) (goes old leads.0 one leads.1) (leads.1, are_accepted leads.0 later end leads.2)

is_after : (old : State) (ones : List (TimedCommand × Record)) (end : State) → LeadTo old ones end → after old (commands_of ones) ≡ end
unfolding LeadTo
is_after old [] end leads = leads
is_after old (one ∷ later) end leads = ap (λ new. after new (commands_of later)) (sym (goes old leads.0 one leads.1)) ∙ is_after leads.0 later end leads.2

all_accepted : IsLawful → AreAccepted empty example_life
all_accepted lawful = are_accepted empty example_life purged (until_purged lawful)

-- ---- the history

ran : (old : State) (ones : List (TimedCommand × Record)) → AreAccepted old ones → HappensAlong (Running old) (life_events ones (after old (commands_of ones))) (Running (after old (commands_of ones)))
ran old [] each = (Stopped (pair_of old), ((old, refl, refl, refl), refl), (Running old, (refl, refl, refl), refl))
ran old (one ∷ later) each = (Running (state_after old one.0.0 one.0.1), (state_after old one.0.0 one.0.1, each.0.accepts, refl), ran (state_after old one.0.0 one.0.1) later each.1)

all_found : (end : State) → found empty (life_events example_life end) ≡ commands_of example_life
all_found end = refl

pub custody_lives : IsLawful → CustodyLives
custody_lives lawful = record {
  accepted = all_accepted lawful;
  found = ((Running empty, Running (after empty (commands_of example_life)), refl, ran empty example_life (all_accepted lawful)), all_found (after empty (commands_of example_life)));
  held = subst (λ state. step state Purge (clock_moment 21_033 0 0) ≡ Accept (new_reply (OfPurge 0)) state) (sym (is_after empty entries_until_hold held (until_held lawful))) spared;
  released = ap (λ state. fetch_result state (codes "R-1") example_file_name) (is_after empty entries_until_release released (until_released lawful)) ∙ hello_is_fetched;
  dropped = ap (λ state. fetch_result state (codes "R-1") example_file_name) (is_after empty example_life purged (until_purged lawful)) ∙ hello_is_dropped;
}
