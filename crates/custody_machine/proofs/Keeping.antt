-- What the machine keeps of an accepted command for good.
use Rattle.std.proofs.Common.{◌≡◌, ℕ, List, [], Option, Some, None, Bool, true, false, not, ◌&&◌, ◌⊎◌, inl, inr, refl, sym, ◌∙◌, ap, subst, cond, is_none, Ok}
use Rattle.std.specs.Prelude.{option_map}
use Rattle.std.specs.Prelude.{is_some}
use Rattle.std.specs.List as list
use Rattle.std.specs.FinMap.{entries, get}
use Rattle.std.proofs.lemmas.Bool.{not-true}
use Rattle.std.proofs.lemmas.Bool.Decides.{Decides-eqb}
use Rattle.std.proofs.lemmas.Option.{same_Some}
use Rattle.schedule.specs.Schedule.{day_of}
use Rattle.deposit_name.specs.declared.kinds.Kind.{Kind}
use Rattle.deposit_name.specs.Name.{is_same_kind}
use Rattle.deposit_name.proofs.KindLemmas.{same_kind_decides}
use Rattle.deposit_verify.specs.declared.verdict.Verdict.{Verdict}
use Rattle.deposit_verify.specs.declared.verdict.Verdict.TheVariants.{Pass, Fail}
use Rattle.desk.specs.declared.notices.NoticeKind.{NoticeKind}
use Rattle.desk.specs.declared.notices.NoticeKind.TheVariants.{Receipt, Failure, Absence}
use Rattle.custody_records.specs.Keys.{NoticeKey}
use Rattle.custody_records.specs.Records as kept_in
use Rattle.custody_records.specs.Records.{Notice, key_of, lifted_at, new_hold}
use Rattle.custody_machine.specs.NameReading.{read_name}
use Rattle.custody_machine.specs.State.{State, Part, Held, is_notice_of}
use Rattle.custody_machine.specs.Machine.{HoldUnknown, is_on_ground, is_held_day, Check, Release, Hold, Lift, Purge, OfRelease, OfHold, OfLifting, OfPurge, kept_hold, lifting_of, state_with_hold, kept_release, new_release, has_ground, without_bytes, count_due, absence_of, absence_notice, is_absence, is_day_outside, OfNotice, has_part_of_other_kind, has_other_count, first_part, keys_if_made, has_id, is_verdict_of, recorded_verdict, has_dropped_part, are_parts_as_stated, kept_verdict, state_with_notice, next_key, verdict_notice, notice_kind, verdict_on, Command, Register, Receive, Statement, Refusal, DroppedAfterKeeping, Record, OfRegistry, OfPart, Reply, Refuse, Accept, first_day_of, part_under_name, is_held_with_other, has_other_bytes, is_dropped, are_bytes_dropped, refusal_of, state_with_release, received_part, kept_record, step, deciding_keys, compared_keys, HasRecord, receive_tests, named_tests, first_refusal, verdict_keys, notice_record, tests_of, statement_tests, check_tests, release_tests, hold_tests}
use Rattle.custody_machine.specs.Retries.{CommandKey, OfTld, command_key, are_same_keys, has_same_key, compared_command, IsDroppedSince, IsKeptAs, StillHas, KeepsRecords, RepliesAreRecords, IsOfCommand}
use Rattle.custody_machine.proofs.SameValues.{text_decides, ground_decides}
use Rattle.custody_records.specs.inside.Orders.{text_total, part_total, notice_total}
use Rattle.custody_machine.proofs.Entries.{passes_found, none_found, find_new, next_is_new}
use Rattle.custody_machine.proofs.Stated.{NoneStandsOf, none_stand_of}
use Rattle.custody_machine.proofs.Checked.{none_stand_on}
use Rattle.custody_machine.proofs.Released.{none_stand_for, kept_release_is, kept_release_of}
use Rattle.custody_machine.proofs.Options.{some_is, is_there, mapped, unmapped, kept_there}
use Rattle.custody_machine.proofs.Accepting.{all_fail, none_of_all, none_stand, find_dropped, step_accepts, step_none, step_refuses, step_repeats, accept_inj, Makes, by_outcome, repeats_part, insert_here, held_bytes, answered, rules_part, recorded_is, recorded_of}
use Rattle.custody_machine.proofs.Holding.{none_stand_to, as_hold, held_day_stays, kept_hold_is, kept_hold_of, lifting_has, lifting_is, still_on_hold}
use Rattle.custody_machine.proofs.Continuing.{Continues, IsKeptPart, KeepsAbsence, KeepsHold, KeepsPart, KeepsRelease, KeepsVerdict, and_both, kept_itself, first_is_there, hold_is_kept, is_verdict_on, kept_of, kept_tells, notice_tells, lifting_is_kept, part_is_kept, registry_is_kept, release_is_kept, still, told_is_there, unstated_of, verdict_id, verdict_rev}

-- The state keeps what a command made.
abbrev pub Keeps : State → Command → Record → Type 0
Keeps s (Register tld day) entry = (kept : ℕ) × (first_day_of s tld ≡ Some kept) × (entry ≡ OfRegistry tld kept)
Keeps s (Receive text bytes) entry = KeepsPart s text bytes entry
Keeps s (Statement stated) entry = KeepsVerdict s stated entry
Keeps s (Check tld day) entry = KeepsAbsence s tld day entry
Keeps s (Release reference tld reason) entry = KeepsRelease s reference tld reason entry
Keeps s (Hold reference tld day) entry = KeepsHold s reference tld day entry
Keeps s (Lift reference) entry = (at : ℕ) × (lifting_of s reference ≡ Some at) × (entry ≡ OfLifting reference at)
Keeps s Purge entry = (count : ℕ) × (entry ≡ OfPurge count)

-- what was kept of a part, and is still
pub still_kept : (part a b : Part) → IsKeptPart part a → IsKeptPart a b → IsKeptPart part b
still_kept part a b (inl p) (inl q) = inl (q ∙ p)
still_kept part a b (inl p) (inr q) = inr (q ∙ ap without_bytes p)
still_kept part a b (inr p) (inl q) = inr (q ∙ p)
still_kept part a b (inr p) (inr q) = inr (q ∙ ap without_bytes p)

is_known : (s new : State) (tld : List ℕ) → KeepsRecords s new → is_none (first_day_of s tld) ≡ false → is_none (first_day_of new tld) ≡ false
is_known s new tld k e = let day = some_is (first_day_of s tld) (is_there (first_day_of s tld) e) in ap is_none (registry_is_kept s new tld day.0 k day.1)

pub keeps_on : (s new : State) (c : Command) (entry : Record) → Continues s new → Keeps s c entry → Keeps new c entry
keeps_on s new (Statement st) entry k h = record { kept = h.kept; found = k.verdicts st h.kept h.found; made = h.made; registry = is_known s new st.tld k.records h.registry }
keeps_on s new (Check tld day) entry k h = record { kept = h.kept; found = k.absences tld day h.kept h.found; made = h.made; registry = is_known s new tld k.records h.registry }
keeps_on s new (Release reference tld reason) entry k h =
    let is = kept_release_is s reference tld reason h.kept h.found in
    record { kept = h.kept; found = kept_release_of new reference tld reason h.kept (release_is_kept s new reference h.kept k.records is.0) is.1; made = h.made; registry = is_known s new tld k.records h.registry }
keeps_on s new (Hold reference tld day) entry k h =
    let is = kept_hold_is s reference tld day h.kept h.found in
    let on = hold_is_kept s new reference h.kept k.records is.0 in
    record {
      told = h.told;
      kept = on.0;
      found = kept_hold_of new reference tld day on.0 on.1 (held_day_stays tld day h.kept on.0 on.2 ∙ is.1);
      made = h.made;
      same = still_on_hold h.told h.kept on.0 h.same on.2;
      registry = is_known s new tld k.records h.registry;
    }
keeps_on s new (Lift reference) entry k h = (h.0, lifting_is_kept s new reference h.0 k.records h.1, h.2)
keeps_on s new Purge entry k h = h
keeps_on s new (Register tld day) entry k h = (h.0, registry_is_kept s new tld h.0 k.records h.1, h.2)
keeps_on s new (Receive text bytes) entry k h =
    let on = part_is_kept s new (key_of h.name) h.kept k.records h.at in
    record {
      name = h.name;
      part = h.part;
      kept = on.0;
      named = h.named;
      made = h.made;
      content = h.content;
      kind = h.kind;
      registry = is_known s new h.name.tld k.records h.registry;
      size = h.size;
      at = on.1;
      same = still_kept h.part h.kept on.0 h.same on.2;
    }

kind_itself : (kind : Kind) → is_same_kind kind kind ≡ true
kind_itself kind = (same_kind_decides kind kind).1 refl

-- what answers a repeat is kept
repeated_is_kept : (s : State) (c : Command) (now : ℕ) (entry : Record) → refusal_of s c now ≡ None → kept_record s c ≡ Some entry → Keeps s c entry
repeated_is_kept s (Register tld day) now entry none at = let h = mapped _ (first_day_of s tld) entry at in (h.0, h.1, sym h.2)
repeated_is_kept s (Receive text bytes) now entry none at =
    let r = repeats_part s text bytes now entry none at in
    let is = recorded_is s r.name r.part r.at in
    record {
      name = r.name;
      part = r.part;
      kept = r.part;
      named = r.named;
      made = sym r.is;
      content = held_bytes r.part bytes (ap (has_other_bytes bytes) (sym r.at) ∙ r.none.bytes) (ap is_dropped (sym r.at) ∙ r.none.dropped);
      kind = is.1;
      registry = r.none.registry;
      size = r.none.size;
      at = is.0;
      same = inl refl;
    }
repeated_is_kept s (Hold reference tld day) now entry none at =
    let h = mapped _ (kept_hold s reference tld day) entry at in record { told = h.0; kept = h.0; found = h.1; made = sym h.2; same = inl refl; registry = (none_stand_to s reference tld day now none).registry }
repeated_is_kept s (Lift reference) now entry none at = let h = mapped _ (lifting_of s reference) entry at in (h.0, h.1, sym h.2)
repeated_is_kept s Purge now entry none at = cc
repeated_is_kept s c now entry none at = let h = mapped _ _ entry at in record { kept = h.0; found = h.1; made = sym h.2; registry = (all_fail (tests_of s c now) none).0 }

-- what a command makes is kept
pub accepted_is_kept : (s : State) (c : Command) (now : ℕ) (reply : Reply) (new : State) → step s c now ≡ Accept reply new → Keeps new c reply.entry
accepted_is_kept s c now = by_outcome s c now (λ reply new. Keeps new c reply.entry) (repeated_is_kept s c now) (made c)
  where
    made : (c : Command) → refusal_of s c now ≡ None → kept_record s c ≡ None → Makes (λ reply new. Keeps new c reply.entry) s c now
    made (Register tld day) none at = (day, insert_here text_total s.registries tld day, refl)
    made (Receive text bytes) none at = λ name named stand fresh. record {
      name = name;
      part = received_part name bytes now;
      kept = received_part name bytes now;
      named = named;
      made = refl;
      content = refl;
      kind = kind_itself name.kind;
      registry = stand.registry;
      size = stand.size;
      at = insert_here part_total s.parts (key_of name) (received_part name bytes now);
      same = inl refl;
    }
    made (Statement st) none at =
        let stand = none_stand_of s st now none in
        let key : NoticeKey = next_key s.notices st.tld in
        let notice : Notice = verdict_notice st (verdict_on s st) now in
        let passes : is_verdict_on st (key, notice) ≡ true = λ i. (text_decides st.tld st.tld).1 refl i && ((Decides-eqb st.day st.day).1 refl i && (verdict_rev st (verdict_on s st) st.rev ∙ (Decides-eqb st.rev st.rev).1 refl) i) in
        record {
          kept = (key, notice);
          found = kept_of (state_with_notice s key notice) st (key, notice) (λ i. not (stand.kind i) && not (stand.number i))
              (find_new notice_total s.notices key notice (next_is_new s.notices st.tld) (is_verdict_on st) passes (none_found (is_verdict_on st) (entries s.notices) (unstated_of s st now stand (unmapped _ (kept_verdict s st) at)))) (verdict_id st (verdict_on s st));
          made = refl;
          registry = stand.registry;
        }
    made (Check tld day) none at = record {
      kept = (next_key s.notices tld, absence_notice day now);
      found = find_new notice_total s.notices (next_key s.notices tld) (absence_notice day now) (next_is_new s.notices tld) (is_notice_of tld day is_absence)
          (λ i. (text_decides tld tld).1 refl i && ((Decides-eqb day day).1 refl i && true)) (unmapped _ (absence_of s tld day) at);
      made = refl;
      registry = (none_stand_on s tld day now none).registry;
    }
    made (Release reference tld reason) none at =
        let release : kept_in.Release = new_release s tld reason now in
        record {
          kept = release;
          found = kept_release_of (state_with_release s reference release) reference tld reason release (insert_here text_total s.releases reference release) (λ i. (text_decides tld tld).1 refl i && (ground_decides reason reason).1 refl i);
          made = refl;
          registry = (none_stand_for s reference tld reason now none).registry;
        }
    made (Hold reference tld day) none at =
        let hold : kept_in.Hold = new_hold tld day now in
        record {
          told = hold;
          kept = hold;
          found = kept_hold_of (state_with_hold s reference hold) reference tld day hold (insert_here text_total s.holds reference hold) (λ i. (text_decides tld tld).1 refl i && (Decides-eqb day day).1 refl i);
          made = refl;
          same = inl refl;
          registry = (none_stand_to s reference tld day now none).registry;
        }
    made (Lift reference) none at = λ hold there standing. (now, lifting_is (state_with_hold s reference (lifted_at now hold)) reference (lifted_at now hold) (insert_here text_total s.holds reference (lifted_at now hold)), refl)
    made Purge none at = (count_due s (day_of now), refl)

-- the record that a reply shows is that of the state
pub replies_are_records : RepliesAreRecords
replies_are_records old new c now reply = by_outcome old c now (λ reply new. HasRecord new reply.entry) (kept c) (λ none at. made c) reply new
  where
    kept : (c : Command) (entry : Record) → refusal_of old c now ≡ None → kept_record old c ≡ Some entry → HasRecord old entry
    kept (Receive text bytes) entry none at = let r = repeats_part old text bytes now entry none at in subst (HasRecord old) r.is (recorded_is old r.name r.part r.at).0
    kept (Statement st) entry none at = let h = mapped _ (kept_verdict old st) entry at in subst (HasRecord old) h.2 (told_is_there old st h.0 (kept_tells old st h.0 h.1).1).0
    kept (Check tld day) entry none at = let h = mapped _ (absence_of old tld day) entry at in subst (HasRecord old) h.2 (first_is_there old tld day is_absence h.0 h.1).0
    kept (Release reference tld reason) entry none at = let h = mapped _ (kept_release old reference tld reason) entry at in subst (HasRecord old) h.2 (kept_release_is old reference tld reason h.0 h.1).0
    kept (Hold reference tld day) entry none at = let h = mapped _ (kept_hold old reference tld day) entry at in subst (HasRecord old) h.2 (kept_hold_is old reference tld day h.0 h.1).0
    kept Purge entry none at = cc
    kept c entry none at = let h = mapped _ _ entry at in subst (HasRecord old) h.2 h.1

    made : (c : Command) → Makes (λ reply new. HasRecord new reply.entry) old c now
    made (Register tld day) = insert_here text_total old.registries tld day
    made (Receive text bytes) = λ name named stand fresh. insert_here part_total old.parts (key_of name) (received_part name bytes now)
    made (Statement st) = insert_here notice_total old.notices (next_key old.notices st.tld) (verdict_notice st (verdict_on old st) now)
    made (Check tld day) = insert_here notice_total old.notices (next_key old.notices tld) (absence_notice day now)
    made (Release reference tld reason) = insert_here text_total old.releases reference (new_release old tld reason now)
    made (Hold reference tld day) = insert_here text_total old.holds reference (new_hold tld day now)
    made (Lift reference) = λ hold there standing. lifting_is (state_with_hold old reference (lifted_at now hold)) reference (lifted_at now hold) (insert_here text_total old.holds reference (lifted_at now hold))
    made Purge = tt

-- what is kept is of its command, and is there
pub kept_is_there : (s : State) (c : Command) (entry : Record) → Keeps s c entry → IsOfCommand c entry × StillHas s entry
kept_is_there s (Register tld day) entry h = subst (λ e. IsOfCommand (Register tld day) e × StillHas s e) (sym h.2) (refl, still s (OfRegistry tld h.0) h.1)
kept_is_there s (Receive text bytes) entry h = subst (λ e. IsOfCommand (Receive text bytes) e × StillHas s e) (sym h.made)
    ((h.name, h.named, refl, (same_kind_decides h.part.kind h.name.kind).0 h.kind, h.content), (OfPart (key_of h.name) h.kept, h.at, by h.same))
  where
    by : IsKeptPart h.part h.kept → IsKeptAs (OfPart (key_of h.name) h.part) (OfPart (key_of h.name) h.kept)
    by (inl p) = inl (ap (OfPart (key_of h.name)) p)
    by (inr p) = inr (ap (OfPart (key_of h.name)) p)
kept_is_there s (Statement st) entry h =
    let tells = kept_tells s st h.kept h.found in
    let on = notice_tells st.tld st.day (is_verdict_of st.rev) h.kept (passes_found (is_notice_of st.tld st.day (is_verdict_of st.rev)) (entries s.notices) h.kept tells.1) in
    let told = verdict_in h.kept.1.kind on.2 tells.2 in
    subst (λ e. IsOfCommand (Statement st) e × StillHas s e) (sym h.made) ((on.0, on.1, told.0, told.1), still s (OfNotice h.kept.0 h.kept.1) (told_is_there s st h.kept tells.1).0)
  where
    verdict_in : (kind : NoticeKind) → is_verdict_of st.rev kind ≡ true → has_id st.id kind ≡ true → (v : Verdict) × (kind ≡ notice_kind st v)
    verdict_in (Receipt rev id) a b = (Pass, λ i. Receipt ((Decides-eqb rev st.rev).0 a i) ((text_decides id st.id).0 b i))
    verdict_in (Failure rev id check) a b = (Fail check, λ i. Failure ((Decides-eqb rev st.rev).0 a i) ((text_decides id st.id).0 b i) check)
    verdict_in Absence a b = cc
kept_is_there s (Check tld day) entry h =
    let on = notice_tells tld day is_absence h.kept (passes_found (is_notice_of tld day is_absence) (entries s.notices) h.kept h.found) in
    subst (λ e. IsOfCommand (Check tld day) e × StillHas s e) (sym h.made) ((on.0, on.1, absence_in h.kept.1.kind on.2), still s (OfNotice h.kept.0 h.kept.1) (first_is_there s tld day is_absence h.kept h.found).0)
  where
    absence_in : (kind : NoticeKind) → is_absence kind ≡ true → kind ≡ Absence
    absence_in (Receipt rev id) a = cc
    absence_in (Failure rev id check) a = cc
    absence_in Absence a = refl
kept_is_there s (Release reference tld reason) entry h =
    let is = kept_release_is s reference tld reason h.kept h.found in
    let on = and_both _ _ is.1 in
    subst (λ e. IsOfCommand (Release reference tld reason) e × StillHas s e) (sym h.made)
    ((refl, (text_decides h.kept.tld tld).0 on.0, (ground_decides h.kept.reason reason).0 on.1), still s (OfRelease reference h.kept) is.0)
kept_is_there s (Hold reference tld day) entry h =
    let is = kept_hold_is s reference tld day h.kept h.found in
    let on = and_both _ _ (sym (held_day_stays tld day h.told h.kept h.same) ∙ is.1) in
    subst (λ e. IsOfCommand (Hold reference tld day) e × StillHas s e) (sym h.made)
    ((refl, (text_decides h.told.tld tld).0 on.0, (Decides-eqb h.told.day day).0 on.1), (OfHold reference h.kept, is.0, as_hold reference h.told h.kept h.same))
kept_is_there s (Lift reference) entry h = subst (λ e. IsOfCommand (Lift reference) e × StillHas s e) (sym h.2) (refl, still s (OfLifting reference h.0) h.1)
kept_is_there s Purge entry h = subst (λ e. IsOfCommand Purge e × StillHas s e) (sym h.1) (tt, still s (OfPurge h.0) tt)

-- the kind of what is kept
kept_kind : (part kept : Part) (kind : Kind) → IsKeptPart part kept → is_same_kind part.kind kind ≡ true → is_same_kind kept.kind kind ≡ true
kept_kind part kept kind (inl p) e = ap (λ (q : Part). is_same_kind q.kind kind) p ∙ e
kept_kind part kept kind (inr p) e = ap (λ (q : Part). is_same_kind q.kind kind) p ∙ e

-- what has no key has the key of none
pub other_than_none : (k : Option CommandKey) → are_same_keys k None ≡ false
other_than_none None = refl
other_than_none (Some (OfTld a)) = refl
other_than_none (Some key) = refl

-- the step of a command that asks again
abbrev pub Again : State → Command → Record → ℕ → Type 0
Again s d entry now = (step s d now ≡ Accept (record { entry = entry; is_repeat = true }) s) ⊎ ((step s d now ≡ Refuse DroppedAfterKeeping) × IsDroppedSince s d)

-- What is kept does not rest on what is not compared.
as_asked : (s : State) (c : Command) (entry : Record) → Keeps s c entry → Keeps s (compared_command c) entry
as_asked s (Register tld day) entry h = h
as_asked s c entry h = h

of_asked : (s : State) (c : Command) (entry : Record) → Keeps s (compared_command c) entry → Keeps s c entry
of_asked s (Register tld day) entry h = h
of_asked s c entry h = h

pub kept_again : (s : State) (c d : Command) (entry : Record) → Keeps s c entry → compared_command c ≡ compared_command d → Keeps s d entry
kept_again s c d entry h again = of_asked s d entry (subst (λ a. Keeps s a entry) again (as_asked s c entry h))

-- What is not compared is no part of a key.
pub key_of_asked : (c : Command) → command_key (compared_command c) ≡ command_key c
key_of_asked (Register tld day) = refl
key_of_asked c = refl

-- a record is as the state has it: a hold may have been lifted since it was told
abbrev pub IsAsNow : State → Record → Type 0
IsAsNow s (OfHold reference hold) = get s.holds reference ≡ Some hold
IsAsNow s entry = Unit {0}

-- what is kept, as the state has it
pub as_now : (s : State) (c : Command) (entry : Record) → Keeps s c entry → (kept : Record) × IsKeptAs entry kept × Keeps s c kept × IsAsNow s kept
as_now s (Register tld day) entry h = (entry, kept_itself entry, h, subst (IsAsNow s) (sym h.2) tt)
as_now s (Hold reference tld day) entry h = (
  OfHold reference h.kept,
  subst (λ e. IsKeptAs e (OfHold reference h.kept)) (sym h.made) (as_hold reference h.told h.kept h.same),
  record { told = h.kept; kept = h.kept; found = h.found; made = refl; same = inl refl; registry = h.registry },
  (kept_hold_is s reference tld day h.kept h.found).0,
)
as_now s (Lift reference) entry h = (entry, kept_itself entry, h, subst (IsAsNow s) (sym h.2) tt)
as_now s Purge entry h = (entry, kept_itself entry, h, subst (IsAsNow s) (sym h.1) tt)
as_now s c entry h = (entry, kept_itself entry, h, subst (IsAsNow s) (sym h.made) tt)

-- A command with a key of which a record is kept is answered by it, as the state has it, or that its bytes are dropped; and no bytes decide it.
pub asked_again : (s : State) (d : Command) (entry : Record) (now : ℕ) → is_some (command_key d) ≡ true → Keeps s d entry → IsAsNow s entry → Again s d entry now × (deciding_keys s d now ≡ [])
asked_again s Purge entry now keyed h as_is = cc
asked_again s (Register tld day) entry now keyed h as_is =
    (inl (step_repeats s (Register tld day) now entry refl (ap (option_map (OfRegistry tld)) h.1 ∙ ap Some (sym h.2))), refl)
asked_again s (Receive text bytes) entry now keyed h as_is = by h.same
  where
    at : part_under_name s h.name ≡ Some h.kept
    at = recorded_of s h.name h.kept h.at (kept_kind h.part h.kept h.name.kind h.same h.kind)

    is_new : is_none (part_under_name s h.name) ≡ false
    is_new = ap is_none at

    not_new : (b : Bool) → (is_none (part_under_name s h.name) && b) ≡ false
    not_new b = ap (λ a. a && b) is_new

    refusal_by : (o : Option Refusal) → first_refusal (receive_tests s h.name bytes now) ≡ o → refusal_of s (Receive text bytes) now ≡ o
    refusal_by o e = ap (λ r. first_refusal (named_tests s r bytes now)) h.named ∙ e

    reads_by : (o : Option Refusal) → first_refusal (receive_tests s h.name bytes now) ≡ o → compared_keys o (Ok h.name) ≡ [] → deciding_keys s (Receive text bytes) now ≡ []
    reads_by o e none = (λ i. compared_keys (refusal_by o e i) (h.named i)) ∙ none

    by : IsKeptPart h.part h.kept → Again s (Receive text bytes) entry now × (deciding_keys s (Receive text bytes) now ≡ [])
    by (inl p) =
        let content : h.kept.content ≡ Held bytes = ap (λ (q : Part). q.content) p ∙ h.content in
        let other_bytes : has_other_bytes bytes (part_under_name s h.name) ≡ false = ap (has_other_bytes bytes) at ∙ ap (is_held_with_other bytes) content ∙ ap not ((text_decides bytes bytes).1 refl) in
        let dropped : is_dropped (part_under_name s h.name) ≡ false = ap is_dropped at ∙ ap are_bytes_dropped content in
        let nothing = none_of_all (receive_tests s h.name bytes now) (h.registry, (not_new _, (h.size, (other_bytes, (dropped, (not_new _, (not_new _, (not_new _, (not_new _, tt))))))))) in (
          inl (step_none s (Receive text bytes) now (refusal_by None nothing) ∙ rules_part s text bytes now h.name h.named other_bytes dropped ∙ ap (answered s h.name bytes now) at
              ∙ ap (λ e. Accept (record { entry = e; is_repeat = true }) s) (ap (OfPart (key_of h.name)) p ∙ sym h.made)),
          reads_by None nothing refl,
        )
    by (inr p) =
        let content : are_bytes_dropped h.kept.content ≡ true = ap (λ (q : Part). are_bytes_dropped q.content) p in
        let other_bytes : has_other_bytes bytes (part_under_name s h.name) ≡ false = ap (has_other_bytes bytes) at ∙ ap (λ (q : Part). is_held_with_other bytes q.content) p in
        let dropped : is_dropped (part_under_name s h.name) ≡ true = ap is_dropped at ∙ content in
        let stands = find_dropped s h.name bytes now h.registry (not_new _) h.size other_bytes dropped in
        (inr (step_refuses s (Receive text bytes) now DroppedAfterKeeping (refusal_by (Some DroppedAfterKeeping) stands), (h.name, h.named, dropped)), reads_by (Some DroppedAfterKeeping) stands refl)
asked_again s (Statement st) entry now keyed h as_is = (
  inl (step_repeats s (Statement st) now entry none (ap (option_map notice_record) h.found ∙ ap Some (sym h.made))),
  (λ i. keys_if_made (none i) (option_map (λ (e : NoticeKey × Notice). OfNotice e.0 e.1) (h.found i)) (verdict_keys s st)),
)
  where
    tells : (are_parts_as_stated s st ≡ true) × (recorded_verdict s st ≡ Some h.kept) × (has_id st.id h.kept.1.kind ≡ true)
    tells = kept_tells s st h.kept h.found

    not_new : (b : Bool) → (is_none (kept_verdict s st) && b) ≡ false
    not_new b = ap (λ o. is_none o && b) h.found

    none : refusal_of s (Statement st) now ≡ None
    none =
        let as_stated = and_both (not (has_part_of_other_kind s (first_part st))) (not (has_other_count s st)) tells.0 in
        let dropped = ap (λ b. not b && has_dropped_part s (first_part st)) (told_is_there s st h.kept tells.1).1 in
        none_of_all (statement_tests s st now) (h.registry, (not_new _, (dropped, (not_new _, (not-true _ as_stated.0, (not-true _ as_stated.1, (not_new _, tt)))))))
asked_again s (Check tld day) entry now keyed h as_is =
    (inl (step_repeats s (Check tld day) now entry none (ap (option_map notice_record) h.found ∙ ap Some (sym h.made))), refl)
  where
    not_new : (b : Bool) → (is_none (absence_of s tld day) && b) ≡ false
    not_new b = ap (λ o. is_none o && b) h.found

    none : refusal_of s (Check tld day) now ≡ None
    none = none_of_all (check_tests s tld day now) (h.registry, (not_new _, (not_new _, (not_new _, tt))))
asked_again s (Release reference tld reason) entry now keyed h as_is =
    (inl (step_repeats s (Release reference tld reason) now entry none (ap (option_map (OfRelease reference)) h.found ∙ ap Some (sym h.made))), refl)
  where
    none : refusal_of s (Release reference tld reason) now ≡ None
    none =
        let there = (kept_release_is s reference tld reason h.kept h.found).0 in
        none_of_all (release_tests s reference tld reason now) (h.registry, (ap (λ o. is_none o && not (has_ground s tld reason now)) there, ((λ i. is_some (there i) && is_none (h.found i)), tt)))
asked_again s (Hold reference tld day) entry now keyed h as_is =
    (inl (step_repeats s (Hold reference tld day) now entry none (ap (option_map (OfHold reference)) h.found ∙ ap Some (ap (OfHold reference) same ∙ sym h.made))), refl)
  where
    there : get s.holds reference ≡ Some h.kept
    there = (kept_hold_is s reference tld day h.kept h.found).0

    same : h.kept ≡ h.told
    same = same_Some h.kept h.told (sym there ∙ subst (IsAsNow s) h.made as_is)

    none : refusal_of s (Hold reference tld day) now ≡ None
    none = none_of_all (hold_tests s reference tld day now) (h.registry, (ap (λ o. is_none o && is_day_outside s tld day now) h.found, ((λ i. is_some (there i) && is_none (h.found i)), tt)))
asked_again s (Lift reference) entry now keyed h as_is =
    (inl (step_repeats s (Lift reference) now entry none (ap (option_map (OfLifting reference)) h.1 ∙ ap Some (sym h.2))), refl)
  where
    none : refusal_of s (Lift reference) now ≡ None
    none = ap (λ o. cond (is_none o) (Some HoldUnknown) None) (lifting_has s reference h.0 h.1).1

-- Where a record of a command is kept, it is that of each command with its key that is not refused.
kept_by_key : (s : State) (c d : Command) (entry : Record) (now : ℕ) → Keeps s c entry → has_same_key d c ≡ true → refusal_of s d now ≡ None → Keeps s d entry
kept_by_key s (Register tld day) (Register other first) entry now h same none =
    let is : other ≡ tld = (text_decides other tld).0 same in
    (h.0, ap (first_day_of s) is ∙ h.1, h.2 ∙ ap (λ t. OfRegistry t h.0) (sym is))
kept_by_key s (Receive text bytes) (Receive other others) entry now h same none =
    let named : read_name other ≡ Ok h.name = ap read_name ((text_decides other text).0 same) ∙ h.named in
    let stand = none_stand s h.name others now (ap (λ r. first_refusal (named_tests s r others now)) (sym named) ∙ none) in
    let at : part_under_name s h.name ≡ Some h.kept = recorded_of s h.name h.kept h.at (kept_kind h.part h.kept h.name.kind h.same h.kind) in
    let held : h.kept.content ≡ Held others = held_bytes h.kept others (ap (has_other_bytes others) (sym at) ∙ stand.bytes) (ap is_dropped (sym at) ∙ stand.dropped) in
    record {
      name = h.name;
      part = h.part;
      kept = h.kept;
      named = named;
      made = h.made;
      content = undropped h.part h.kept others h.same held;
      kind = h.kind;
      registry = h.registry;
      size = stand.size;
      at = h.at;
      same = h.same;
    }
  where
    undropped : (part kept : Part) (bytes : List ℕ) → IsKeptPart part kept → kept.content ≡ Held bytes → part.content ≡ Held bytes
    undropped part kept bytes (inl p) e = ap (λ (q : Part). q.content) (sym p) ∙ e
    undropped part kept bytes (inr p) e = let gone = ap (λ (q : Part). q.content) (sym p) ∙ e in cc
kept_by_key s (Statement st) (Statement other) entry now h same none =
    let x = and_both _ _ same in let y = and_both _ _ x.1 in
    let a : other.tld ≡ st.tld = (text_decides other.tld st.tld).0 x.0 in
    let b : other.day ≡ st.day = (Decides-eqb other.day st.day).0 y.0 in
    let c : other.rev ≡ st.rev = (Decides-eqb other.rev st.rev).0 y.1 in
    let told : recorded_verdict s other ≡ Some h.kept = (λ i. list.find (is_notice_of (a i) (b i) (is_verdict_of (c i))) (entries s.notices)) ∙ (kept_tells s st h.kept h.found).1 in
    let stand = none_stand_of s other now none in
    record { kept = h.kept; found = by told stand (kept_verdict s other) refl; made = h.made; registry = stand.registry }
  where
    by : recorded_verdict s other ≡ Some h.kept → NoneStandsOf s other now → (o : Option (NoticeKey × Notice)) → kept_verdict s other ≡ o → kept_verdict s other ≡ Some h.kept
    by told stand (Some kept) at = at ∙ sym (kept_tells s other kept at).1 ∙ told
    by told stand None at = let clash : true ≡ false = sym (told_is_there s other h.kept told).1 ∙ unstated_of s other now stand at in cc
kept_by_key s (Check tld day) (Check other later) entry now h same none =
    let x = and_both _ _ same in
    let found : absence_of s other later ≡ Some h.kept = (λ i. absence_of s ((text_decides other tld).0 x.0 i) ((Decides-eqb later day).0 x.1 i)) ∙ h.found in
    record { kept = h.kept; found = found; made = h.made; registry = (none_stand_on s other later now none).registry }
kept_by_key s (Release reference tld reason) (Release other of on) entry now h same none =
    let is : other ≡ reference = (text_decides other reference).0 same in
    let there : get s.releases other ≡ Some h.kept = ap (get s.releases) is ∙ (kept_release_is s reference tld reason h.kept h.found).0 in
    let stand = none_stand_for s other of on now none in
    record { kept = h.kept; found = kept_there (is_on_ground of on) (get s.releases other) h.kept there stand.used; made = h.made ∙ ap (λ t. OfRelease t h.kept) (sym is); registry = stand.registry }
kept_by_key s (Hold reference tld day) (Hold other of on) entry now h same none =
    let is : other ≡ reference = (text_decides other reference).0 same in
    let there : get s.holds other ≡ Some h.kept = ap (get s.holds) is ∙ (kept_hold_is s reference tld day h.kept h.found).0 in
    let stand = none_stand_to s other of on now none in
    record { told = h.told; kept = h.kept; found = kept_there (is_held_day of on) (get s.holds other) h.kept there stand.used; made = h.made ∙ ap (λ t. OfHold t h.told) (sym is); same = h.same; registry = stand.registry }
kept_by_key s (Lift reference) (Lift other) entry now h same none =
    let is : other ≡ reference = (text_decides other reference).0 same in
    (h.0, ap (lifting_of s) is ∙ h.1, h.2 ∙ ap (λ t. OfLifting t h.0) (sym is))
kept_by_key s Purge d entry now h same none = let clash : true ≡ false = sym same ∙ other_than_none (command_key d) in cc
kept_by_key s c d entry now h same none = cc

-- A command with the key of one that was accepted changes nothing, and makes nothing else, where it is accepted.
pub same_key_is_kept : (s : State) (c d : Command) (entry : Record) (now : ℕ) (reply : Reply) (new : State) → Keeps s c entry → has_same_key d c ≡ true → step s d now ≡ Accept reply new → Keeps s d entry × (new ≡ s)
same_key_is_kept s c d entry now reply new h same e =
    let keeps : Keeps s d entry = kept_by_key s c d entry now h same (step_accepts s d now reply new e).0 in
    let there = as_now s d entry keeps in
    (keeps, by there.0 (asked_again s d there.0 now (has_key (command_key d) (command_key c) same) there.2 there.3).0)
  where
    has_key : (a b : Option CommandKey) → are_same_keys a b ≡ true → is_some a ≡ true
    has_key (Some key) b same = refl
    has_key None b same = cc

    by : (kept : Record) → Again s d kept now → new ≡ s
    by kept (inl is) = sym (accept_inj _ _ _ _ (sym is ∙ e)).1
    by kept (inr is) = let clash = sym is.0 ∙ e in cc
