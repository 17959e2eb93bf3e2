-- A state goes on from another: it has its records, and what was stated and what was missed is so still.
use Rattle.std.proofs.Common.{◌≡◌, ℕ, List, Option, Some, None, Bool, true, false, not, ◌&&◌, ◌||◌, ◌⊎◌, inl, inr, refl, sym, ◌∙◌, ap, subst, cond, ◌==◌, is_none, length, Ok}
use Rattle.std.specs.Prelude.{option_map, if◌then◌else◌}
use Rattle.std.specs.Prelude.{is_some, count_by}
use Rattle.std.specs.List as list
use Rattle.std.specs.List.{list_any}
use Rattle.std.specs.Ordering.{eq_by_cmp}
use Rattle.std.specs.FinMap.{FinMap, entries, get, get-insert}
use Rattle.std.specs.Cmp.{Equal-is}
use Rattle.std.specs.Option.{option_and_then}
use Rattle.std.proofs.lemmas.Bool.Decides.{Decides-eqb}
use Rattle.schedule.specs.Schedule.{day_of}
use Rattle.deposit_name.specs.declared.kinds.Kind.{Kind}
use Rattle.deposit_name.specs.Name.{Name, is_same_kind}
use Rattle.deposit_verify.specs.declared.verdict.Verdict.{Verdict}
use Rattle.desk.specs.declared.grounds.Ground.{Ground}
use Rattle.deposit_verify.specs.declared.verdict.Verdict.TheVariants.{Pass, Fail}
use Rattle.desk.specs.declared.notices.NoticeKind.{NoticeKind}
use Rattle.custody_records.specs.Keys.{text_cmp, PartKey, part_cmp, NoticeKey}
use Rattle.custody_records.specs.Records as kept_in
use Rattle.custody_records.specs.Records.{Notice, key_of, lifted_at}
use Rattle.custody_machine.specs.declared.command.Statement as statement
use Rattle.custody_machine.specs.NameReading.{read_name}
use Rattle.custody_machine.specs.State.{State, Part, Held, part_numbers, key_with_part, is_notice_of, has_notice}
use Rattle.custody_machine.specs.Machine.{Check, Release, Hold, Lift, Purge, OfRelease, OfHold, OfLifting, kept_hold, lifting_of, state_with_hold, kept_release, without_bytes, is_due_part, part_dropped_if_due, state_without_due, absence_of, absence_notice, is_absence, is_tld_unregistered, OfNotice, first_part, if_of_id, has_id, is_verdict_of, recorded_verdict, has_verdict, are_parts_as_stated, kept_verdict, state_with_notice, next_key, verdict_notice, notice_kind, Command, Register, Receive, Statement, Record, OfRegistry, OfPart, Reply, Step, Refuse, Accept, first_day_of, part_at, part_under_name, has_other_kind, revision_part, state_with_registry, state_with_part, state_with_release, received_part, step, state_of, refusal_of, kept_record, has_part_of_other_kind, HasRecord, is_unregistered, is_out_of_size}
use Rattle.custody_machine.specs.Retries.{IsKeptAs, StillHas, KeepsRecords, NothingIsRemoved}
use Rattle.custody_machine.proofs.MapValues.{get-map_keyed}
use Rattle.custody_machine.proofs.SameValues.{text_decides}
use Rattle.custody_records.specs.inside.Orders.{text_total, part_total, part_exact, notice_total}
use Rattle.custody_machine.proofs.Entries.{any_is_found, get_found, find_insert, next_is_new}
use Rattle.custody_machine.proofs.Stated.{NoneStandsOf, none_stand_of}
use Rattle.custody_machine.proofs.Released.{none_stand_for, unused_of}
use Rattle.custody_machine.proofs.Options.{passing, unmapped}
use Rattle.custody_machine.proofs.Accepting.{NoneStands, Makes, by_outcome, insert_new, place_is_empty}
use Rattle.custody_machine.proofs.Holding.{IsKeptHold, held_stays, hold_stays, lifted_stays, lifting_stays, none_stand_to, unheld_of}

-- ---- nothing is removed

pub kept_itself : (entry : Record) → IsKeptAs entry entry
kept_itself (OfPart key part) = inl refl
kept_itself (OfHold reference hold) = inl refl
kept_itself entry = refl

-- a record of the state is one that it still has
pub still : (s : State) (entry : Record) → HasRecord s entry → StillHas s entry
still s entry has = (entry, has, kept_itself entry)

pub keeps_itself : (s : State) → KeepsRecords s s
keeps_itself = still

pub keeps_registering : (s : State) (tld : List ℕ) (day : ℕ) → first_day_of s tld ≡ None → KeepsRecords s (state_with_registry s tld day)
keeps_registering s tld day none (OfRegistry q x) e = still (state_with_registry s tld day) (OfRegistry q x) (insert_new text_total s.registries tld day q x none e)
keeps_registering s tld day none entry e = still (state_with_registry s tld day) entry e

pub keeps_adding : (s : State) (key : PartKey) (part : Part) → part_at s key ≡ None → KeepsRecords s (state_with_part s key part)
keeps_adding s key part none (OfPart q x) e = still (state_with_part s key part) (OfPart q x) (insert_new part_total s.parts key part q x none e)
keeps_adding s key part none entry e = still (state_with_part s key part) entry e

pub keeps_noticing : (s : State) (key : NoticeKey) (notice : Notice) → get s.notices key ≡ None → KeepsRecords s (state_with_notice s key notice)
keeps_noticing s key notice none (OfNotice q x) e = still (state_with_notice s key notice) (OfNotice q x) (insert_new notice_total s.notices key notice q x none e)
keeps_noticing s key notice none entry e = still (state_with_notice s key notice) entry e

pub keeps_releasing : (s : State) (reference : List ℕ) (release : kept_in.Release) → get s.releases reference ≡ None → KeepsRecords s (state_with_release s reference release)
keeps_releasing s reference release none (OfRelease q x) e = still (state_with_release s reference release) (OfRelease q x) (insert_new text_total s.releases reference release q x none e)
keeps_releasing s reference release none entry e = still (state_with_release s reference release) entry e

pub keeps_holding : (s : State) (reference : List ℕ) (hold : kept_in.Hold) → get s.holds reference ≡ None → KeepsRecords s (state_with_hold s reference hold)
keeps_holding s reference hold none (OfHold q x) e = hold_stays s reference hold none q x e
keeps_holding s reference hold none (OfLifting q at) e = lifting_stays s reference hold none q at e
keeps_holding s reference hold none entry e = still (state_with_hold s reference hold) entry e

pub keeps_lifting : (s : State) (reference : List ℕ) (hold : kept_in.Hold) (now : ℕ) → get s.holds reference ≡ Some hold → hold.lifted ≡ None → KeepsRecords s (state_with_hold s reference (lifted_at now hold))
keeps_lifting s reference hold now there standing (OfHold q x) e = held_stays s reference hold now there standing q x e
keeps_lifting s reference hold now there standing (OfLifting q at) e = lifted_stays s reference hold now there standing q at e
keeps_lifting s reference hold now there standing entry e = still (state_with_hold s reference (lifted_at now hold)) entry e

-- of each part its bytes may be dropped, and nothing else
pub keeps_dropping : (s : State) (today : ℕ) → KeepsRecords s (state_without_due s today)
keeps_dropping s today (OfPart key part) e = (
  OfPart key (part_dropped_if_due s.holds today key part),
  get-map_keyed part_cmp part_exact (part_dropped_if_due s.holds today) s.parts key ∙ ap (option_map (part_dropped_if_due s.holds today key)) e,
  elim (is_due_part s.holds today key part) as (λ b. IsKeptAs (OfPart key part) (OfPart key (cond b (without_bytes part) part))) [ true ↦ inr refl | false ↦ inl refl ],
)
keeps_dropping s today entry e = still (state_without_due s today) entry e

-- ---- a command that comes again

-- a part is as it was, or its bytes are dropped
abbrev pub IsKeptPart : Part → Part → Type 0
IsKeptPart old new = (new ≡ old) ⊎ (new ≡ without_bytes old)

pub registry_is_kept : (s new : State) (tld : List ℕ) (day : ℕ) → KeepsRecords s new → first_day_of s tld ≡ Some day → first_day_of new tld ≡ Some day
registry_is_kept s new tld day k at = let h = k (OfRegistry tld day) at in subst (HasRecord new) h.2 h.1

pub part_is_kept : (s new : State) (key : PartKey) (part : Part) → KeepsRecords s new → part_at s key ≡ Some part → (kept : Part) × (part_at new key ≡ Some kept) × IsKeptPart part kept
part_is_kept s new key part k at = let h = k (OfPart key part) at in by h.0 h.1 h.2
  where
    by : (kept : Record) → HasRecord new kept → IsKeptAs (OfPart key part) kept → (kept : Part) × (part_at new key ≡ Some kept) × IsKeptPart part kept
    by kept has (inl p) = (part, subst (HasRecord new) p has, inl refl)
    by kept has (inr p) = (without_bytes part, subst (HasRecord new) p has, inr refl)

pub release_is_kept : (s new : State) (reference : List ℕ) (release : kept_in.Release) → KeepsRecords s new → get s.releases reference ≡ Some release → get new.releases reference ≡ Some release
release_is_kept s new reference release k at = let h = k (OfRelease reference release) at in subst (HasRecord new) h.2 h.1

pub hold_is_kept : (s new : State) (reference : List ℕ) (hold : kept_in.Hold) → KeepsRecords s new → get s.holds reference ≡ Some hold → (kept : kept_in.Hold) × (get new.holds reference ≡ Some kept) × IsKeptHold hold kept
hold_is_kept s new reference hold k at = let h = k (OfHold reference hold) at in by h.0 h.1 h.2
  where
    by : (kept : Record) → HasRecord new kept → IsKeptAs (OfHold reference hold) kept → (kept : kept_in.Hold) × (get new.holds reference ≡ Some kept) × IsKeptHold hold kept
    by kept has (inl p) = (hold, subst (HasRecord new) p has, inl refl)
    by kept has (inr p) = (lifted_at p.1 hold, subst (HasRecord new) p.2 has, inr (p.0, p.1, refl))

pub lifting_is_kept : (s new : State) (reference : List ℕ) (at : ℕ) → KeepsRecords s new → lifting_of s reference ≡ Some at → lifting_of new reference ≡ Some at
lifting_is_kept s new reference at k is = let h = k (OfLifting reference at) is in subst (HasRecord new) h.2 h.1

-- what is kept of an accepted part
pub record KeepsPart (s : State) (text bytes : List ℕ) (entry : Record) : Type 0 where
  pub name : Name
  pub part : Part
  pub kept : Part
  pub named : read_name text ≡ Ok name
  pub made : entry ≡ OfPart (key_of name) part
  pub content : part.content ≡ Held bytes
  pub kind : is_same_kind part.kind name.kind ≡ true
  pub registry : is_unregistered s name ≡ false
  pub size : is_out_of_size (length bytes) ≡ false
  pub at : part_at s (key_of name) ≡ Some kept
  pub same : IsKeptPart part kept

-- ---- a revision that has a verdict

pub and_both : (a b : Bool) → (a && b) ≡ true → (a ≡ true) × (b ≡ true)
and_both true b h = (refl, h)
and_both false b h = cc

-- a notice of a registry's day that passes a test
pub notice_tells : (tld : List ℕ) (day : ℕ) (test : NoticeKind → Bool) (entry : NoticeKey × Notice) → is_notice_of tld day test entry ≡ true → (entry.0.tld ≡ tld) × (entry.1.day ≡ day) × (test entry.1.kind ≡ true)
notice_tells tld day test entry passes =
    let on = and_both _ _ passes in
    let rest = and_both _ _ on.1 in
    ((text_decides entry.0.tld tld).0 on.0, (Decides-eqb entry.1.day day).0 rest.0, rest.1)

-- an entry is a verdict on the revision
abbrev pub is_verdict_on : statement.Statement → NoticeKey × Notice → Bool
is_verdict_on st = is_notice_of st.tld st.day (is_verdict_of st.rev)

-- what is kept of a statement that was accepted
pub record KeepsVerdict (s : State) (st : statement.Statement) (entry : Record) : Type 0 where
  pub kept : NoticeKey × Notice
  pub found : kept_verdict s st ≡ Some kept
  pub made : entry ≡ OfNotice kept.0 kept.1
  pub registry : is_unregistered s (first_part st) ≡ false

-- what is kept of a check that was accepted
pub record KeepsAbsence (s : State) (tld : List ℕ) (day : ℕ) (entry : Record) : Type 0 where
  pub kept : NoticeKey × Notice
  pub found : absence_of s tld day ≡ Some kept
  pub made : entry ≡ OfNotice kept.0 kept.1
  pub registry : is_tld_unregistered s tld ≡ false

-- what is kept of a release that was accepted
pub record KeepsRelease (s : State) (reference tld : List ℕ) (reason : Ground) (entry : Record) : Type 0 where
  pub kept : kept_in.Release
  pub found : kept_release s reference tld reason ≡ Some kept
  pub made : entry ≡ OfRelease reference kept
  pub registry : is_tld_unregistered s tld ≡ false

-- what is kept of a hold that was accepted: it was told as it was then
pub record KeepsHold (s : State) (reference tld : List ℕ) (day : ℕ) (entry : Record) : Type 0 where
  pub told : kept_in.Hold
  pub kept : kept_in.Hold
  pub found : kept_hold s reference tld day ≡ Some kept
  pub made : entry ≡ OfHold reference told
  pub same : IsKeptHold told kept
  pub registry : is_tld_unregistered s tld ≡ false

-- what a verdict that is kept tells: the parts are as stated, it is the one of the revision, and it has the id
pub kept_tells : (s : State) (st : statement.Statement) (kept : NoticeKey × Notice) → kept_verdict s st ≡ Some kept → (are_parts_as_stated s st ≡ true) × (recorded_verdict s st ≡ Some kept) × (has_id st.id kept.1.kind ≡ true)
kept_tells s st kept e = by (are_parts_as_stated s st) refl e
  where
    by : (b : Bool) → are_parts_as_stated s st ≡ b → (if b then option_and_then (if_of_id st.id) (recorded_verdict s st) else None) ≡ Some kept → (are_parts_as_stated s st ≡ true) × (recorded_verdict s st ≡ Some kept) × (has_id st.id kept.1.kind ≡ true)
    by true t e = let h = passing (λ (x : NoticeKey × Notice). has_id st.id x.1.kind) (recorded_verdict s st) kept e in (t, h.0, h.1)
    by false t e = cc

pub kept_of : (s : State) (st : statement.Statement) (kept : NoticeKey × Notice) → are_parts_as_stated s st ≡ true → recorded_verdict s st ≡ Some kept → has_id st.id kept.1.kind ≡ true → kept_verdict s st ≡ Some kept
kept_of s st kept as_stated told has = ap (λ b. if b then option_and_then (if_of_id st.id) (recorded_verdict s st) else None) as_stated ∙ ap (option_and_then (if_of_id st.id)) told ∙ ap (λ b. if b then Some kept else None) has

-- the first notice of a day that passes a test is one of the day's
pub first_is_there : (s : State) (tld : List ℕ) (day : ℕ) (test : NoticeKind → Bool) (found : NoticeKey × Notice) → list.find (is_notice_of tld day test) (entries s.notices) ≡ Some found
    → (get s.notices found.0 ≡ Some found.1) × (has_notice s.notices tld day test ≡ true)
first_is_there s tld day test found e = (get_found notice_total s.notices (is_notice_of tld day test) found e, any_is_found (is_notice_of tld day test) (entries s.notices) ∙ ap is_some e)

pub told_is_there : (s : State) (st : statement.Statement) (kept : NoticeKey × Notice) → recorded_verdict s st ≡ Some kept → (get s.notices kept.0 ≡ Some kept.1) × (has_verdict s st ≡ true)
told_is_there s st kept e = first_is_there s st.tld st.day (is_verdict_of st.rev) kept e

-- parts at the same places, of the same kinds, are as stated alike
pub as_stated_alike : (s t : State) (st : statement.Statement) → ((place : ℕ) → is_some (revision_part t (first_part st) place) ≡ is_some (revision_part s (first_part st) place))
    → ((place : ℕ) → has_other_kind st.kind (revision_part t (first_part st) place) ≡ has_other_kind st.kind (revision_part s (first_part st) place)) → are_parts_as_stated t st ≡ are_parts_as_stated s st
as_stated_alike s t st there kinds = λ i. not (list_any (λ place. kinds place i) part_numbers)
    && not ((count_by (λ place. there place i) part_numbers == 0) || not (count_by (λ place. there place i) part_numbers == st.parts))

pub same_as_stated : (s t : State) (st : statement.Statement) → ((place : ℕ) → revision_part t (first_part st) place ≡ revision_part s (first_part st) place) → are_parts_as_stated t st ≡ are_parts_as_stated s st
same_as_stated s t st e = as_stated_alike s t st (λ place. ap is_some (e place)) (λ place. ap (has_other_kind st.kind) (e place))

-- a part of another revision is no part of this one
pub part_elsewhere : (s : State) (key : PartKey) (part : Part) (st : statement.Statement) → ((key.tld ≡ st.tld) → (key.day ≡ st.day) → (key.rev ≡ st.rev) → ⊥) → (place : ℕ) → revision_part (state_with_part s key part) (first_part st) place ≡ revision_part s (first_part st) place
part_elsewhere s key part st other place = get-insert part_total s.parts key part (key_with_part (key_of (first_part st)) place) ∙ by (key_with_part (key_of (first_part st)) place) (λ e. e) (eq_by_cmp part_cmp (key_with_part (key_of (first_part st)) place) key) refl
  where
    by : (q : PartKey) → (q ≡ key → key_with_part (key_of (first_part st)) place ≡ key) → (b : Bool) → eq_by_cmp part_cmp q key ≡ b → cond b (Some part) (get s.parts q) ≡ get s.parts q
    by q is true t =
        let same : key_with_part (key_of (first_part st)) place ≡ key = is (part_exact q key ((Equal-is (part_cmp q key)).0 t)) in
        absurd (other (ap (λ (k : PartKey). k.tld) (sym same)) (ap (λ (k : PartKey). k.day) (sym same)) (ap (λ (k : PartKey). k.rev) (sym same)))
    by q is false t = refl

pub verdict_rev : (st : statement.Statement) (v : Verdict) (rev : ℕ) → is_verdict_of rev (notice_kind st v) ≡ (st.rev == rev)
verdict_rev st Pass rev = refl
verdict_rev st (Fail check) rev = refl

pub verdict_id : (st : statement.Statement) (v : Verdict) → has_id st.id (notice_kind st v) ≡ true
verdict_id st Pass = (text_decides st.id st.id).1 refl
verdict_id st (Fail check) = (text_decides st.id st.id).1 refl

-- a state that goes on from another: it has its records, and what was stated is stated still, and what was missed is
pub record Continues (s new : State) : Type 0 where
  pub records : KeepsRecords s new
  pub verdicts : (st : statement.Statement) (kept : NoticeKey × Notice) → kept_verdict s st ≡ Some kept → kept_verdict new st ≡ Some kept
  pub absences : (tld : List ℕ) (day : ℕ) (kept : NoticeKey × Notice) → absence_of s tld day ≡ Some kept → absence_of new tld day ≡ Some kept

pub continues_itself : (s : State) → Continues s s
continues_itself s = record { records = keeps_itself s; verdicts = λ st kept e. e; absences = λ tld day kept e. e }

pub continues_adding : (s : State) (text bytes : List ℕ) (now : ℕ) (name : Name) → NoneStands s name bytes now → part_under_name s name ≡ None → KeepsRecords s (state_with_part s (key_of name) (received_part name bytes now)) → Continues s (state_with_part s (key_of name) (received_part name bytes now))
continues_adding s text bytes now name none at records = record {
  records = records;
  verdicts = λ st kept e.
      let h = kept_tells s st kept e in
      kept_of (state_with_part s (key_of name) (received_part name bytes now)) st kept
      (same_as_stated s (state_with_part s (key_of name) (received_part name bytes now)) st (part_elsewhere s (key_of name) (received_part name bytes now) st (elsewhere st (told_is_there s st kept h.1).1)) ∙ h.0) h.1 h.2;
  absences = λ tld day kept e. e;
}
  where
    unstated : has_notice s.notices name.tld name.day (is_verdict_of name.rev) ≡ false
    unstated = ap (λ o. is_none o && has_notice s.notices name.tld name.day (is_verdict_of name.rev)) (sym at) ∙ none.stated

    elsewhere : (st : statement.Statement) → has_verdict s st ≡ true → (name.tld ≡ st.tld) → (name.day ≡ st.day) → (name.rev ≡ st.rev) → ⊥
    elsewhere st has a b c = let same : has_notice s.notices name.tld name.day (is_verdict_of name.rev) ≡ has_verdict s st = (λ i. has_notice s.notices (a i) (b i) (is_verdict_of (c i))) in
        let clash : true ≡ false = sym has ∙ sym same ∙ unstated in cc

pub continues_releasing : (s : State) (reference : List ℕ) (release : kept_in.Release) → get s.releases reference ≡ None → Continues s (state_with_release s reference release)
continues_releasing s reference release none = record { records = keeps_releasing s reference release none; verdicts = λ st kept e. e; absences = λ tld day kept e. e }

pub continues_holding : (s : State) (reference : List ℕ) (hold : kept_in.Hold) → KeepsRecords s (state_with_hold s reference hold) → Continues s (state_with_hold s reference hold)
continues_holding s reference hold records = record { records = records; verdicts = λ st kept e. e; absences = λ tld day kept e. e }

-- a part without its bytes is of its kind
pub kind_stays : (holds : FinMap text_cmp kept_in.Hold) (today : ℕ) (key : PartKey) (part : Part) → (part_dropped_if_due holds today key part).kind ≡ part.kind
kind_stays holds today key part = elim (is_due_part holds today key part) as (λ b. (cond b (without_bytes part) part).kind ≡ part.kind) [ true ↦ refl | false ↦ refl ]

pub continues_dropping : (s : State) (today : ℕ) → Continues s (state_without_due s today)
continues_dropping s today = record {
  records = keeps_dropping s today;
  verdicts = λ st kept e.
      let h = kept_tells s st kept e in
      kept_of (state_without_due s today) st kept (as_stated_alike s (state_without_due s today) st
      (λ place. ap is_some (after st place) ∙ there (key_with_part (key_of (first_part st)) place) (revision_part s (first_part st) place))
      (λ place. ap (has_other_kind st.kind) (after st place) ∙ of_kind st.kind (key_with_part (key_of (first_part st)) place) (revision_part s (first_part st) place)) ∙ h.0) h.1 h.2;
  absences = λ tld day kept e. e;
}
  where
    after : (st : statement.Statement) (place : ℕ) → revision_part (state_without_due s today) (first_part st) place ≡ option_map (part_dropped_if_due s.holds today (key_with_part (key_of (first_part st)) place)) (revision_part s (first_part st) place)
    after st place = get-map_keyed part_cmp part_exact (part_dropped_if_due s.holds today) s.parts (key_with_part (key_of (first_part st)) place)

    there : (key : PartKey) (o : Option Part) → is_some (option_map (part_dropped_if_due s.holds today key) o) ≡ is_some o
    there key None = refl
    there key (Some part) = refl

    of_kind : (kind : Kind) (key : PartKey) (o : Option Part) → has_other_kind kind (option_map (part_dropped_if_due s.holds today key) o) ≡ has_other_kind kind o
    of_kind kind key None = refl
    of_kind kind key (Some part) = ap (λ k. not (is_same_kind k kind)) (kind_stays s.holds today key part)

-- no notice of its day tells the same as a new one
pub record IsFirst (s : State) (tld : List ℕ) (notice : Notice) : Type 0 where
  pub verdict : (rev : ℕ) → is_verdict_of rev notice.kind ≡ true → has_notice s.notices tld notice.day (is_verdict_of rev) ≡ false
  pub absence : is_absence notice.kind ≡ true → has_notice s.notices tld notice.day is_absence ≡ false

-- what was found before is found still, where a new notice is the first that tells the same
pub found_still : (s : State) (tld : List ℕ) (notice : Notice) (test : NoticeKind → Bool) → (test notice.kind ≡ true → has_notice s.notices tld notice.day test ≡ false)
    → (other : List ℕ) (day : ℕ) (found : NoticeKey × Notice) → list.find (is_notice_of other day test) (entries s.notices) ≡ Some found
    → list.find (is_notice_of other day test) (entries (state_with_notice s (next_key s.notices tld) notice).notices) ≡ Some found
found_still s tld notice test first other day found e =
    find_insert notice_total s.notices (next_key s.notices tld) notice (next_is_new s.notices tld) (is_notice_of other day test) (miss (is_notice_of other day test (next_key s.notices tld, notice)) refl) ∙ e
  where
    miss : (b : Bool) → is_notice_of other day test (next_key s.notices tld, notice) ≡ b → is_notice_of other day test (next_key s.notices tld, notice) ≡ false
    miss false t = t
    miss true t =
        let on = notice_tells other day test (next_key s.notices tld, notice) t in
        let there : has_notice s.notices tld notice.day test ≡ true = (λ i. has_notice s.notices (on.0 i) (on.1 i) test) ∙ (first_is_there s other day test found e).1 in
        let clash : true ≡ false = sym there ∙ first on.2 in cc

pub continues_noticing : (s : State) (tld : List ℕ) (notice : Notice) → IsFirst s tld notice → Continues s (state_with_notice s (next_key s.notices tld) notice)
continues_noticing s tld notice first = record {
  records = keeps_noticing s (next_key s.notices tld) notice (next_is_new s.notices tld);
  verdicts = λ st kept e.
      let h = kept_tells s st kept e in
      kept_of (state_with_notice s (next_key s.notices tld) notice) st kept h.0 (found_still s tld notice (is_verdict_of st.rev) (first.verdict st.rev) st.tld st.day kept h.1) h.2;
  absences = λ other day kept e. found_still s tld notice is_absence first.absence other day kept e;
}

-- a verdict is the first on its revision, where there is none
pub verdict_is_first : (s : State) (st : statement.Statement) (v : Verdict) (now : ℕ) → has_verdict s st ≡ false → IsFirst s st.tld (verdict_notice st v now)
verdict_is_first s st v now unstated = record {
  verdict = λ rev is.
      let same : st.rev ≡ rev = (Decides-eqb st.rev rev).0 (sym (verdict_rev st v rev) ∙ is) in
      ap (λ r. has_notice s.notices st.tld st.day (is_verdict_of r)) (sym same) ∙ unstated;
  absence = λ is. absurd (no_absence v is);
}
  where
    no_absence : (v : Verdict) → is_absence (notice_kind st v) ≡ true → ⊥
    no_absence Pass is = cc
    no_absence (Fail check) is = cc

-- an absence is the first of its day, where there is none
pub absence_is_first : (s : State) (tld : List ℕ) (day now : ℕ) → absence_of s tld day ≡ None → IsFirst s tld (absence_notice day now)
absence_is_first s tld day now at = record { verdict = λ rev is. cc; absence = λ is. any_is_found (is_notice_of tld day is_absence) (entries s.notices) ∙ ap is_some at }

-- where no verdict is kept and none of the refusals stands, the revision has none
pub unstated_of : (s : State) (st : statement.Statement) (now : ℕ) → NoneStandsOf s st now → kept_verdict s st ≡ None → has_verdict s st ≡ false
unstated_of s st now none e = ap (λ o. is_none o && has_verdict s st) (sym e) ∙ none.stated

pub step_continues : (s : State) (c : Command) (now : ℕ) (reply : Reply) (new : State) → step s c now ≡ Accept reply new → Continues s new
step_continues s c now = by_outcome s c now (λ _ new. Continues s new) (λ entry none at. continues_itself s) (made c)
  where
    made : (c : Command) → refusal_of s c now ≡ None → kept_record s c ≡ None → Makes (λ _ new. Continues s new) s c now
    made (Register tld day) none at = record { records = keeps_registering s tld day (unmapped _ (first_day_of s tld) at); verdicts = λ st kept e. e; absences = λ other at kept e. e }
    made (Receive text bytes) none at = λ name named stand fresh. continues_adding s text bytes now name stand fresh (keeps_adding s (key_of name) _
        (place_is_empty s text name named fresh (ap (λ o. is_none o && has_part_of_other_kind s name) (sym fresh) ∙ stand.kind)))
    made (Statement st) none at = continues_noticing s st.tld _ (verdict_is_first s st _ now (unstated_of s st now (none_stand_of s st now none) (unmapped _ (kept_verdict s st) at)))
    made (Check tld day) none at = continues_noticing s tld _ (absence_is_first s tld day now (unmapped _ (absence_of s tld day) at))
    made (Release reference tld reason) none at = continues_releasing s reference _ (unused_of s reference tld reason now (none_stand_for s reference tld reason now none) (unmapped _ (kept_release s reference tld reason) at))
    made (Hold reference tld day) none at = continues_holding s reference _ (keeps_holding s reference _ (unheld_of s reference tld day now (none_stand_to s reference tld day now none) (unmapped _ (kept_hold s reference tld day) at)))
    made (Lift reference) none at = λ hold there standing. continues_holding s reference _ (keeps_lifting s reference hold now there standing)
    made Purge none at = continues_dropping s (day_of now)

pub nothing_is_removed : NothingIsRemoved
nothing_is_removed old command now = by (step old command now) refl
  where
    by : (r : Step) → step old command now ≡ r → KeepsRecords old (state_of old r)
    by (Refuse q) e = keeps_itself old
    by (Accept reply new) e = (step_continues old command now reply new e).records
