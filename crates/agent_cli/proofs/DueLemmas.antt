-- The days that are due: what makes a day due, that a check of it would record its absence, and that the days due differ.
use Rattle.std.proofs.Common.{◌≡◌, ◌≢◌, ◌-◌, ◌<◌, ◌≤◌, ◌==◌, ◌&&◌, ◌||◌, ℕ, List, [], Some, None, Bool, true, false, not, map, refl, sym, ◌∙◌, ap, arith, is_none, is_some}
use Rattle.std.specs.Prelude.{bytes_eq, nat_lt, unwrap_or}
use Rattle.std.specs.List.{range_with_len}
use Rattle.std.specs.FinMap.{entries, get}
use Rattle.std.proofs.lemmas.Bool.Decides.{Decides-eqb, nat_tests}
use Rattle.schedule.specs.Schedule.{day_of}
use Rattle.desk.specs.declared.notices.NoticeKind.{NoticeKind}
use Rattle.desk.specs.declared.notices.NoticeKind.TheVariants.{Receipt, Failure, Absence}
use Rattle.custody_records.specs.Records.{Records}
use Rattle.custody_records.specs.inside.Orders.{notice_exact, notice_total, text_exact, text_total}
use Rattle.custody_machine.specs.State.{State, has_notice, is_notice_of}
use Rattle.custody_machine.specs.StoredState.{state_in}
use Rattle.custody_machine.specs.Machine.{Check, absence_notice, absence_of, check_tests, is_absence, is_verdict, next_key, refusal_of}
use Rattle.custody_machine.proofs.Accepting.{made_is_new, none_of_all, step_accepts, step_none}
use Rattle.custody_machine.proofs.Checked.{missed_by, none_stand_on}
use Rattle.custody_machine.proofs.Entries.{any_insert, any_is_found, any_of_get, next_is_new, none_found}
use Rattle.custody_machine.proofs.Noticed.{finds}
use Rattle.custody_machine.proofs.Options.{is_there, some_is, unmapped}
use Rattle.custody_machine.proofs.SameValues.{text_decides}
use Rattle.custody_rules.specs.DueDays.{due_days, due_days_of, is_unnoticed}
use Rattle.agent_cli.specs.DueSwept.{DueIsChecked, WouldRecordAbsence, with_absence}
use Rattle.custody_records.proofs.Elements.{IsIn, Differ, contained, entries_differ, filtered_differ, filtered_in, flattened_in, get_in, got_in, in_filtered, in_flattened, in_ranged, is_in, ranged_differ, ranged_in}

abbrev any_kind : NoticeKind → Bool
any_kind kind = true

-- its registry is known, it is a day from the first to yesterday, and no notice is of it
pub record IsDue (records : Records) (now : ℕ) (tld : List ℕ) (day : ℕ) : Type 0 where
  pub first : ℕ
  pub known : get records.registries tld ≡ Some first
  pub begun : first ≤ day
  pub over : day < day_of now
  pub unnoticed : has_notice records.notices tld day any_kind ≡ false

-- ---- the days due

not_true : (b : Bool) → not b ≡ true → b ≡ false
not_true true e = cc
not_true false e = refl

module _ (records : Records) (now : ℕ) where
  pub is_due : (tld : List ℕ) (day : ℕ) → IsIn (due_days records now) (tld, day) → IsDue records now tld day
  is_due tld day h =
      let of = flattened_in (due_days_of records now) (entries records.registries) (tld, day) h in
      let registry = of.0 in
      let kept = filtered_in (is_unnoticed records) (map (λ d. (registry.0, d)) (range_with_len registry.1 (day_of now - registry.1))) (tld, day) of.2 in
      let at = ranged_in (λ d. (registry.0, d)) registry.1 (day_of now - registry.1) (tld, day) kept.0 in
      let tld_is : registry.0 ≡ tld = ap (λ (p : List ℕ × ℕ). p.0) at.3 in
      let day_is : at.0 ≡ day = ap (λ (p : List ℕ × ℕ). p.1) at.3 in
      record {
        first = registry.1;
        known = ap (get records.registries) (sym tld_is) ∙ get_in text_total records.registries registry.0 registry.1 of.1;
        begun = omega (arith, at.1, day_is);
        over = omega (arith, at.2, day_is);
        unnoticed = not_true _ kept.1;
      }

  pub in_due : (tld : List ℕ) (day : ℕ) → IsDue records now tld day → IsIn (due_days records now) (tld, day)
  in_due tld day due =
      in_flattened (due_days_of records now) (entries records.registries) (tld, due.first) (tld, day) (got_in text_total records.registries tld due.first text_exact due.known)
      (in_filtered (is_unnoticed records) (map (λ d. (tld, d)) (range_with_len due.first (day_of now - due.first))) (tld, day)
      (in_ranged (λ d. (tld, d)) due.first (day_of now - due.first) day due.begun (omega (arith, due.begun, due.over))) (ap not due.unnoticed))

  pub due_differ : Differ (due_days records now)
  due_differ = entries_differ text_total (due_days_of records now) own each records.registries
    where
      own : (e : List ℕ × ℕ) (y : List ℕ × ℕ) → IsIn (due_days_of records now e) y → y.0 ≡ e.0
      own e y h =
          let kept = filtered_in (is_unnoticed records) (map (λ d. (e.0, d)) (range_with_len e.1 (day_of now - e.1))) y h in
          let at = ranged_in (λ d. (e.0, d)) e.1 (day_of now - e.1) y kept.0 in
          ap (λ (p : List ℕ × ℕ). p.0) (sym at.3)

      each : (e : List ℕ × ℕ) → Differ (due_days_of records now e)
      each e = filtered_differ (is_unnoticed records) (map (λ d. (e.0, d)) (range_with_len e.1 (day_of now - e.1))) (ranged_differ (λ d. (e.0, d)) (λ c d same. ap (λ (p : List ℕ × ℕ). p.1) same) e.1 (day_of now - e.1))

-- ---- the notices of a day

module _ (records : Records) (tld : List ℕ) (day : ℕ) where
  -- one that passes a test passes each test that its kind passes
  passes_too : (test other : NoticeKind → Bool) → ((kind : NoticeKind) → test kind ≡ true → other kind ≡ true) → has_notice records.notices tld day test ≡ true → has_notice records.notices tld day other ≡ true
  passes_too test other more h =
      let f = finds records.notices tld day test h in
      any_of_get notice_total records.notices notice_exact (is_notice_of tld day other) f.key f.notice f.there
      (λ i. (text_decides f.key.tld tld).1 f.tld_is i && ((Decides-eqb f.notice.day day).1 f.day_is i && more f.notice.kind f.passes i))

  none_passes : (test : NoticeKind → Bool) → has_notice records.notices tld day any_kind ≡ false → has_notice records.notices tld day test ≡ false
  none_passes test none = by (has_notice records.notices tld day test) refl
    where
      by : (b : Bool) → has_notice records.notices tld day test ≡ b → b ≡ false
      by true h = let clash : true ≡ false = sym (passes_too test any_kind (λ kind is. refl) h) ∙ none in cc
      by false h = refl

  none_at_all : has_notice records.notices tld day is_verdict ≡ false → has_notice records.notices tld day is_absence ≡ false → has_notice records.notices tld day any_kind ≡ false
  none_at_all verdict absence = by (has_notice records.notices tld day any_kind) refl
    where
      told : (kind : NoticeKind) (b : Bool) → is_verdict kind ≡ b → (other : NoticeKind → Bool) × (other kind ≡ true) × (has_notice records.notices tld day other ≡ false)
      told (Receipt rev id) b is = (is_verdict, refl, verdict)
      told (Failure rev id check) b is = (is_verdict, refl, verdict)
      told Absence b is = (is_absence, refl, absence)

      by : (b : Bool) → has_notice records.notices tld day any_kind ≡ b → b ≡ false
      by true h =
          let f = finds records.notices tld day any_kind h in
          let t = told f.notice.kind (is_verdict f.notice.kind) refl in
          let there : has_notice records.notices tld day t.0 ≡ true = any_of_get notice_total records.notices notice_exact (is_notice_of tld day t.0) f.key f.notice f.there
          (λ i. (text_decides f.key.tld tld).1 f.tld_is i && ((Decides-eqb f.notice.day day).1 f.day_is i && t.1 i)) in
          let clash : true ≡ false = sym there ∙ t.2 in
          cc
      by false h = refl

-- ---- what is decided of a check

module _ (records : Records) (tld : List ℕ) (day now : ℕ) where
  abbrev state : List ℕ → State
  state image = state_in records image

  no_absence : has_notice records.notices tld day is_absence ≡ false → (image : List ℕ) → absence_of (state image) tld day ≡ None
  no_absence none image = none_found (is_notice_of tld day is_absence) (entries records.notices) none

  pub due_checked : IsDue records now tld day → WouldRecordAbsence records tld day now
  due_checked due = (refl, λ image. step_none (state image) (Check tld day) now (refused image) ∙ ap (missed_by (state image) tld day now) (missing image))
    where
      missing : (image : List ℕ) → absence_of (state image) tld day ≡ None
      missing = no_absence (none_passes records tld day is_absence due.unnoticed)

      inside : (first : ℕ) → first ≤ day → (nat_lt day first || nat_lt (day_of now) day) ≡ false
      inside first begun = let over = due.over in grind (arith, nat_tests)

      today : (day == day_of now) ≡ false
      today = let over = due.over in grind (arith, nat_tests)

      refused : (image : List ℕ) → refusal_of (state image) (Check tld day) now ≡ None
      refused image = none_of_all (check_tests (state image) tld day now) (
        ap is_none due.known,
        (
          (λ i. is_none (missing image i) && (nat_lt day (unwrap_or (due.known i) 0) || nat_lt (day_of now) day)) ∙ inside due.first due.begun,
          ((λ i. is_none (missing image i) && today i), ((λ i. is_none (missing image i) && none_passes records tld day is_verdict due.unnoticed i), tt)),
        ),
      )

  pub checked_due : WouldRecordAbsence records tld day now → IsDue records now tld day
  checked_due d =
      let s = state [] in
      let accepts = d.1 [] in
      let none = none_stand_on s tld day now (step_accepts s (Check tld day) now _ _ accepts).0 in
      let missing : absence_of s tld day ≡ None = unmapped _ (absence_of s tld day) (made_is_new s (Check tld day) now _ _ accepts refl) in
      let known = some_is (get records.registries tld) (is_there (get records.registries tld) none.registry) in
      let inside : (nat_lt day known.0 || nat_lt (day_of now) day) ≡ false = (λ i. is_none (sym missing i) && (nat_lt day (unwrap_or (sym known.1 i) 0) || nat_lt (day_of now) day)) ∙ none.date in
      let today : (day == day_of now) ≡ false = (λ i. is_none (sym missing i) && day == day_of now) ∙ none.due in
      let verdict : has_notice records.notices tld day is_verdict ≡ false = (λ i. is_none (sym missing i) && has_notice records.notices tld day is_verdict) ∙ none.verdict in
      let absence : has_notice records.notices tld day is_absence ≡ false = any_is_found (is_notice_of tld day is_absence) (entries records.notices) ∙ ap is_some missing in
      record {
        first = known.0;
        known = known.1;
        begun = (bounds day known.0 (day_of now) inside today).0;
        over = (bounds day known.0 (day_of now) inside today).1;
        unnoticed = none_at_all records tld day verdict absence;
      }
    where
      bounds : (day first today : ℕ) → (nat_lt day first || nat_lt today day) ≡ false → (day == today) ≡ false → (first ≤ day) × (day < today)
      bounds day first today inside other = (grind (arith, nat_tests), grind (arith, nat_tests))

pub due_is_checked : DueIsChecked
due_is_checked records tld day now = (
  λ h. due_checked records tld day now (is_due records now tld day (is_in (due_days records now) (tld, day) h)),
  λ d. contained (due_days records now) (tld, day) (in_due records now tld day (checked_due records tld day now d)),
)

-- ---- one absence more

other_day : (a b : List ℕ × ℕ) → a ≢ b → (bytes_eq a.0 b.0 && (a.1 == b.1 && true)) ≡ false
other_day a b differ = by (bytes_eq a.0 b.0) refl (a.1 == b.1) refl
  where
    by : (x : Bool) → bytes_eq a.0 b.0 ≡ x → (y : Bool) → (a.1 == b.1) ≡ y → (x && (y && true)) ≡ false
    by true e true f = absurd (differ (λ i. ((text_decides a.0 b.0).0 e i, (Decides-eqb a.1 b.1).0 f i)))
    by true e false f = refl
    by false e y f = refl

-- another day that is due stays due
pub stays_due : (records : Records) (now : ℕ) (day other : List ℕ × ℕ) → day ≢ other → IsDue records now other.0 other.1 → IsDue (with_absence records day now) now other.0 other.1
stays_due records now day other differ due = record {
  first = due.first;
  known = due.known;
  begun = due.begun;
  over = due.over;
  unnoticed = any_insert notice_total records.notices (next_key records.notices day.0) (absence_notice day.1 now) (next_is_new records.notices day.0) (is_notice_of other.0 other.1 any_kind) (other_day day other differ) ∙ due.unnoticed;
}
