-- What the notices in memory tell, and what it says of the records that they stand for.
use Rattle.std.specs.Prelude.{bytes_eq}
use Rattle.std.proofs.Common.{◌≡◌, ◌↔◌, ℕ, ◌<◌, List, get_or, Bool, true, false, ◌&&◌, ◌==◌, Option, Some, None, refl, sym, ◌∙◌, ap, subst, arith}
use Rattle.std.specs.Bool.{Decides}
use Rattle.std.specs.List.{list_any, slice_get}
use Rattle.std.specs.FinMap.{FinMap, get}
use Rattle.std.proofs.lemmas.Bool.Decides.{Decides-eqb, Decides-and, Decides-like, same_from_decides}
use Rattle.std.proofs.lemmas.List.Folds.{Any-from_list_any, list_any_at}
use Rattle.std.proofs.lemmas.Option.{slice_get-get_or, slice_get_within, get_or_from_slice_get}
use Rattle.desk.specs.Standing.{is_receipt}
use Rattle.desk.specs.declared.notices.NoticeKind.{NoticeKind}
use Rattle.desk.specs.declared.notices.NoticeKind.TheVariants.{Receipt, Failure, Absence}
use Rattle.desk.specs.declared.notices.Notice as desk
use Rattle.custody_records.specs.Keys.{NoticeKey, notice_cmp}
use Rattle.custody_records.specs.inside.Orders.{notice_total, notice_exact}
use Rattle.custody_records.specs.Records.{Notice}
use Rattle.custody_records.specs.Tables.{is_rising, table_map}
use Rattle.custody_records.specs.TypedRecords.{notice_key, notice_value}
use Rattle.custody_machine.specs.Machine.{is_absence, is_failure_of}
use Rattle.custody_machine.specs.StoredState.{AreOfOneDay, revision_of}
use Rattle.custody_machine.proofs.SameValues.{text_decides}
use Rattle.custody_rules.specs.declared.unique_keys.Subject.{Subject}
use Rattle.custody_rules.specs.declared.unique_keys.RegistryDay.{RegistryDay}
use Rattle.custody_rules.specs.declared.unique_keys.FailedRevision.{FailedRevision}
use Rattle.custody_rules.specs.inside.UniqueKeys.{HaveNoRivals, HaveUniqueKeys, IsKeyAmong, has_failed, subject_of, day_if_receipt, received_day_of, revision_if_failure, failed_revision_of}
use Rattle.custody_rules.proofs.Tables.{table_has_row, row_in_table, keys_differ, any_rows}

-- ---- what one notice tells

some_is : {X : Type 0} (x y : X) → Some x ≡ Some y → x ≡ y
some_is x y e = cc

receipt_of_day : (tld : List ℕ) (day : ℕ) (kind : NoticeKind) → is_receipt kind ≡ true → day_if_receipt tld day kind ≡ Some (record { tld = tld; day = day })
receipt_of_day tld day (Receipt _ _) e = refl
receipt_of_day tld day _ e = cc

day_of_receipt : (tld : List ℕ) (day : ℕ) (kind : NoticeKind) (t : RegistryDay) → day_if_receipt tld day kind ≡ Some t → (is_receipt kind ≡ true) × (tld ≡ t.tld) × (day ≡ t.day)
day_of_receipt tld day (Receipt _ _) t e = let same = some_is (record { tld = tld; day = day }) t e in (refl, ap (λ (d : RegistryDay). d.tld) same, ap (λ (d : RegistryDay). d.day) same)
day_of_receipt tld day _ t e = cc

absence_has_none : (kind : NoticeKind) → is_absence kind ≡ true → revision_of kind ≡ None
absence_has_none Absence e = refl
absence_has_none _ e = cc

none_is_absence : (kind : NoticeKind) → revision_of kind ≡ None → is_absence kind ≡ true
none_is_absence Absence e = refl
none_is_absence _ e = cc

failure_of_revision : (tld : List ℕ) (day : ℕ) (kind : NoticeKind) (t : FailedRevision) → tld ≡ t.tld → day ≡ t.day → is_failure_of t.rev kind ≡ true → revision_if_failure tld day kind ≡ Some t
failure_of_revision tld day (Failure rev _ _) t at on e = let is : rev ≡ t.rev = (Decides-eqb rev t.rev).0 e in λ i. Some (record { tld = at i; day = on i; rev = is i })
failure_of_revision tld day _ t at on e = cc

revision_of_failure : (tld : List ℕ) (day : ℕ) (kind : NoticeKind) (t : FailedRevision) → revision_if_failure tld day kind ≡ Some t → (tld ≡ t.tld) × ((day ≡ t.day) × (is_failure_of t.rev kind ≡ true))
revision_of_failure tld day (Failure rev _ _) t e =
    let same = some_is (record { tld = tld; day = day; rev = rev }) t e in
    (ap (λ (f : FailedRevision). f.tld) same, (ap (λ (f : FailedRevision). f.day) same, (Decides-eqb rev t.rev).1 (ap (λ (f : FailedRevision). f.rev) same)))
revision_of_failure tld day _ t e = cc

-- the failure of a revision is a verdict on it
failure_is_verdict : (rev : ℕ) (kind : NoticeKind) → is_failure_of rev kind ≡ true → revision_of kind ≡ Some rev
failure_is_verdict rev (Failure of _ _) e = ap Some ((Decides-eqb of rev).0 e)
failure_is_verdict rev _ e = cc

failure_about : (n : desk.Notice) (t : FailedRevision) → failed_revision_of n ≡ Some t → subject_of n ≡ Some (record { tld = t.tld; day = t.day; rev = Some t.rev })
failure_about n t e =
    let is = revision_of_failure n.tld n.day n.kind t e in
    let tld = is.0 in
    let day = is.1.0 in
    let rev = failure_is_verdict t.rev n.kind is.1.1 in
    λ i. Some (record { tld = tld i; day = day i; rev = rev i })

pub failures_once : (notices : List desk.Notice) → HaveUniqueKeys subject_of notices → HaveUniqueKeys failed_revision_of notices
failures_once notices once i j m n t at_i at_j tells_m tells_n = once i j m n (record { tld = t.tld; day = t.day; rev = Some t.rev }) at_i at_j (failure_about m t tells_m) (failure_about n t tells_n)

fails_decides : (n : desk.Notice) (t : FailedRevision) → Decides (bytes_eq n.tld t.tld && (n.day == t.day && is_failure_of t.rev n.kind)) (failed_revision_of n ≡ Some t)
fails_decides n t =
    Decides-like _ (λ h. failure_of_revision n.tld n.day n.kind t h.0 h.1.0 h.1.1) (revision_of_failure n.tld n.day n.kind t)
    (Decides-and _ _ (text_decides n.tld t.tld) (Decides-and _ _ (Decides-eqb n.day t.day) (λ e. e, λ e. e)))

-- ---- what all of them tell

module _ (notices : FinMap notice_cmp Notice) (rows : List desk.Notice) (is : notices ≡ table_map notice_cmp notice_key notice_value rows) (rising : is_rising notice_cmp notice_key rows ≡ true) where
  -- the revisions whose failure they tell are those that have failed
  pub failures_are : (has : FailedRevision → Bool) → ((t : FailedRevision) → (has t ≡ true) ↔ IsKeyAmong failed_revision_of rows t) → (t : FailedRevision) → has t ≡ has_failed notices t
  failures_are has tell t = same_from_decides (has t) (list_any fails rows) (tell t) (there, back) ∙ any_rows notice_cmp notice_key notice_value rows notices is rising (λ (e : NoticeKey × Notice). bytes_eq e.0.tld t.tld && (e.1.day == t.day && is_failure_of t.rev e.1.kind))
    where
      fails : desk.Notice → Bool
      fails n = bytes_eq n.tld t.tld && (n.day == t.day && is_failure_of t.rev n.kind)

      there : list_any fails rows ≡ true → IsKeyAmong failed_revision_of rows t
      there some =
          let one = Any-from_list_any fails rows some in
          record { place = one.0; notice = one.1; at = slice_get-get_or rows one.0 one.1 one.2 ∙ ap Some one.3; tells = (fails_decides one.1 t).0 one.4 }

      back : IsKeyAmong failed_revision_of rows t → list_any fails rows ≡ true
      back tells =
          list_any_at fails rows tells.place tells.notice (slice_get_within rows tells.place tells.notice tells.at)
          (ap fails (get_or_from_slice_get rows tells.place tells.notice tells.notice tells.at) ∙ (fails_decides tells.notice t).1 tells.tells)

  -- each row of this key and value tells it
  abbrev Tells : {T : Type 0} → (desk.Notice → Option T) → T → NoticeKey → Notice → Type 0
  Tells unique_key_of t key notice = (n : desk.Notice) → notice_key n ≡ key → notice_value n ≡ notice → unique_key_of n ≡ Some t

  -- two notices of the records that tell the same are one
  module _ {T : Type 0} (unique_key_of : desk.Notice → Option T) (once : HaveUniqueKeys unique_key_of rows) (t : T) where
    one_key : (j k : NoticeKey) (m n : Notice) → get notices j ≡ Some m → get notices k ≡ Some n → Tells unique_key_of t j m → Tells unique_key_of t k n → j ≡ k
    one_key j k m n at_j at_k tells_m tells_n =
        let first = table_has_row notice_cmp notice_key notice_value notice_exact rows rising j m (ap (λ (all : FinMap notice_cmp Notice). get all j) (sym is) ∙ at_j) in
        let second = table_has_row notice_cmp notice_key notice_value notice_exact rows rising k n (ap (λ (all : FinMap notice_cmp Notice). get all k) (sym is) ∙ at_k) in
        let at_first = slice_get-get_or rows first.place first.row first.within ∙ ap Some (first.at first.row) in
        let at_second = slice_get-get_or rows second.place second.row second.within ∙ ap Some (second.at second.row) in
        let place = once first.place second.place first.row second.row t at_first at_second (tells_m first.row first.key_is first.value_is) (tells_n second.row second.key_is second.value_is) in
        let row = sym (first.at first.row) ∙ ap (λ i. get_or rows i first.row) place ∙ second.at first.row in
        sym first.key_is ∙ ap notice_key row ∙ second.key_is

  about : (tld : List ℕ) (day : ℕ) (rev : Option ℕ) (key : NoticeKey) (notice : Notice) → key.tld ≡ tld → notice.day ≡ day → revision_of notice.kind ≡ rev → Tells subject_of (record { tld = tld; day = day; rev = rev }) key notice
  about tld day rev key notice at on of n key_is value_is i = Some (record {
    tld = (ap (λ (k : NoticeKey). k.tld) key_is ∙ at) i;
    day = (ap (λ (v : Notice). v.day) value_is ∙ on) i;
    rev = (ap (λ (v : Notice). revision_of v.kind) value_is ∙ of) i;
  })

  received : (tld : List ℕ) (day : ℕ) (key : NoticeKey) (notice : Notice) → key.tld ≡ tld → notice.day ≡ day → is_receipt notice.kind ≡ true → Tells received_day_of (record { tld = tld; day = day }) key notice
  received tld day key notice at on of n key_is value_is =
      (λ i. day_if_receipt ((ap (λ (k : NoticeKey). k.tld) key_is ∙ at) i) ((ap (λ (v : Notice). v.day) value_is ∙ on) i) (value_is i).kind) ∙ receipt_of_day tld day notice.kind of

  module _ (once : HaveUniqueKeys subject_of rows) where
    pub one_verdict : (j k : NoticeKey) (m n : Notice) (rev : ℕ) → get notices j ≡ Some m → get notices k ≡ Some n → AreOfOneDay j m k n → revision_of m.kind ≡ Some rev → revision_of n.kind ≡ Some rev → j ≡ k
    one_verdict j k m n rev at_j at_k day of_m of_n =
        one_key subject_of once (record { tld = k.tld; day = n.day; rev = Some rev }) j k m n at_j at_k
        (about k.tld n.day (Some rev) j m day.0 day.1 of_m) (about k.tld n.day (Some rev) k n refl refl of_n)

    pub one_absence : (j k : NoticeKey) (m n : Notice) → get notices j ≡ Some m → get notices k ≡ Some n → AreOfOneDay j m k n → is_absence m.kind ≡ true → is_absence n.kind ≡ true → j ≡ k
    one_absence j k m n at_j at_k day of_m of_n =
        one_key subject_of once (record { tld = k.tld; day = n.day; rev = None }) j k m n at_j at_k
        (about k.tld n.day None j m day.0 day.1 (absence_has_none m.kind of_m)) (about k.tld n.day None k n refl refl (absence_has_none n.kind of_n))

  module _ (once : HaveUniqueKeys received_day_of rows) where
    pub one_receipt : (j k : NoticeKey) (m n : Notice) → get notices j ≡ Some m → get notices k ≡ Some n → AreOfOneDay j m k n → is_receipt m.kind ≡ true → is_receipt n.kind ≡ true → j ≡ k
    one_receipt j k m n at_j at_k day of_m of_n =
        one_key received_day_of once (record { tld = k.tld; day = n.day }) j k m n at_j at_k
        (received k.tld n.day j m day.0 day.1 of_m) (received k.tld n.day k n refl refl of_n)

  -- where no day has two notices of which it has one at most, each of these stands once
  module _ (only : HaveNoRivals notices) where
    recorded : (i : ℕ) (n : desk.Notice) → slice_get rows i ≡ Some n → get notices (notice_key n) ≡ Some (notice_value n)
    recorded i n at =
        let here = get_or_from_slice_get rows i n n at in
        ap (λ (all : FinMap notice_cmp Notice). get all (notice_key n)) is
        ∙ subst (λ (r : desk.Notice). get (table_map notice_cmp notice_key notice_value rows) (notice_key r) ≡ Some (notice_value r)) here
        (row_in_table notice_cmp notice_key notice_value notice_total rows rising i n (slice_get_within rows i n at))

    one_place : (i j : ℕ) (m n : desk.Notice) → slice_get rows i ≡ Some m → slice_get rows j ≡ Some n → notice_key m ≡ notice_key n → i ≡ j
    one_place i j m n at_i at_j same = by (i == j) refl
      where
        keys : (d : desk.Notice) → notice_key (get_or rows i d) ≡ notice_key (get_or rows j d)
        keys d = ap notice_key (get_or_from_slice_get rows i m d at_i) ∙ same ∙ sym (ap notice_key (get_or_from_slice_get rows j n d at_j))

        first : ¬ (i < j)
        first low = keys_differ notice_cmp notice_key notice_total rows rising i j m low (slice_get_within rows j n at_j) (keys m)

        second : ¬ (j < i)
        second low = keys_differ notice_cmp notice_key notice_total rows rising j i m low (slice_get_within rows i m at_i) (sym (keys m))

        by : (b : Bool) → (i == j) ≡ b → i ≡ j
        by true e = (Decides-eqb i j).0 e
        by false e = grind (arith, first, second)

    pub subjects : HaveUniqueKeys subject_of rows
    subjects i j m n t at_i at_j tells_m tells_n = one_place i j m n at_i at_j (by (revision_of m.kind) refl)
      where
        same : ◌≡◌ {A = Subject} (record { tld = m.tld; day = m.day; rev = revision_of m.kind }) (record { tld = n.tld; day = n.day; rev = revision_of n.kind })
        same = some_is _ t tells_m ∙ sym (some_is _ t tells_n)

        day : AreOfOneDay (notice_key m) (notice_value m) (notice_key n) (notice_value n)
        day = (ap (λ (s : Subject). s.tld) same, ap (λ (s : Subject). s.day) same)

        by : (rev : Option ℕ) → revision_of m.kind ≡ rev → notice_key m ≡ notice_key n
        by None none =
            let other : revision_of n.kind ≡ None = sym (ap (λ (s : Subject). s.rev) same) ∙ none in
            only.one_absence (notice_key m) (notice_key n) (notice_value m) (notice_value n) (recorded i m at_i) (recorded j n at_j) day (none_is_absence m.kind none) (none_is_absence n.kind other)
        by (Some rev) of =
            let other : revision_of n.kind ≡ Some rev = sym (ap (λ (s : Subject). s.rev) same) ∙ of in
            only.one_verdict (notice_key m) (notice_key n) (notice_value m) (notice_value n) rev (recorded i m at_i) (recorded j n at_j) day of other

    pub received_days : HaveUniqueKeys received_day_of rows
    received_days i j m n t at_i at_j tells_m tells_n =
        let of_m = day_of_receipt m.tld m.day m.kind t tells_m in
        let of_n = day_of_receipt n.tld n.day n.kind t tells_n in
        one_place i j m n at_i at_j
        (only.one_receipt (notice_key m) (notice_key n) (notice_value m) (notice_value n) (recorded i m at_i) (recorded j n at_j) (of_m.1 ∙ sym of_n.1, of_m.2 ∙ sym of_n.2) of_m.0 of_n.0)
