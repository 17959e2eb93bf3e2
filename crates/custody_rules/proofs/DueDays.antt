-- The days of a registry that have no notice, one day after the other.
use Rattle.std.proofs.Common.{◌≡◌, ◌≤◌, ◌-◌, ◌+◌, ℕ, List, [], ◌∷◌, ◌++◌, map, Bool, true, false, ◌&&◌, ◌||◌, ◌==◌, ◌<◌, length, take, get_or, append-nil, append_assoc, cond, refl, sym, ◌∙◌, ap, arith}
use Rattle.std.specs.List.{filter, flat_map, list_any, range_with_len}
use Rattle.std.proofs.Math.Bool.{and-true}
use Rattle.std.proofs.lemmas.List.{take_more}
use Rattle.std.specs.FinMap.{entries}
use Rattle.std.specs.Ordering.{is_eq}
use Rattle.std.proofs.lemmas.List.FromFn.{filter_of_map_range_with_len_more}
use Rattle.std.proofs.lemmas.Map.Text.{is_eq-slice_cmp}
use Rattle.desk.specs.declared.notices.Notice as desk
use Rattle.custody_records.specs.Keys.{NoticeKey, notice_cmp, text_cmp}
use Rattle.custody_records.specs.Records.{Notice, Records, notices_of}
use Rattle.custody_records.specs.Tables.{row_entries}
use Rattle.custody_records.specs.TypedRecords.{notice_key, notice_value}
use Rattle.custody_machine.specs.State.{has_notice}
use Rattle.custody_rules.specs.DueDays.{is_unnoticed}
use Rattle.custody_rules.proofs.Tables.{any_entries}

-- ---- one day more

pub due_more : (records : Records) (tld : List ℕ) (first day : ℕ) → first ≤ day
    → filter (is_unnoticed records) (map (λ d. (tld, d)) (range_with_len first (day + 1 - first))) ≡ filter (is_unnoticed records) (map (λ d. (tld, d)) (range_with_len first (day - first))) ++ cond (is_unnoticed records (tld, day)) ((tld, day) ∷ []) []
due_more records tld first day low =
    let longer : day + 1 - first ≡ (day - first) + 1 = omega (arith, low) in
    ap (λ n. filter (is_unnoticed records) (map (λ d. (tld, d)) (range_with_len first n))) longer
    ∙ filter_of_map_range_with_len_more (is_unnoticed records) (λ d. (tld, d)) first (day - first) day (omega (arith, low))

-- ---- the notices of a registry are those of all that are its own

any_filtered : {X : Type 0} (keep test : X → Bool) (xs : List X) → list_any test (filter keep xs) ≡ list_any (λ x. keep x && test x) xs
any_filtered keep test [] = refl
any_filtered keep test (x ∷ xs) = by (keep x) (any_filtered keep test xs)
  where
    by : (b : Bool) → list_any test (filter keep xs) ≡ list_any (λ x. keep x && test x) xs → list_any test (cond b (x ∷ filter keep xs) (filter keep xs)) ≡ ((b && test x) || list_any (λ x. keep x && test x) xs)
    by true rest = ap (λ b. test x || b) rest
    by false rest = rest

pub noticed_day : (records : Records) (tld : List ℕ) (rows : List desk.Notice) → row_entries notice_key notice_value rows ≡ notices_of records tld → (day : ℕ) → list_any (λ (n : desk.Notice). n.day == day) rows ≡ has_notice records.notices tld day (λ kind. true)
noticed_day records tld rows is day =
    any_entries notice_cmp notice_key notice_value (λ (e : NoticeKey × Notice). e.1.day == day) rows ∙ ap (list_any (λ (e : NoticeKey × Notice). e.1.day == day)) is
    ∙ any_filtered (λ (e : NoticeKey × Notice). is_eq (text_cmp e.0.tld tld)) (λ (e : NoticeKey × Notice). e.1.day == day) (entries records.notices)
    ∙ (λ i. list_any (λ (e : NoticeKey × Notice). is_eq-slice_cmp e.0.tld tld i && sym (and-true (e.1.day == day)) i) (entries records.notices))

-- ---- one registry more

rows_push : {Row K X Y : Type 0} (key : Row → K) (value : Row → X) (f : K × X → List Y) (rows : List Row) (row : Row) → flat_map f (row_entries key value (rows ++ row ∷ [])) ≡ flat_map f (row_entries key value rows) ++ f (key row, value row)
rows_push key value f [] row = append-nil (f (key row, value row))
rows_push key value f (r ∷ rows) row =
    ap (λ l. f (key r, value r) ++ l) (rows_push key value f rows row)
    ∙ sym (append_assoc (f (key r, value r)) (flat_map f (row_entries key value rows)) (f (key row, value row)))

pub rows_step : {Row K X Y : Type 0} (key : Row → K) (value : Row → X) (f : K × X → List Y) (rows : List Row) (i : ℕ) (row : Row) → i < length rows → row ≡ get_or rows i row
    → flat_map f (row_entries key value (take (i + 1) rows)) ≡ flat_map f (row_entries key value (take i rows)) ++ f (key row, value row)
rows_step {Row} key value f rows i row lt is =
    ap (λ (l : List Row). flat_map f (row_entries key value l)) (take_more rows i row lt ∙ ap (λ (r : Row). take i rows ++ r ∷ []) (sym is)) ∙ rows_push key value f (take i rows) row
