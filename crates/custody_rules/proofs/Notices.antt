-- The notices of a day, looked for in those of its registry.
use Rattle.std.proofs.Common.{◌≡◌, ℕ, List, [], ◌∷◌, Bool, true, false, ◌∙◌, ap, refl, cond, Some}
use Rattle.std.specs.Prelude.{option_map, bytes_eq}
use Rattle.std.specs.List.{filter, find, list_any}
use Rattle.std.specs.FinMap.{entries}
use Rattle.std.specs.Ordering.{is_eq}
use Rattle.std.proofs.lemmas.Map.Text.{is_eq-slice_cmp}
use Rattle.std.proofs.lemmas.Map.Views.{any-filter_same}
use Rattle.desk.specs.declared.notices.Notice as desk
use Rattle.custody_records.specs.Keys.{NoticeKey, notice_cmp, text_cmp}
use Rattle.custody_records.specs.Records.{Notice, Records, notices_of}
use Rattle.custody_records.specs.Tables.{row_entries}
use Rattle.custody_records.specs.TypedRecords.{notice_entry, notice_key, notice_value}
use Rattle.custody_rules.proofs.Tables.{any_entries}

module _ (records : Records) (tld : List ℕ) (rows : List desk.Notice) (is : row_entries notice_key notice_value rows ≡ notices_of records tld) where
  abbrev of_registry : NoticeKey × Notice → Bool
  of_registry e = is_eq (text_cmp e.0.tld tld)

  -- the first of all that pass a test of the registry's notices is the first of its own
  pub first_notice : (test : NoticeKey × Notice → Bool) → ((e : NoticeKey × Notice) → test e ≡ true → bytes_eq e.0.tld tld ≡ true) → find test (row_entries notice_key notice_value rows) ≡ find test (entries records.notices)
  first_notice test of_tld = ap (find test) is ∙ by (entries records.notices)
    where
      by : (es : List (NoticeKey × Notice)) → find test (filter of_registry es) ≡ find test es
      by [] = refl
      by (e ∷ es) = by_test (of_registry e) refl (test e) refl (by es)
        where
          by_test : (b : Bool) → of_registry e ≡ b → (t : Bool) → test e ≡ t → find test (filter of_registry es) ≡ find test es → find test (cond b (e ∷ filter of_registry es) (filter of_registry es)) ≡ cond t (Some e) (find test es)
          by_test true k t h rest = ap (λ c. cond c (Some e) (find test (filter of_registry es))) h ∙ ap (cond t (Some e)) rest
          by_test false k true h rest = let there : of_registry e ≡ true = is_eq-slice_cmp e.0.tld tld ∙ of_tld e h in cc
          by_test false k false h rest = rest

  -- and one passes where one of all does
  pub some_of_registry : (test : NoticeKey × Notice → Bool) → ((e : NoticeKey × Notice) → test e ≡ true → bytes_eq e.0.tld tld ≡ true) → list_any (λ (n : desk.Notice). test (notice_key n, notice_value n)) rows ≡ list_any test (entries records.notices)
  some_of_registry test of_tld = any_entries notice_cmp notice_key notice_value test rows ∙ ap (list_any test) is ∙ any-filter_same test of_registry true (λ e passed. is_eq-slice_cmp e.0.tld tld ∙ of_tld e passed) (entries records.notices)

-- the first row that passes, as an entry
pub find_rows : (test : NoticeKey × Notice → Bool) (rows : List desk.Notice) → option_map notice_entry (find (λ (n : desk.Notice). test (notice_entry n)) rows) ≡ find test (row_entries notice_key notice_value rows)
find_rows test [] = refl
find_rows test (n ∷ rows) = by (test (notice_entry n)) (find_rows test rows)
  where
    by : (b : Bool) → option_map notice_entry (find (λ (n : desk.Notice). test (notice_entry n)) rows) ≡ find test (row_entries notice_key notice_value rows) → option_map notice_entry (cond b (Some n) (find (λ (n : desk.Notice). test (notice_entry n)) rows)) ≡ cond b (Some (notice_entry n)) (find test (row_entries notice_key notice_value rows))
    by true rest = refl
    by false rest = rest
