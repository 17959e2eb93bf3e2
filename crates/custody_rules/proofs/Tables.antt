-- A table in memory and the map that it stands for: the rows are what the map has, and a test of the rows is one of its entries.
use Rattle.std.proofs.Common.{◌≡◌, ℕ, zero, suc, ◌<◌, List, [], ◌∷◌, length, get_or, Bool, true, false, ◌&&◌, ◌||◌, cond, Option, Some, None, sym, ◌∙◌, ap, refl, arith}
use Rattle.std.specs.Prelude.{option_map}
use Rattle.std.specs.Bool.{Decides}
use Rattle.std.specs.List.{cons_option, filter, filter_map, list_all, list_any}
use Rattle.std.specs.Ordering.{is_eq}
use Rattle.std.specs.declared.cmp.Ordering.{Ordering}
use Rattle.std.specs.declared.cmp.Ordering.TheVariants.{Less, Equal}
use Rattle.std.specs.Cmp.{IsTotalOrder}
use Rattle.std.specs.FinMap.{FinMap, IsAntisymmetric, entries, get}
use Rattle.std.proofs.lemmas.Bool.{and_parts}
use Rattle.std.proofs.lemmas.Cmp.{tied_itself}
use Rattle.std.proofs.lemmas.List.Sums.{AllPass-from_list_all, list_all-from_AllPass}
use Rattle.custody_records.specs.Tables.{row_entries, is_below_all, is_rising, table_map}
use Rattle.custody_records.proofs.TableLemmas.{row_at, get_table, found_at, key_found, below_at, entries-table_map, entries_rise, table_map-entries}
use Rattle.custody_rules.specs.inside.Links.{each_passes}

-- a row of this key and value, and where it stands
pub record IsRowOf {Row K X : Type 0} (key : Row → K) (value : Row → X) (rows : List Row) (sought : K) (x : X) : Type 0 where
  pub row : Row
  pub place : ℕ
  pub within : place < length rows
  pub at : (d : Row) → get_or rows place d ≡ row
  pub key_is : key row ≡ sought
  pub value_is : value row ≡ x

module _ {Row K X : Type 0} (order : K → K → Ordering) (key : Row → K) (value : Row → X) where
  -- a row is what the map has at its key
  pub row_in_table : IsTotalOrder order → (rows : List Row) → is_rising order key rows ≡ true → (i : ℕ) (d : Row) → i < length rows
      → get (table_map order key value rows) (key (get_or rows i d)) ≡ Some (value (get_or rows i d))
  row_in_table o rows rising i d within =
      get_table order key value rows (key (get_or rows i d)) rising
      ∙ ap (option_map value) (found_at order key o rows (key (get_or rows i d)) i d rising within (tied_itself o (key (get_or rows i d))))

  found_row : (rows : List Row) (sought : K) (row : Row) → row_at order key rows sought ≡ Some row → (i : ℕ) × (i < length rows) × ((d : Row) → get_or rows i d ≡ row)
  found_row [] sought row e = cc
  found_row (r ∷ rows) sought row e = by (is_eq (order sought (key r))) e (found_row rows sought row)
    where
      by : (b : Bool) → cond b (Some r) (row_at order key rows sought) ≡ Some row
          → (row_at order key rows sought ≡ Some row → (i : ℕ) × (i < length rows) × ((d : Row) → get_or rows i d ≡ row))
          → (i : ℕ) × (i < length (r ∷ rows)) × ((d : Row) → get_or (r ∷ rows) i d ≡ row)
      by true is rest = let same : r ≡ row = cc in (0, omega arith, λ d. same)
      by false is rest = let there = rest is in let low = there.1 in (suc there.0, omega arith, λ d. there.2 d)

  -- what the map has at a key is a row
  pub table_has_row : IsAntisymmetric order → (rows : List Row) → is_rising order key rows ≡ true → (sought : K) (x : X) → get (table_map order key value rows) sought ≡ Some x → IsRowOf key value rows sought x
  table_has_row exact rows rising sought x has = by (row_at order key rows sought) refl (sym (get_table order key value rows sought rising) ∙ has)
    where
      by : (found : Option Row) → row_at order key rows sought ≡ found → option_map value found ≡ Some x → IsRowOf key value rows sought x
      by None is e = cc
      by (Some row) is e =
          let stands = found_row rows sought row is in
          record { row = row; place = stands.0; within = stands.1; at = stands.2; key_is = key_found order key exact rows sought row is; value_is = cc }

-- ---- no two rows have one key

module _ {Row K : Type 0} (order : K → K → Ordering) (key : Row → K) where
  -- a row's key is below that of each row after it
  rows_rise : (rows : List Row) → is_rising order key rows ≡ true → (i j : ℕ) (d : Row) → i < j → j < length rows → order (key (get_or rows i d)) (key (get_or rows j d)) ≡ Less
  rows_rise [] rising i j d before within = absurd (omega arith)
  rows_rise (row ∷ rows) rising i zero d before within = absurd (omega arith)
  rows_rise (row ∷ rows) rising zero (suc j) d before within = below_at order key (key row) rows j d (and_parts (is_below_all order key (key row) rows) _ rising).0 (omega arith)
  rows_rise (row ∷ rows) rising (suc i) (suc j) d before within = rows_rise rows (and_parts (is_below_all order key (key row) rows) _ rising).1 i j d (omega arith) (omega arith)

  pub keys_differ : IsTotalOrder order → (rows : List Row) → is_rising order key rows ≡ true → (i j : ℕ) (d : Row) → i < j → j < length rows → key (get_or rows i d) ≡ key (get_or rows j d) → ⊥
  keys_differ o rows rising i j d before within same =
      let less = rows_rise rows rising i j d before within in
      let clash : Less ≡ Equal = sym less ∙ ap (order (key (get_or rows i d))) (sym same) ∙ tied_itself o (key (get_or rows i d)) in
      cc

-- ---- tests

-- a test passes at each entry where it passes at each key
pub each_decides : {K X : Type 0} {R : K → K → Ordering} → IsTotalOrder R → IsAntisymmetric R → (test : K → X → Bool) (P : K → X → Type 0) → ((k : K) (x : X) → Decides (test k x) (P k x)) → (m : FinMap R X)
    → Decides (each_passes test m) ((k : K) (x : X) → get m k ≡ Some x → P k x)
each_decides {K} {X} {R} total exact test P decides m = (there, back)
  where
    there : each_passes test m ≡ true → (k : K) (x : X) → get m k ≡ Some x → P k x
    there all k x at =
        let row = table_has_row R (λ (e : K × X). e.0) (λ (e : K × X). e.1) exact (entries m) (entries_rise m) k x (ap (λ (n : FinMap R X). get n k) (table_map-entries m) ∙ at) in
        let passes = AllPass-from_list_all (λ (e : K × X). test e.0 e.1) (entries m) all row.place row.row row.within in
        (decides k x).0 ((λ i. test (sym row.key_is i) (sym row.value_is i)) ∙ ap (λ (e : K × X). test e.0 e.1) (sym (row.at row.row)) ∙ passes)

    back : ((k : K) (x : X) → get m k ≡ Some x → P k x) → each_passes test m ≡ true
    back each = list_all-from_AllPass (λ (e : K × X). test e.0 e.1) (entries m) (λ i d within.
        let entry = get_or (entries m) i d in
        (decides entry.0 entry.1).1 (each entry.0 entry.1
        (ap (λ (n : FinMap R X). get n entry.0) (sym (table_map-entries m)) ∙ row_in_table R (λ (e : K × X). e.0) (λ (e : K × X). e.1) total (entries m) (entries_rise m) i d within)))

module _ {Row K X : Type 0} (order : K → K → Ordering) (key : Row → K) (value : Row → X) where
  pub all_entries : (p : K × X → Bool) (rows : List Row) → list_all (λ row. p (key row, value row)) rows ≡ list_all p (row_entries key value rows)
  all_entries p [] = refl
  all_entries p (row ∷ rows) = ap (λ b. p (key row, value row) && b) (all_entries p rows)

  pub any_entries : (p : K × X → Bool) (rows : List Row) → list_any (λ row. p (key row, value row)) rows ≡ list_any p (row_entries key value rows)
  any_entries p [] = refl
  any_entries p (row ∷ rows) = ap (λ b. p (key row, value row) || b) (any_entries p rows)

  module _ (rows : List Row) (m : FinMap order X) (is : m ≡ table_map order key value rows) (rising : is_rising order key rows ≡ true) where
    entries_are : row_entries key value rows ≡ entries m
    entries_are = sym (ap entries is ∙ entries-table_map order key value rows rising)

    -- a test of each row, or of some row, is that of the map's entries
    pub all_rows : (p : K × X → Bool) → list_all (λ row. p (key row, value row)) rows ≡ list_all p (entries m)
    all_rows p = all_entries p rows ∙ ap (list_all p) entries_are

    pub any_rows : (p : K × X → Bool) → list_any (λ row. p (key row, value row)) rows ≡ list_any p (entries m)
    any_rows p = any_entries p rows ∙ ap (list_any p) entries_are

-- what is told of those that a filter keeps
pub filter_map_kept : {X Y : Type 0} (keep : X → Bool) (f : X → Option Y) (xs : List X) → filter_map f (filter keep xs) ≡ filter_map (λ x. cond (keep x) (f x) None) xs
filter_map_kept keep f [] = refl
filter_map_kept {X} keep f (x ∷ xs) = by (keep x) (filter keep xs) ∙ ap (cons_option (cond (keep x) (f x) None)) (filter_map_kept keep f xs)
  where
    by : (b : Bool) (kept : List X) → filter_map f (cond b (x ∷ kept) kept) ≡ cons_option (cond b (f x) None) (filter_map f kept)
    by true kept = refl
    by false kept = refl
