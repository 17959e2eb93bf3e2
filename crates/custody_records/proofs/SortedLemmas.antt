-- Rows that rise, taken in their order: each adds a key that those before it do not have.
use Rattle.std.proofs.Common.{◌≡◌, ℕ, ◌<◌, List, [], ◌∷◌, ◌++◌, length, get_or, true, None, refl, sym, ◌∙◌, ap, arith, length-append}
use Rattle.std.specs.Prelude.{option_map}
use Rattle.std.specs.List as list
use Rattle.std.specs.Cmp.{IsTotalOrder}
use Rattle.std.specs.FinMap.{get, insert}
use Rattle.std.specs.Ordering.{is_lt, is_eq}
use Rattle.std.specs.declared.cmp.Ordering.{Ordering}
use Rattle.std.specs.declared.cmp.Ordering.TheVariants.{Less}
use Rattle.std.proofs.Math.Seq.{get_or-append_seam}
use Rattle.std.proofs.lemmas.Bool.{and_from, and_parts}
use Rattle.std.proofs.lemmas.List.{get_or_append_left}
use Rattle.custody_records.specs.Tables.{is_below_all, is_rising, table_map}
use Rattle.custody_records.proofs.TableLemmas.{IsAdded, get_table, map_added, not_found}
use Rattle.custody_records.proofs.GroupLemmas.{rises_far}

inserted_last : {Row : Type 0} (rows : List Row) (row : Row) → rows ++ row ∷ [] ≡ list.insert rows (length rows) row
inserted_last [] row = refl
inserted_last (first ∷ rows) row = ap (λ l. first ∷ l) (inserted_last rows row)

module _ {Row K : Type 0} (order : K → K → Ordering) (key : Row → K) where
  below_front : (low : K) (rows rest : List Row) → is_below_all order key low (rows ++ rest) ≡ true → is_below_all order key low rows ≡ true
  below_front low [] rest below = refl
  below_front low (row ∷ rows) rest below =
      let split = and_parts (is_lt (order low (key row))) (is_below_all order key low (rows ++ rest)) below in
      and_from _ _ split.0 (below_front low rows rest split.1)

  -- the first of rows that rise do so
  rising_front : (rows rest : List Row) → is_rising order key (rows ++ rest) ≡ true → is_rising order key rows ≡ true
  rising_front [] rest rising = refl
  rising_front (row ∷ rows) rest rising =
      let split = and_parts (is_below_all order key (key row) (rows ++ rest)) (is_rising order key (rows ++ rest)) rising in
      and_from _ _ (below_front (key row) rows rest split.0) (rising_front rows rest split.1)

  module _ (o : IsTotalOrder order) (rows rest : List Row) (row : Row) (rising : is_rising order key (rows ++ row ∷ rest) ≡ true) where
    below_next : (i : ℕ) (d : Row) → i < length rows → order (key (get_or rows i d)) (key row) ≡ Less
    below_next i d within =
        ap (λ r. order (key r) (key row)) (sym (get_or_append_left rows (row ∷ rest) d i within))
        ∙ ap (λ r. order (key (get_or (rows ++ row ∷ rest) i d)) (key r)) (sym (get_or-append_seam rows row rest d))
        ∙ rises_far order key (rows ++ row ∷ rest) i (length rows) d rising within (omega (arith, length-append rows (row ∷ rest)))

    next_added : IsAdded order key rows (rows ++ row ∷ []) row
    next_added = record { place = length rows; is = inserted_last rows row; below = λ i d lt within. below_next i d within; above = λ i d le within. absurd (omega arith) }

    -- the row's key is that of none before it
    pub next_absent : {X : Type 0} (value : Row → X) → get (table_map order key value rows) (key row) ≡ None
    next_absent value =
        get_table order key value rows (key row) (rising_front rows (row ∷ rest) rising)
        ∙ ap (option_map value) (not_found order key o rows (key row) (λ i d within. ap is_eq (below_next i d within)))

    -- the map of the rows up to it has its value too
    pub next_inserted : {X : Type 0} (value : Row → X) → table_map order key value (rows ++ row ∷ []) ≡ insert (table_map order key value rows) (key row) (value row)
    next_inserted = map_added order key o next_added (rising_front rows (row ∷ rest) rising)
