-- A row that is looked for by the places of rows in ascending order.
use Rattle.std.proofs.Common.{◌≡◌, ◌↔◌, ◌≤◌, ◌<◌, ◌∙◌, [], ℕ, Contains, Err, IsTrue, List, Ok, Ordering, Result, ap, arith, get_or, inl, inr, length, rules, sym}
use Rattle.std.specs.Prelude.{is_ok}
use Rattle.std.specs.List.Sorted.{IsBinarySearchResult, IsSearchInRange, IsSortedBy}
use Rattle.std.specs.declared.cmp.Ordering.TheVariants.{Equal}
use Rattle.std.proofs.lemmas.Bool.Decides.{leb_tells}
use Rattle.std.proofs.lemmas.Cmp.{tied_itself}
use Rattle.std.proofs.lemmas.List.{get_or_default}
use Rattle.std.proofs.lemmas.List.Sorted.{searchable_from_sorted}
use Rattle.dnrd_csv.specs.Table.{HaveWidth}
use Rattle.dnrd_csv.proofs.KeyLemmas.{key_order}
use Rattle.deposit_tables.specs.Restored.{row_cmp}
use Rattle.deposit_tables.specs.inside.Places.{ArePlaces, is_below, six_fields}
use Rattle.deposit_tables.proofs.Decisions.{Rows}
use Rattle.deposit_tables.proofs.SortedOnce.{same_row, six_cmp}

-- the order of the rows at places and one row
abbrev pub order_of : Rows → List (List ℕ) → ℕ → Ordering
order_of rows row place = row_cmp (six_fields (get_or rows place [])) (six_fields row)

module _ (width : ℕ) (rows : Rows) (places : List ℕ) (row : List (List ℕ)) (most : width ≤ 6) (wide : HaveWidth width rows) (row_wide : length row ≡ width) (are : ArePlaces (length rows) places) where
  found : (i : ℕ) → i < length places → order_of rows row (get_or places i 0) ≡ Equal → Contains rows row
  found i inside equal =
      let place = get_or places i 0 in
      let there : place < length rows = (are place).0 (i, inside, get_or_default places i place 0 inside) in
      let size = wide place [] there in
      let same : get_or rows place [] ≡ row = same_row (get_or rows place []) row (sym (six_cmp (get_or rows place []) row (size ∙ sym row_wide) (omega (arith, size, most))) ∙ equal) in
      (place, there, get_or_default rows place row [] there ∙ same)

  -- where the row stands, the order is `Equal`
  at_row : (k : ℕ) → k < length rows → get_or rows k row ≡ row → order_of rows row k ≡ Equal
  at_row k inside is = ap (λ (r : List (List ℕ)). row_cmp (six_fields r) (six_fields row)) (get_or_default rows k [] row inside ∙ is) ∙ tied_itself key_order (six_fields row)

  pub search_row : (r : Result ℕ ℕ) → IsSortedBy (is_below rows) places → IsSearchInRange r (length places) → IsBinarySearchResult (order_of rows row) places r → IsTrue (is_ok r) ↔ Contains rows row
  search_row (Ok i) sorted inside at = (λ _. found i inside (at 0), λ _. search rules)
  search_row (Err i) sorted inside at = (
    λ e. search rules,
    λ h.
        let placed = (are h.0).1 h.1 in
        let part = at (searchable_from_sorted key_order (λ (place : ℕ). six_fields (get_or rows place [])) places (six_fields row) sorted) in
        let here : order_of rows row (get_or places placed.0 h.0) ≡ Equal = ap (order_of rows row) placed.2 ∙ at_row h.0 h.1 h.2 in
        absurd (elim (leb_tells i placed.0) [
          | inl above ↦ let greater = part.1 placed.0 h.0 above.1 placed.1 in cc (here, greater)
          | inr below ↦ let less = part.0 placed.0 h.0 (omega arith) below.1 in cc (here, less)
        ]),
  )
