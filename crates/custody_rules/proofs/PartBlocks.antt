-- The blocks of parts, by the rows of their table and by their map.
use Rattle.std.proofs.Common.{◌≡◌, ◌⊎◌, inl, inr, ⊎_elim, ℕ, zero, suc, ◌<◌, List, [], ◌∷◌, length, get_or, true, Option, Some, None, sym, ◌∙◌, ap, subst, arith}
use Rattle.std.specs.Prelude.{All}
use Rattle.std.specs.FinMap.{get}
use Rattle.std.proofs.lemmas.Bool.{cases_order}
use Rattle.std.proofs.lemmas.List.Elements.{All-nil, All-head, All-tail, All-append}
use Rattle.vault_volume.specs.Extents.{IsExtentOf, IsInAny, AreApart, IsFreeOf}
use Rattle.extent_map.specs.declared.extent.Extent.{Extent}
use Rattle.custody_records.specs.declared.parts.Part.{Part}
use Rattle.custody_records.specs.Keys.{PartKey, part_cmp}
use Rattle.custody_records.specs.inside.Orders.{part_total, part_exact}
use Rattle.custody_records.specs.Records.{PartRecord, Records}
use Rattle.custody_records.specs.Tables.{is_rising, table_map}
use Rattle.custody_records.specs.TypedRecords.{key_of_part, part_value}
use Rattle.custody_machine.specs.StoredState.{ForExtents, HaveBlock, IsPartBlock, AreExtents, HaveExtentsInRange, HaveBlocksOnce}
use Rattle.custody_machine.specs.Custody.{IsPlaceable}
use Rattle.custody_rules.specs.Blocks.{IsInRange, held_extents, part_extents, extents_of_all}
use Rattle.custody_rules.proofs.Apart.{in_left, in_right, in_either, apart_left, apart_right, apart_between, apart_append}
use Rattle.custody_rules.proofs.Tables.{IsRowOf, row_in_table, table_has_row, keys_differ}

-- ---- the extents that are held, and those that may not be

naming_held : (o : Option (List Extent)) (b : ℕ) → HaveBlock o b → IsInAny (held_extents o) b
naming_held None b none = none
naming_held (Some extents) b there = there

pub held_naming : (o : Option (List Extent)) (b : ℕ) → IsInAny (held_extents o) b → HaveBlock o b
held_naming None b none = none
held_naming (Some extents) b there = there

apart_held : (o : Option (List Extent)) → ForExtents o AreApart → AreApart (held_extents o)
apart_held None apart = tt
apart_held (Some extents) apart = apart

held_apart : (o : Option (List Extent)) → AreApart (held_extents o) → ForExtents o AreApart
held_apart None apart = tt
held_apart (Some extents) apart = apart

pub within_held : (blocks len : ℕ) (o : Option (List Extent)) → ForExtents o (AreExtents blocks len) → All (IsExtentOf blocks) (held_extents o)
within_held blocks len None within = All-nil (IsExtentOf blocks)
within_held blocks len (Some extents) within = within.each

-- ---- the extents of all rows

in_row : (rows : List Part) (b : ℕ) → IsInAny (extents_of_all rows) b → (i : ℕ) × (i < length rows) × ((d : Part) → IsInAny (part_extents (get_or rows i d)) b)
in_row [] b none = absurd none
in_row (row ∷ rows) b there = by (in_either (part_extents row) (extents_of_all rows) b there) (in_row rows b)
  where
    by : IsInAny (part_extents row) b ⊎ IsInAny (extents_of_all rows) b → (IsInAny (extents_of_all rows) b → (i : ℕ) × (i < length rows) × ((d : Part) → IsInAny (part_extents (get_or rows i d)) b))
        → (i : ℕ) × (i < length (row ∷ rows)) × ((d : Part) → IsInAny (part_extents (get_or (row ∷ rows) i d)) b)
    by (inl here) rest = (0, omega arith, λ d. here)
    by (inr after) rest = let found = rest after in let low = found.1 in (suc found.0, omega arith, λ d. found.2 d)

of_row : (rows : List Part) (i : ℕ) (d : Part) (b : ℕ) → i < length rows → IsInAny (part_extents (get_or rows i d)) b → IsInAny (extents_of_all rows) b
of_row [] i d b within there = absurd (omega arith)
of_row (row ∷ rows) zero d b within there = in_left (part_extents row) (extents_of_all rows) b there
of_row (row ∷ rows) (suc i) d b within there = in_right (part_extents row) (extents_of_all rows) b (of_row rows i d b (omega arith) there)

apart_within : (rows : List Part) → AreApart (extents_of_all rows) → (i : ℕ) (d : Part) → i < length rows → AreApart (part_extents (get_or rows i d))
apart_within [] apart i d within = absurd (omega arith)
apart_within (row ∷ rows) apart zero d within = apart_left (part_extents row) (extents_of_all rows) apart
apart_within (row ∷ rows) apart (suc i) d within = apart_within rows (apart_right (part_extents row) (extents_of_all rows) apart) i d (omega arith)

apart_rows : (rows : List Part) → AreApart (extents_of_all rows) → (i j : ℕ) (d : Part) → i < j → j < length rows → (b : ℕ) → IsInAny (part_extents (get_or rows i d)) b → IsInAny (part_extents (get_or rows j d)) b → ⊥
apart_rows [] apart i j d before within b here there = omega arith
apart_rows (row ∷ rows) apart i zero d before within b here there = omega arith
apart_rows (row ∷ rows) apart zero (suc j) d before within b here there = apart_between (part_extents row) (extents_of_all rows) apart b here (of_row rows j d b (omega arith) there)
apart_rows (row ∷ rows) apart (suc i) (suc j) d before within b here there = apart_rows rows (apart_right (part_extents row) (extents_of_all rows) apart) i j d (omega arith) (omega arith) b here there

apart_all : (rows : List Part) → ((i : ℕ) (d : Part) → i < length rows → AreApart (part_extents (get_or rows i d)))
    → ((i j : ℕ) (d : Part) → i < j → j < length rows → (b : ℕ) → IsInAny (part_extents (get_or rows i d)) b → IsInAny (part_extents (get_or rows j d)) b → ⊥) → AreApart (extents_of_all rows)
apart_all [] each between = tt
apart_all (row ∷ rows) each between = apart_append (part_extents row) (extents_of_all rows) (each 0 row (omega arith))
    (apart_all rows (λ i d within. each (suc i) d (omega arith)) (λ i j d before within. between (suc i) (suc j) d (omega arith) (omega arith)))
    (λ b here there. let found = in_row rows b there in let low = found.1 in between 0 (suc found.0) row (omega arith) (omega arith) b here (found.2 row))

-- each extent lies in the volume
pub each_extent : (blocks : ℕ) (rows : List Part) → All (IsInRange blocks) rows → All (IsExtentOf blocks) (extents_of_all rows)
each_extent blocks [] each = All-nil (IsExtentOf blocks)
each_extent blocks (row ∷ rows) each = All-append (IsExtentOf blocks) (part_extents row) (extents_of_all rows) (within_held blocks row.len (part_value row).extents (All-head (IsInRange blocks) row rows each))
    (each_extent blocks rows (All-tail (IsInRange blocks) row rows each))

-- ---- the rows of records

module _ (records : Records) (rows : List Part) (all : records.parts ≡ table_map part_cmp key_of_part part_value rows) (rising : is_rising part_cmp key_of_part rows ≡ true) where
  pub row_of : (key : PartKey) (part : PartRecord) → get records.parts key ≡ Some part → IsRowOf key_of_part part_value rows key part
  row_of key part has = table_has_row part_cmp key_of_part part_value part_exact rows rising key part (ap (λ m. get m key) (sym all) ∙ has)

  pub has_row : (i : ℕ) (d : Part) → i < length rows → get records.parts (key_of_part (get_or rows i d)) ≡ Some (part_value (get_or rows i d))
  has_row i d within = ap (λ m. get m (key_of_part (get_or rows i d))) all ∙ row_in_table part_cmp key_of_part part_value part_total rows rising i d within

  -- what the row of a part names
  pub row_named : (key : PartKey) (part : PartRecord) (b : ℕ) → (row : IsRowOf key_of_part part_value rows key part) → HaveBlock part.extents b → (d : Part) → IsInAny (part_extents (get_or rows row.place d)) b
  row_named key part b row naming d = subst (λ p. IsInAny (part_extents p) b) (sym (row.at d)) (subst (λ (p : PartRecord). IsInAny (held_extents p.extents) b) (sym row.value_is) (naming_held part.extents b naming))

  pub in_range_rows : HaveExtentsInRange records → All (IsInRange records.blocks) rows
  in_range_rows range i d within = range (key_of_part (get_or rows i d)) (part_value (get_or rows i d)) (has_row i d within)

  pub rows_in_range : All (IsInRange records.blocks) rows → HaveExtentsInRange records
  rows_in_range each key part has =
      let row = row_of key part has in
      subst (λ (p : PartRecord). ForExtents p.extents (AreExtents records.blocks p.len)) row.value_is (subst (IsInRange records.blocks) (row.at row.row) (each row.place row.row row.within))

  pub named_rows : (b : ℕ) → IsPartBlock records b → IsInAny (extents_of_all rows) b
  named_rows b named = let row = row_of named.0 named.1 named.2 in of_row rows row.place row.row b row.within (row_named named.0 named.1 b row named.3 row.row)

  pub rows_named : (b : ℕ) → IsInAny (extents_of_all rows) b → IsPartBlock records b
  rows_named b there = by rows (in_row rows b there) has_row
    where
      by : (ps : List Part) → (i : ℕ) × (i < length ps) × ((d : Part) → IsInAny (part_extents (get_or ps i d)) b)
          → ((i : ℕ) (d : Part) → i < length ps → get records.parts (key_of_part (get_or ps i d)) ≡ Some (part_value (get_or ps i d))) → IsPartBlock records b
      by [] found has = let low = found.1 in absurd (omega arith)
      by (p ∷ ps) found has = (key_of_part (get_or (p ∷ ps) found.0 p), part_value (get_or (p ∷ ps) found.0 p), has found.0 p found.1, held_naming (part_value (get_or (p ∷ ps) found.0 p)).extents b (found.2 p))

  pub once_rows : HaveBlocksOnce records → AreApart (extents_of_all rows)
  once_rows once = apart_all rows
      (λ i d within. apart_held (part_value (get_or rows i d)).extents (once.within (key_of_part (get_or rows i d)) (part_value (get_or rows i d)) (has_row i d within)))
      (λ i j d before within b here there.
      keys_differ part_cmp key_of_part part_total rows rising i j d before within
      (once.between (key_of_part (get_or rows i d)) (key_of_part (get_or rows j d)) (part_value (get_or rows i d)) (part_value (get_or rows j d)) b (has_row i d (omega arith)) (has_row j d within)
      (held_naming (part_value (get_or rows i d)).extents b here) (held_naming (part_value (get_or rows j d)).extents b there)))

  pub rows_once : AreApart (extents_of_all rows) → HaveBlocksOnce records
  rows_once apart = record {
    within = λ key part has.
        let row = row_of key part has in
        held_apart part.extents (subst (λ (p : PartRecord). AreApart (held_extents p.extents)) row.value_is (subst (λ p. AreApart (part_extents p)) (row.at row.row) (apart_within rows apart row.place row.row row.within)));
    between = λ j k p q b has has_too here there.
        let first = row_of j p has in
        let second = row_of k q has_too in
        let d = first.row in
        ⊎_elim
        (λ (same : first.place ≡ second.place).
        sym first.key_is ∙ ap key_of_part (sym (first.at d) ∙ ap (λ i. get_or rows i d) same ∙ second.at d) ∙ second.key_is)
        (λ (apart_places : (first.place < second.place) ⊎ (second.place < first.place)). absurd (⊎_elim
        (λ (before : first.place < second.place). apart_rows rows apart first.place second.place d before second.within b (row_named j p b first here d) (row_named k q b second there d))
        (λ (after : second.place < first.place). apart_rows rows apart second.place first.place d after first.within b (row_named k q b second there d) (row_named j p b first here d))
        apart_places))
        (cases_order first.place second.place);
  }

  -- ---- the map of the volume

  -- where just the blocks of all rows are used, just those that may be placed are free
  pub free_placeable : (free : ℕ → Type 0) → IsFreeOf records.blocks (extents_of_all rows) free → (b : ℕ) → (free b → IsPlaceable records b) × (IsPlaceable records b → free b)
  free_placeable free exact b = (
    λ is. let h = (exact b).0 is in (h.0, h.1, λ named. h.2 (named_rows b named)),
    λ p. (exact b).1 p.0 p.1 (λ there. p.2 (rows_named b there)),
  )
