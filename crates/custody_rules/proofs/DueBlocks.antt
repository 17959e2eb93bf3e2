-- The blocks and the keys of the parts that are due, by the rows of their table.
use Rattle.std.proofs.Common.{◌≡◌, ⊎_elim, ℕ, zero, suc, ◌<◌, List, [], ◌∷◌, length, get_or, Bool, true, false, Some, cond, refl, sym, ◌∙◌, ap, subst, arith}
use Rattle.std.specs.Prelude.{All, filter, if◌then◌else◌, map}
use Rattle.std.specs.List.{flat_map}
use Rattle.std.specs.Map.{keys_of}
use Rattle.std.specs.FinMap.{FinMap, entries, get}
use Rattle.std.proofs.lemmas.List.Elements.{All-nil, All-head, All-tail, All-append}
use Rattle.vault_volume.specs.Extents.{IsExtentOf, IsInAny, AreApart}
use Rattle.extent_map.specs.declared.extent.Extent.{Extent}
use Rattle.custody_records.specs.declared.parts.Part.{Part}
use Rattle.custody_records.specs.Keys.{text_cmp, PartKey, part_cmp}
use Rattle.custody_records.specs.Purge.{is_due}
use Rattle.custody_records.specs.Records.{Hold, PartRecord, Records}
use Rattle.custody_records.specs.Tables.{row_entries, is_rising, table_map}
use Rattle.custody_records.specs.TypedRecords.{key_of_part, part_value}
use Rattle.custody_records.proofs.TableLemmas.{entries-table_map}
use Rattle.custody_machine.specs.Purge.{IsDueBlock, due_keys}
use Rattle.custody_rules.specs.Blocks.{IsInRange, part_extents, extents_of_all}
use Rattle.custody_rules.proofs.Apart.{in_left, in_right, in_either, apart_left, apart_right, apart_between, apart_append}
use Rattle.custody_rules.proofs.PartBlocks.{held_naming, within_held, row_of, has_row, row_named}

module _ (holds : FinMap text_cmp Hold) (today : ℕ) where
  abbrev is_due_entry : PartKey × PartRecord → Bool
  is_due_entry entry = is_due holds today entry.0 entry.1

  abbrev pub is_due_row : Part → Bool
  is_due_row row = is_due_entry (key_of_part row, part_value row)

  -- the extents of a row that is due, none of any other
  abbrev due_row_extents : Part → List Extent
  due_row_extents row = if is_due_row row then part_extents row else []

  -- the extents of all the rows that are due, one after the other
  abbrev pub due_extents : List Part → List Extent
  due_extents rows = flat_map due_row_extents rows

  -- ---- a row

  -- a block of a row that is due
  in_due : (row : Part) (b : ℕ) → IsInAny (due_row_extents row) b → (is_due_row row ≡ true) × IsInAny (part_extents row) b
  in_due row b there = by (is_due_row row) refl there
    where
      by : (d : Bool) → is_due_row row ≡ d → IsInAny (cond d (part_extents row) []) b → (is_due_row row ≡ true) × IsInAny (part_extents row) b
      by true is there = (is, there)
      by false is none = absurd none

  due_in : (row : Part) (b : ℕ) → is_due_row row ≡ true → IsInAny (part_extents row) b → IsInAny (due_row_extents row) b
  due_in row b due there = subst (λ d. IsInAny (cond d (part_extents row) []) b) (sym due) there

  apart_row : (row : Part) → AreApart (part_extents row) → AreApart (due_row_extents row)
  apart_row row apart = by (is_due_row row)
    where
      by : (d : Bool) → AreApart (cond d (part_extents row) [])
      by true = apart
      by false = tt

  each_row : (blocks : ℕ) (row : Part) → All (IsExtentOf blocks) (part_extents row) → All (IsExtentOf blocks) (due_row_extents row)
  each_row blocks row each = by (is_due_row row)
    where
      by : (d : Bool) → All (IsExtentOf blocks) (cond d (part_extents row) [])
      by true = each
      by false = All-nil (IsExtentOf blocks)

  -- ---- all rows

  in_all : (rows : List Part) (b : ℕ) → IsInAny (due_extents rows) b → IsInAny (extents_of_all rows) b
  in_all [] b none = none
  in_all (row ∷ rows) b there = ⊎_elim
      (λ (here : IsInAny (due_row_extents row) b). in_left (part_extents row) (extents_of_all rows) b (in_due row b here).1)
      (λ (later : IsInAny (due_extents rows) b). in_right (part_extents row) (extents_of_all rows) b (in_all rows b later))
      (in_either (due_row_extents row) (due_extents rows) b there)

  pub apart_due : (rows : List Part) → AreApart (extents_of_all rows) → AreApart (due_extents rows)
  apart_due [] apart = tt
  apart_due (row ∷ rows) apart = apart_append (due_row_extents row) (due_extents rows)
      (apart_row row (apart_left (part_extents row) (extents_of_all rows) apart))
      (apart_due rows (apart_right (part_extents row) (extents_of_all rows) apart))
      (λ b here there. apart_between (part_extents row) (extents_of_all rows) apart b (in_due row b here).1 (in_all rows b there))

  pub each_due : (blocks : ℕ) (rows : List Part) → All (IsInRange blocks) rows → All (IsExtentOf blocks) (due_extents rows)
  each_due blocks [] each = All-nil (IsExtentOf blocks)
  each_due blocks (row ∷ rows) each = All-append (IsExtentOf blocks) (due_row_extents row) (due_extents rows)
      (each_row blocks row (within_held blocks row.len (part_value row).extents (All-head (IsInRange blocks) row rows each)))
      (each_due blocks rows (All-tail (IsInRange blocks) row rows each))

  -- the place of a row that is due, and names the block
  record IsDueRow (rows : List Part) (b : ℕ) : Type 0 where
    place : ℕ
    within : place < length rows
    due : (d : Part) → is_due_row (get_or rows place d) ≡ true
    names : (d : Part) → IsInAny (part_extents (get_or rows place d)) b

  due_row : (rows : List Part) (b : ℕ) → IsInAny (due_extents rows) b → IsDueRow rows b
  due_row [] b none = absurd none
  due_row (row ∷ rows) b there = ⊎_elim
      (λ (here : IsInAny (due_row_extents row) b). record { place = 0; within = omega arith; due = λ d. (in_due row b here).0; names = λ d. (in_due row b here).1 })
      (λ (later : IsInAny (due_extents rows) b). next (due_row rows b later))
      (in_either (due_row_extents row) (due_extents rows) b there)
    where
      next : IsDueRow rows b → IsDueRow (row ∷ rows) b
      next found = let low = found.within in record { place = suc found.place; within = omega arith; due = found.due; names = found.names }

  of_due_row : (rows : List Part) (i : ℕ) (d : Part) (b : ℕ) → i < length rows → is_due_row (get_or rows i d) ≡ true → IsInAny (part_extents (get_or rows i d)) b → IsInAny (due_extents rows) b
  of_due_row [] i d b within due there = absurd (omega arith)
  of_due_row (row ∷ rows) zero d b within due there = in_left (due_row_extents row) (due_extents rows) b (due_in row b due there)
  of_due_row (row ∷ rows) (suc i) d b within due there = in_right (due_row_extents row) (due_extents rows) b (of_due_row rows i d b (omega arith) due there)

  -- ---- their keys

  keys_of_entries : (rows : List Part) → keys_of (filter is_due_entry (row_entries key_of_part part_value rows)) ≡ map key_of_part (filter is_due_row rows)
  keys_of_entries [] = refl
  keys_of_entries (row ∷ rows) = by (is_due_row row) (keys_of_entries rows)
    where
      entries_due : List (PartKey × PartRecord)
      entries_due = filter is_due_entry (row_entries key_of_part part_value rows)

      by : (d : Bool) → keys_of entries_due ≡ map key_of_part (filter is_due_row rows)
          → keys_of (cond d ((key_of_part row, part_value row) ∷ entries_due) entries_due) ≡ map key_of_part (cond d (row ∷ filter is_due_row rows) (filter is_due_row rows))
      by true rest = ap (λ keys. key_of_part row ∷ keys) rest
      by false rest = rest

module _ (today : ℕ) (records : Records) (rows : List Part) (all : records.parts ≡ table_map part_cmp key_of_part part_value rows) (rising : is_rising part_cmp key_of_part rows ≡ true) where
  pub due_rows : (b : ℕ) → IsInAny (due_extents records.holds today rows) b → IsDueBlock today records b
  due_rows b there = by rows (due_row records.holds today rows b there) (has_row records rows all rising)
    where
      by : (ps : List Part) → IsDueRow records.holds today ps b → ((i : ℕ) (d : Part) → i < length ps → get records.parts (key_of_part (get_or ps i d)) ≡ Some (part_value (get_or ps i d))) → IsDueBlock today records b
      by [] found has = let low = found.within in absurd (omega arith)
      by (p ∷ ps) found has =
          let row = get_or (p ∷ ps) found.place p in
          (key_of_part row, part_value row, has found.place p found.within, found.due p, held_naming (part_value row).extents b (found.names p))

  pub rows_due : (b : ℕ) → IsDueBlock today records b → IsInAny (due_extents records.holds today rows) b
  rows_due b due =
      let row = row_of records rows all rising due.0 due.1 due.2 in
      of_due_row records.holds today rows row.place row.row b row.within
      (ap (is_due_row records.holds today) (row.at row.row) ∙ (λ i. is_due records.holds today (row.key_is i) (row.value_is i)) ∙ due.3)
      (row_named records rows all rising due.0 due.1 b row due.4 row.row)

  -- the keys of the rows that are due
  pub keys_of_rows : map key_of_part (filter (is_due_row records.holds today) rows) ≡ due_keys today records
  keys_of_rows =
      sym (keys_of_entries records.holds today rows)
      ∙ ap (λ (es : List (PartKey × PartRecord)). keys_of (filter (is_due_entry records.holds today) es)) (sym (ap entries all ∙ entries-table_map part_cmp key_of_part part_value rows rising))
