-- What a writer holds after the lines of an audit.
use Rattle.std.proofs.Common.{◌≡◌, ◌∙◌, ℕ, ◌+◌, List, [], ◌∷◌, Option, Some, None, Bool, true, cond, Vec, Global, refl, map, sym, ap}
use Rattle.std.specs.Prelude.{count_by, is_some, option_map}
use Rattle.std.specs.List.{fold}
use Rattle.std.specs.FinMap.{entries}
use Rattle.deposit_name.specs.Name.{Name}
use Rattle.extent_map.specs.declared.extent.Extent.{Extent}
use Rattle.custody_records.specs.declared.parts.Part.{Part}
use Rattle.custody_records.specs.Keys.{PartKey, part_cmp}
use Rattle.custody_records.specs.Records.{PartRecord, Records}
use Rattle.custody_records.specs.Tables.{row_entries, is_rising, table_map}
use Rattle.custody_records.specs.TypedRecords.{key_of_part, part_value}
use Rattle.custody_records.proofs.TableLemmas.{entries-table_map}
use Rattle.answer_lines.specs.Auditing.{count_held_parts}
use Rattle.answer_lines.specs.Lines.{line_text}
use Rattle.answer_lines.specs.Printing.{as_line}
use Rattle.answer_lines.specs.State.{lines_text}
use Rattle.answer_lines.specs.declared.lines.Line.TheVariants.{Damaged}
use Rattle.answer_lines.proofs.PrintLemmas.{IsTextOf}

-- a line of each name
pub are_damaged : IsTextOf (λ (names : List Name). lines_text (map Damaged names)) (λ name. as_line (line_text (Damaged name)))
are_damaged = record { none = refl; more = λ name names. refl }

-- ---- the parts that are held, by the rows of their table

pub is_held : (row : Part) → is_some (part_value row).extents ≡ is_some row.extents
is_held row = by row.extents
  where
    by : (o : Option (Vec Extent Global)) → is_some (option_map (λ (v : Vec Extent Global). v.items) o) ≡ is_some o
    by None = refl
    by (Some extents) = refl

-- entries are counted as the rows are that they stand for
pub count_rows : (of_entry : PartKey × PartRecord → Bool) (of_row : Part → Bool) → ((row : Part) → of_entry (key_of_part row, part_value row) ≡ of_row row) → (n : ℕ) (rows : List Part)
    → fold (λ k (e : PartKey × PartRecord). k + cond (of_entry e) 1 0) n (row_entries key_of_part part_value rows) ≡ fold (λ k (row : Part). k + cond (of_row row) 1 0) n rows
count_rows of_entry of_row same n [] = refl
count_rows of_entry of_row same n (row ∷ rows) =
    ap (λ (b : Bool). fold (λ k (e : PartKey × PartRecord). k + cond (of_entry e) 1 0) (n + cond b 1 0) (row_entries key_of_part part_value rows)) (same row)
    ∙ count_rows of_entry of_row same (n + cond (of_row row) 1 0) rows

pub held_rows : (records : Records) (rows : List Part) → records.parts ≡ table_map part_cmp key_of_part part_value rows → is_rising part_cmp key_of_part rows ≡ true
    → count_by (λ (row : Part). is_some row.extents) rows ≡ count_held_parts records
held_rows records rows all rising =
    sym (count_rows (λ e. is_some e.1.extents) (λ row. is_some row.extents) is_held 0 rows)
    ∙ ap (count_by (λ (e : PartKey × PartRecord). is_some e.1.extents)) (sym (ap entries all ∙ entries-table_map part_cmp key_of_part part_value rows rising))
