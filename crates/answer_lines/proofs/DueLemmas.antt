-- What a writer holds after the lines of days that are due.
use Rattle.std.proofs.Common.{◌≡◌, ◌∙◌, ℕ, zero, suc, ◌<◌, List, [], ◌∷◌, Bool, false, cond, refl, map, sym, ap, arith, append-nil, get_or}
use Rattle.std.specs.Prelude.{◌==◌, ◌&&◌, count_by, is_some}
use Rattle.std.specs.List.{flat_map, range_with_len}
use Rattle.std.proofs.lemmas.List.FromFn.{get_or-range_with_len}
use Rattle.custody_records.specs.declared.parts.Part.{Part}
use Rattle.custody_records.specs.Records.{Records}
use Rattle.custody_records.specs.Tables.{row_entries}
use Rattle.custody_records.specs.TypedRecords.{key_of_part, part_value}
use Rattle.custody_rules.specs.DueDays.{due_day_pair}
use Rattle.custody_rules.specs.declared.days_due.DueDay.{DueDay}
use Rattle.answer_lines.specs.Due.{count_waiting, days_text, due_day_lines, is_held_part_of, waiting_lines_of}
use Rattle.answer_lines.specs.Lines.{line_text}
use Rattle.answer_lines.specs.Printing.{as_line}
use Rattle.answer_lines.specs.State.{lines_text}
use Rattle.answer_lines.specs.declared.lines.Line.{Line}
use Rattle.answer_lines.specs.declared.lines.Line.TheVariants as line
use Rattle.answer_lines.proofs.AuditLemmas.{count_rows, is_held}
use Rattle.answer_lines.proofs.PrintLemmas.{IsTextOf, lines_text-append}

-- the lines of each day
pub are_days : (records : Records) → IsTextOf (λ (days : List DueDay). days_text records (map due_day_pair days)) (λ day. lines_text (due_day_lines records (due_day_pair day)))
are_days records = record { none = refl; more = λ day days. refl }

-- those of each revision
pub are_revisions : (lines_of : ℕ → List Line) → IsTextOf (λ (revs : List ℕ). lines_text (flat_map lines_of revs)) (λ rev. lines_text (lines_of rev))
are_revisions lines_of = record { none = refl; more = λ rev revs. lines_text-append (lines_of rev) (flat_map lines_of revs) }

pub revision_at : (rev : ℕ) → rev < 100 → rev ≡ get_or (range_with_len 0 100) rev rev
revision_at rev lt = omega (arith, get_or-range_with_len 0 100 rev rev lt)

-- ---- the parts of a revision that are held, by the rows of their table

pub held_rows_of : (rev : ℕ) (rows : List Part) → count_by (λ (row : Part). row.name.rev == rev && is_some row.extents) rows ≡ count_by (is_held_part_of rev) (row_entries key_of_part part_value rows)
held_rows_of rev rows = sym (count_rows (is_held_part_of rev) (λ row. row.name.rev == rev && is_some row.extents) (λ row. ap (λ (b : Bool). row.name.rev == rev && b) (is_held row)) 0 rows)

-- ---- the line of a revision, by the count of its held parts

abbrev told : List ℕ × ℕ → ℕ → ℕ → List Line
told day rev count = cond (count == 0) [] (line.Waiting day.0 day.1 rev count ∷ [])

none_told : (day : List ℕ × ℕ) (rev count : ℕ) → count ≡ 0 → told day rev count ≡ []
none_told day rev zero none = refl
none_told day rev (suc n) none = absurd (omega (arith, none))

one_told : (day : List ℕ × ℕ) (rev count : ℕ) → ¬ (count ≡ 0) → told day rev count ≡ line.Waiting day.0 day.1 rev count ∷ []
one_told day rev zero some = absurd (some refl)
one_told day rev (suc n) some = let no : (suc n == 0) ≡ false = grind arith in rw no refl

module _ (parts : List Part) (day : List ℕ × ℕ) (rev count : ℕ) (is : count ≡ count_by (λ (row : Part). row.name.rev == rev && is_some row.extents) parts) where
  counted : count ≡ count_waiting (row_entries key_of_part part_value parts) rev
  counted = is ∙ held_rows_of rev parts

  pub no_lines : count ≡ 0 → waiting_lines_of (row_entries key_of_part part_value parts) day rev ≡ []
  no_lines none = none_told day rev _ (sym counted ∙ none)

  pub one_line : ¬ (count ≡ 0) → lines_text (waiting_lines_of (row_entries key_of_part part_value parts) day rev) ≡ as_line (line_text (line.Waiting day.0 day.1 rev count))
  one_line some =
      ap lines_text (one_told day rev _ (λ none. some (counted ∙ none))) ∙ append-nil _
      ∙ ap (λ (n : ℕ). as_line (line_text (line.Waiting day.0 day.1 rev n))) (sym counted)
