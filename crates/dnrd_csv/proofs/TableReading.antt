-- The table that is read of bytes is the one whose text they are.
use Rattle.std.specs.Prelude.{◌↔◌}
use Rattle.std.proofs.Common.{◌≡◌, ◌≤◌, ◌+◌, ◌∷◌, ◌∙◌, [], ℕ, zero, suc, List, Option, Some, None, ap, arith, cond, length, length-append, map, refl, subst}
use Rattle.std.specs.List.{AllByRecursion, join_with_byte}
use Rattle.std.proofs.lemmas.List.Elements.{recursion_from_All}
use Rattle.std.proofs.lemmas.Option.{cond_some}
use Rattle.csv.specs.Machine.{next_record}
use Rattle.csv.specs.Reading.{default_config, records, records_from, records_next}
use Rattle.csv.specs.declared.parser.State.TheVariants as st
use Rattle.dnrd_csv.specs.declared.form.Form.{Form}
use Rattle.dnrd_csv.specs.Readers.{IsTableReader, is_table, table_at}
use Rattle.dnrd_csv.specs.Table.{IsTable}
use Rattle.dnrd_csv.specs.Text.{IsRow, IsTextOf, field_text, row_text, table_text}
use Rattle.dnrd_csv.proofs.Decided.{table_decides}
use Rattle.dnrd_csv.proofs.SpellingLemmas.{reads_row}

-- so many records at least hold all rows
records_are : (most : ℕ) (rows : List (List (List ℕ))) → length rows ≤ most → AllByRecursion IsRow rows → records_from default_config most st.StartRecord (table_text rows) ≡ rows
unfolding records_from next_record
records_are zero [] few each = refl
records_are zero (row ∷ rows) few each = absurd (omega (arith, few))
records_are (suc most) [] few each = refl
records_are (suc most) (row ∷ rows) few each =
    ap (records_next (records_from default_config most)) (reads_row row (table_text rows) each.0)
    ∙ ap (λ (t : List (List (List ℕ))). row ∷ t) (records_are most rows (omega (arith, few)) each.1)

-- each row has a byte at least
rows_few : (rows : List (List (List ℕ))) → length rows ≤ length (table_text rows)
rows_few [] = omega arith
rows_few (row ∷ rows) = omega (arith, length-append (row_text row) (table_text rows), length-append (join_with_byte 44 (map field_text row)) (10 ∷ []), rows_few rows)

found_rows : (bytes : List ℕ) (rows : List (List (List ℕ))) → IsTextOf bytes rows → records default_config bytes ≡ rows
found_rows bytes rows is =
    ap (records default_config) is.text
    ∙ records_are (length (table_text rows) + 1) rows (omega (arith, rows_few rows)) (recursion_from_All IsRow rows is.rows_in_form)

some_is : (columns : List Form) (key : ℕ) (bytes : List ℕ) (rows : List (List (List ℕ))) → (table_at columns key bytes ≡ Some rows) ↔ IsTable columns key bytes rows
unfolding table_at
some_is columns key bytes rows = (
  λ e.
      let found = cond_some _ _ _ e in
      subst (IsTable columns key bytes) found.1 ((table_decides columns key bytes (records default_config bytes)).0 found.0),
  λ is.
      let same = found_rows bytes rows is.text in
      ap (λ r. cond (is_table columns key bytes r) (Some r) None) same
      ∙ ap (λ b. cond b (Some rows) None) ((table_decides columns key bytes rows).1 is),
)

-- what reads something where a fact holds reads nothing just where it never holds
none_is : {X : Type 0} (read : Option X) (P : X → Type 0) → ((x : X) → (read ≡ Some x) ↔ P x) → (read ≡ None) ↔ ((x : X) → ¬ P x)
none_is None P some = (λ _ x h. let found = (some x).1 h in cc found, λ _. refl)
none_is (Some y) P some = (λ e. cc e, λ none. absurd (none y ((some y).0 refl)))

pub is_table_reader : IsTableReader
is_table_reader = record {
  some = some_is;
  none = λ columns key bytes. none_is (table_at columns key bytes) (IsTable columns key bytes) (some_is columns key bytes);
}
