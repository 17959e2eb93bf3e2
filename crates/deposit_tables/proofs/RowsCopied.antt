-- Rows that are copied as fields.
use Rattle.std.proofs.Common.{◌≡◌, ◌≤◌, ◌∙◌, ℕ, List, ap, arith, length, sym}
use Rattle.std.proofs.lemmas.List.Elements.{All-weaker}
use Rattle.dnrd_csv.specs.Table.{HaveWidth}
use Rattle.dnrd_csv.specs.Text.{IsRow}
use Rattle.dnrd_csv.specs.inside.Fields.{AreRowsOf}
use Rattle.dnrd_csv.proofs.RowLemmas.{flat}
use Rattle.dnrd_csv.proofs.WidthLemmas.{cut_rows}
use Rattle.deposit_tables.proofs.Decisions.{Rows}

-- rows of one width are told by their fields
pub rows_are : (width : ℕ) (fields : List (List ℕ)) (rows others : Rows) → 2 ≤ width → AreRowsOf width fields rows → HaveWidth width others → fields ≡ flat others → rows ≡ others
rows_are width fields rows others two is wide fields_are =
    let some : 1 ≤ width = omega arith in
    sym (cut_rows width rows fields some is.width_right (sym is.fields_right)).1 ∙ (cut_rows width others fields some wide fields_are).1

pub are_rows : (width : ℕ) (fields : List (List ℕ)) (rows : Rows) → 2 ≤ width → HaveWidth width rows → fields ≡ flat rows → AreRowsOf width fields rows
are_rows width fields rows two wide fields_are = record {
  some = omega arith;
  in_form = All-weaker (λ (row : List (List ℕ)). length row ≡ width) IsRow (λ row is. (λ e. let n = ap length e in absurd (omega (arith, is, n, two)), λ e. let n = ap length e in absurd (omega (arith, is, n, two)))) rows wide;
  width_right = wide;
  fields_right = sym fields_are;
}
