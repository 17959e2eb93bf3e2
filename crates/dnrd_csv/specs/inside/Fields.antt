-- Rows as one list of fields.
use Rattle.std.specs.Prelude.{◌≡◌, ◌≤◌, ℕ, List, All, flat_map}
use Rattle.dnrd_csv.specs.Table.{HaveWidth}
use Rattle.dnrd_csv.specs.Text.{IsRow}

-- these rows of so many fields each stand one after another in the fields
pub record AreRowsOf (width : ℕ) (fields : List (List ℕ)) (rows : List (List (List ℕ))) : Type 0 where
  pub some : 1 ≤ width
  pub in_form : All IsRow rows
  pub width_right : HaveWidth width rows
  pub fields_right : flat_map (λ row. row) rows ≡ fields
