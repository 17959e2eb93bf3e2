-- Rows of one width, kept as one list of fields.
use Rattle.std.specs.Prelude.{◌≡◌, ◌*◌, ◌<◌, ◌^◌, ℕ, zero, suc, List, [], ◌∷◌, All, length, take, drop}
use Rattle.csv.specs.Records.{fields_of}
use Rattle.dnrd_csv.specs.Text.{IsRow}
use Rattle.dnrd_csv.specs.declared.rows.Rows.TheInside.{Inside}

-- so many rows of so many fields each
unfoldable pub rows_from : ℕ → ℕ → List (List ℕ) → List (List (List ℕ))
rows_from width zero fields = []
rows_from width (suc count) fields = take width fields ∷ rows_from width count (drop width fields)

-- the rows that are kept
abbrev pub inside_rows : Inside → List (List (List ℕ))
inside_rows a = rows_from a.width a.count (fields_of a.fields)

-- the fields are those of the rows, which have a text
pub record HasInsideRows (a : Inside) : Type 0 where
  pub fits : length (fields_of a.fields) ≡ a.count * a.width
  pub small : a.count * a.width < 2 ^ 64
  pub in_form : All IsRow (inside_rows a)
