-- The rows of a table as a function of its file's bytes (RFC 4180, section 2; the CSV model of RFC 9022). Only its law is used: `IsTableReader`, which says it by `IsTable`.
use Rattle.std.specs.Prelude.{◌≡◌, ◌↔◌, ◌&&◌, not, ℕ, Bool, true, false, List, [], ◌∷◌, Option, Some, None, if◌then◌else◌, map, nat_eq, take}
use Rattle.std.specs.Cmp.Lexicographic.{pointwise}
use Rattle.std.specs.List.{list_all, starts_with}
use Rattle.std.specs.Str.{bytes_eq, is_utf8}
use Rattle.csv.specs.Reading.{default_config, records}
use Rattle.dnrd_csv.specs.declared.form.Form.{Form}
use Rattle.dnrd_csv.specs.FormTests.{has_form}
use Rattle.dnrd_csv.specs.Table.{IsTable}
use Rattle.dnrd_csv.specs.Text.{byte_order_mark, table_text}

-- a row has a field, and is not one empty field
abbrev pub is_row : List (List ℕ) → Bool
is_row [] = false
is_row ([] ∷ []) = false
is_row ((byte ∷ field) ∷ []) = true
is_row (field ∷ next ∷ fields) = true

-- the bytes are the text of these rows
abbrev pub is_text_of : List ℕ → List (List (List ℕ)) → Bool
is_text_of bytes rows = list_all is_row rows && (not (starts_with nat_eq bytes byte_order_mark) && bytes_eq bytes (table_text rows))

-- each row has a field for each column, in its form
abbrev pub have_forms : List Form → List (List (List ℕ)) → Bool
have_forms columns rows = list_all (λ row. pointwise has_form columns row) rows

-- no two keys are the same
abbrev pub are_distinct : List (List (List ℕ)) → Bool
are_distinct [] = true
are_distinct (key ∷ keys) = list_all (λ other. not (pointwise bytes_eq key other)) keys && are_distinct keys

-- the bytes are the text of these rows of these columns, of which the first ones are the key
abbrev pub is_table : List Form → ℕ → List ℕ → List (List (List ℕ)) → Bool
is_table columns key bytes rows =
    is_utf8 bytes && (is_text_of bytes rows && (have_forms columns rows && are_distinct (map (take key) rows)))

-- the rows of these columns whose text the bytes are: those that a reader of CSV finds, where they are a table
unfoldable pub table_at : List Form → ℕ → List ℕ → Option (List (List (List ℕ)))
table_at columns key bytes =
    if is_table columns key bytes (records default_config bytes) then Some (records default_config bytes) else None

-- A table is read from its one text, and none from other bytes.
pub record IsTableReader : Type 0 where
  pub some : (columns : List Form) (key : ℕ) (bytes : List ℕ) (rows : List (List (List ℕ))) → (table_at columns key bytes ≡ Some rows) ↔ IsTable columns key bytes rows
  pub none : (columns : List Form) (key : ℕ) (bytes : List ℕ) → (table_at columns key bytes ≡ None) ↔ ((rows : List (List (List ℕ))) → ¬ IsTable columns key bytes rows)
