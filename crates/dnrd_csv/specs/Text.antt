-- The one text of a list of rows (RFC 4180, section 2, with one choice wherever it leaves two).
use Rattle.std.specs.Prelude.{◌≡◌, ◌≢◌, ◌==◌, ◌||◌, ℕ, Bool, false, List, [], ◌∷◌, ◌++◌, All, map, flat_map, nat_eq, if◌then◌else◌}
use Rattle.std.specs.List.{join_with_byte, list_any, starts_with}

-- a comma, a quote, a carriage return or a line feed
abbrev pub calls_for_quotes : ℕ → Bool
calls_for_quotes byte = (byte == 44) || (byte == 34) || (byte == 13) || (byte == 10)

-- a field with its quotes doubled
unfoldable pub escaped_field : List ℕ → List ℕ
escaped_field [] = []
escaped_field (byte ∷ rest) = if byte == 34 then 34 ∷ 34 ∷ escaped_field rest else byte ∷ escaped_field rest

-- a field, in quotes exactly if one of its bytes calls for them
abbrev pub field_text : List ℕ → List ℕ
field_text field = if list_any calls_for_quotes field then 34 ∷ (escaped_field field ++ 34 ∷ []) else field

-- the fields joined by commas, then a line feed
abbrev pub row_text : List (List ℕ) → List ℕ
row_text fields = join_with_byte 44 (map field_text fields) ++ 10 ∷ []

-- all rows in order
abbrev pub table_text : List (List (List ℕ)) → List ℕ
table_text rows = flat_map row_text rows

-- a row has a field, and is not one empty field
abbrev pub IsRow : List (List ℕ) → Type 0
IsRow fields = (fields ≢ []) × (fields ≢ [] ∷ [])

-- U+FEFF in UTF-8, the byte order mark
abbrev pub byte_order_mark : List ℕ
byte_order_mark = 0xEF ∷ 0xBB ∷ 0xBF ∷ []

-- the bytes are the text of these rows
pub record IsTextOf (bytes : List ℕ) (rows : List (List (List ℕ))) : Type 0 where
  pub rows_in_form : All IsRow rows
  pub unmarked : starts_with nat_eq bytes byte_order_mark ≡ false
  pub text : bytes ≡ table_text rows

-- the rows of a file of keys
abbrev pub key_rows : List (List ℕ) → List (List (List ℕ))
key_rows keys = map (λ key. key ∷ []) keys
