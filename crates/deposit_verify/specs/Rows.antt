-- The rows of a table among those that were read, and the keys after a deposit, as functions.
use Rattle.std.specs.Prelude.{◌==◌, ℕ, List, [], ◌∷◌, ◌++◌, filter, if◌then◌else◌, not}
use Rattle.std.specs.Set.{is_member}
use Rattle.std.specs.Str.{bytes_eq}
use Rattle.deposit_name.specs.declared.table.TableName.{TableName}
use Rattle.envelope.specs.declared.envelope.FileEntry.{FileEntry}
use Rattle.deposit_verify.specs.Places.{table_place}

-- the rows under the entry of a table, and none where there is no such entry
abbrev pub rows_under : List FileEntry → List (List (List (List ℕ))) → TableName → List (List (List ℕ))
rows_under [] tables name = []
rows_under (entry ∷ entries) [] name = []
rows_under (entry ∷ entries) (rows ∷ tables) name = if table_place entry.name == table_place name then rows else rows_under entries tables name

-- the keys after a deposit that contains these, and names those: the ones from before that it does not name, and the contained ones
abbrev pub keys_after : List (List ℕ) → List (List ℕ) → List (List ℕ) → List (List ℕ)
keys_after before contained named = filter (λ key. not (is_member bytes_eq named key)) before ++ contained
