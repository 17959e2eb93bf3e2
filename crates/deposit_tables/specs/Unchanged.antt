-- Which objects of a registry are as before.
use Rattle.std.specs.Prelude.{◌≡◌, ◌↔◌, ◌⊎◌, ⊤, ℕ, List, [], ◌∷◌, Contains}
use Rattle.deposit_name.specs.declared.table.TableName.{TableName}
use Rattle.deposit_verify.specs.References.{column}
use Rattle.deposit_tables.specs.Owners.{owner_key, owner_table}

-- an object has the same rows in two tables
abbrev pub HasSameRows : List (List (List ℕ)) → List (List (List ℕ)) → List ℕ → Type 0
HasSameRows old new key = (row : List (List ℕ)) → owner_key row ≡ key → Contains old row ↔ Contains new row

-- it has them in its own table, and in each that has rows of such objects
abbrev pub IsSame : (TableName → List (List (List ℕ))) → (TableName → List (List (List ℕ))) → TableName → List ℕ → Type 0
IsSame old new owner key = (name : TableName) → owner_table name ≡ owner → HasSameRows (old name) (new name) key

-- it is the same as in each of some earlier tables
abbrev pub IsUnchanged : List (TableName → List (List (List ℕ))) → (TableName → List (List (List ℕ))) → TableName → List ℕ → Type 0
IsUnchanged [] new owner key = ⊤
IsUnchanged (old ∷ olds) new owner key = IsSame old new owner key × IsUnchanged olds new owner key

abbrev pub IsAmong : (TableName → List (List (List ℕ))) → List (TableName → List (List (List ℕ))) → Type 0
IsAmong one [] = ⊥
IsAmong one (old ∷ olds) = (one ≡ old) ⊎ IsAmong one olds

-- a row of an object that is new or changed
abbrev pub IsChangedRow : List (TableName → List (List (List ℕ))) → (TableName → List (List (List ℕ))) → TableName → List (List ℕ) → Type 0
IsChangedRow olds new name row = Contains (new name) row × ¬ IsUnchanged olds new (owner_table name) (owner_key row)

-- the key, as a row, of an object that is gone
abbrev pub IsGoneKey : List (TableName → List (List (List ℕ))) → (TableName → List (List (List ℕ))) → TableName → List (List ℕ) → Type 0
IsGoneKey olds new owner row = (key : List ℕ) × (row ≡ key ∷ []) × (¬ IsUnchanged olds new owner key) × (¬ Contains (column 0 (new owner)) key)
