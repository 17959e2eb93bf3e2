-- The tables after a chain as functions of what is read of each deposit. Only their law is used: `AreTablesAfter`, which says them by `HasRowsOf`.
use Rattle.std.specs.Prelude.{◌≡◌, Bool, ℕ, List, [], ◌∷◌, ◌++◌, Some, filter, not}
use Rattle.std.specs.Set.{is_member}
use Rattle.std.specs.Str.{bytes_eq}
use Rattle.deposit_name.specs.declared.table.TableName.{TableName}
use Rattle.deposit_verify.specs.Bases.{DepositReading, reading_at}
use Rattle.deposit_verify.specs.Deposit.{deletes_of}
use Rattle.deposit_verify.specs.References.{column}
use Rattle.deposit_verify.specs.Rows.{rows_under}
use Rattle.deposit_tables.specs.Owners.{owner_key, owner_table}
use Rattle.deposit_tables.specs.Restored.{HasRowsOf}

-- a row is of none of these objects
abbrev pub is_kept : List (List ℕ) → List (List ℕ) → Bool
is_kept renewed row = not (is_member bytes_eq renewed (owner_key row))

-- the rows from before whose objects are not renewed, and those that the deposit has
abbrev pub rows_after : List (List (List ℕ)) → List (List (List ℕ)) → List (List ℕ) → List (List (List ℕ))
rows_after before contained renewed = filter (is_kept renewed) before ++ contained

-- the rows of a table that a deposit has
abbrev pub deposit_rows : DepositReading → TableName → List (List (List ℕ))
deposit_rows r name = rows_under r.envelope.contents r.tables name

-- the objects whose rows of a table it renews
abbrev pub renewed_by : DepositReading → TableName → List (List ℕ)
renewed_by r name = column 0 (deposit_rows r name) ++ (column 0 (deposit_rows r (owner_table name)) ++ column 0 (rows_under (deletes_of r.envelope) r.deleted (owner_table name)))

-- the tables after it
abbrev pub tables_after : (TableName → List (List (List ℕ))) → DepositReading → TableName → List (List (List ℕ))
tables_after before r name = rows_after (before name) (deposit_rows r name) (renewed_by r name)

-- They have the rows of the chain.
pub record AreTablesAfter : Type 0 where
  pub first : (joined : List ℕ) (r : DepositReading) → reading_at joined ≡ Some r → HasRowsOf (joined ∷ []) (deposit_rows r)
  pub later : (chain : List (List ℕ)) (joined : List ℕ) (r : DepositReading) (before : TableName → List (List (List ℕ))) → reading_at joined ≡ Some r → HasRowsOf chain before
      → HasRowsOf (chain ++ joined ∷ []) (tables_after before r)
