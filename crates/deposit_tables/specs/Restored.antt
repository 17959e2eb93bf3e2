-- The tables after a chain of deposits: a full one, and later ones that are not full (RFC 8909, section 2; cascade replace and cascade delete of RFC 9022).
use Rattle.std.specs.Prelude.{◌≡◌, ◌↔◌, ◌⊎◌, ℕ, List, [], ◌∷◌, ◌++◌, All, AllPairs, Contains, IsTrue, length}
use Rattle.std.specs.Cmp.Lexicographic.{slice_cmp}
use Rattle.std.specs.Ordering.{nat_cmp}
use Rattle.std.specs.declared.cmp.Ordering.{Ordering}
use Rattle.std.specs.declared.cmp.Ordering.TheVariants.{Less}
use Rattle.deposit_name.specs.Tables.{has_deletes}
use Rattle.deposit_name.specs.declared.table.TableName.{TableName}
use Rattle.dnrd_csv.specs.Text.{table_text}
use Rattle.envelope.specs.declared.envelope.FileEntry.{FileEntry}
use Rattle.deposit_verify.specs.Chain.{DepositContains, DepositNames, IsChain, IsKeyOf}
use Rattle.deposit_verify.specs.Deposit.{HasEnvelope, HasFiles, IsTableOf, contents_files}
use Rattle.deposit_verify.specs.Keys.{AnyZip, IsNumberOf}
use Rattle.deposit_verify.specs.References.{column}
use Rattle.deposit_tables.specs.Owners.{owner_key, owner_table}

-- ---- what a deposit says of a row

-- the file is of this table, and has the row
abbrev pub HasRow : TableName → List (List ℕ) → FileEntry → List ℕ → Type 0
HasRow name row entry file = (entry.name ≡ name) × (rows : List (List (List ℕ))) × IsTableOf entry.name file rows × Contains rows row

-- the deposit has the row in its table of contents
abbrev pub DepositHasRow : List ℕ → TableName → List (List ℕ) → Type 0
DepositHasRow joined name row = HasEnvelope joined (λ v rest. HasFiles v rest (λ files. AnyZip (HasRow name row) v.contents (contents_files v files)))

-- the deposit tells anew which rows of a table an object has: it has rows of it there, or it names the object itself
abbrev pub DepositRenews : List ℕ → TableName → List ℕ → Type 0
DepositRenews joined name key = DepositContains joined name key ⊎ DepositNames joined (owner_table name) key

-- a row of the chain: some deposit of it has the row, and none after that one renews its object's rows of the table
abbrev pub IsRowAfter : List (List ℕ) → TableName → List (List ℕ) → Type 0
IsRowAfter chain name row =
    (before : List (List ℕ)) × (last : List ℕ) × (after : List (List ℕ)) × (chain ≡ before ++ last ∷ after) × DepositHasRow last name row
    × All (λ joined. ¬ DepositRenews joined name (owner_key row)) after

-- ---- the tables

-- the order of rows: field by field, each by its bytes
abbrev pub row_cmp : List (List ℕ) → List (List ℕ) → Ordering
row_cmp = slice_cmp (slice_cmp nat_cmp)

-- each row is below those after it
abbrev pub RowsAscend : List (List (List ℕ)) → Type 0
RowsAscend rows = AllPairs (λ one other. row_cmp one other ≡ Less) rows

-- these are the rows of which this holds, each once, in ascending order of their fields' bytes
pub record AreRows (P : List (List ℕ) → Type 0) (rows : List (List (List ℕ))) : Type 0 where
  pub ascend : RowsAscend rows
  pub same : (row : List (List ℕ)) → Contains rows row ↔ P row

-- they have the rows of the chain, in any order
abbrev pub HasRowsOf : List (List ℕ) → (TableName → List (List (List ℕ))) → Type 0
HasRowsOf chain tables = (name : TableName) (row : List (List ℕ)) → Contains (tables name) row ↔ IsRowAfter chain name row

-- these are the tables after the chain
pub record AreTablesOf (chain : List (List ℕ)) (tables : TableName → List (List (List ℕ))) : Type 0 where
  pub chained : IsChain chain
  pub rows : (name : TableName) → AreRows (IsRowAfter chain name) (tables name)

-- ---- the laws

-- The rows of a chain of one deposit are those that it has. Those after one deposit more are those that it has, and those before it that it does not renew.
pub record AreChainRows : Type 0 where
  pub one : (joined : List ℕ) (name : TableName) (row : List (List ℕ)) → IsRowAfter (joined ∷ []) name row ↔ DepositHasRow joined name row
  pub more : (chain : List (List ℕ)) (joined : List ℕ) (name : TableName) (row : List (List ℕ))
      → IsRowAfter (chain ++ joined ∷ []) name row ↔ (DepositHasRow joined name row ⊎ (IsRowAfter chain name row × ¬ DepositRenews joined name (owner_key row)))
  -- the objects that have rows in their own table are those whose keys the chain has
  pub keys : (chain : List (List ℕ)) (name : TableName) (key : List ℕ) → IsTrue (has_deletes name)
      → IsKeyOf chain name key ↔ ((row : List (List ℕ)) × IsRowAfter chain name row × (owner_key row ≡ key))

-- A chain has one list of rows for each table; they are a table in form, in which no two rows have one key; and there are as many domains, hosts, contacts and registrars as keys.
pub record AreRestored : Type 0 where
  pub only : (chain : List (List ℕ)) (tables others : TableName → List (List (List ℕ))) → AreTablesOf chain tables → AreTablesOf chain others → (name : TableName) → tables name ≡ others name
  pub in_form : (chain : List (List ℕ)) (tables : TableName → List (List (List ℕ))) → AreTablesOf chain tables → (name : TableName) → IsTableOf name (table_text (tables name)) (tables name)
  pub keys : (chain : List (List ℕ)) (tables : TableName → List (List (List ℕ))) → AreTablesOf chain tables → (name : TableName) → IsTrue (has_deletes name)
      → (key : List ℕ) → Contains (column 0 (tables name)) key ↔ IsKeyOf chain name key
  pub numbers : (chain : List (List ℕ)) (tables : TableName → List (List (List ℕ))) → AreTablesOf chain tables → (name : TableName) → IsTrue (has_deletes name)
      → IsNumberOf (IsKeyOf chain name) (length (tables name))
