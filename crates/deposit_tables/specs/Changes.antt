-- What takes the tables of a registry to later ones (RFC 8909, section 2: a deposit that is not full has what is new or changed, and what is gone).
use Rattle.std.specs.Prelude.{◌≢◌, ℕ, List, [], ◌∷◌, ◌++◌, All, IsTrue, map}
use Rattle.deposit_name.specs.Tables.{has_deletes}
use Rattle.deposit_name.specs.declared.table.TableName.{TableName}
use Rattle.deposit_verify.specs.Rows.{rows_under}
use Rattle.deposit_verify.specs.declared.base.Base.{Base}
use Rattle.deposit_pack.specs.Packable.{IsPackable}
use Rattle.deposit_pack.specs.Packing.{Objects, contents_rows, packed, packed_entry, rows_of}
use Rattle.deposit_pack.specs.declared.source.Attributes.{Attributes}
use Rattle.deposit_tables.specs.Restored.{AreRows, HasRowsOf}
use Rattle.deposit_tables.specs.Unchanged.{IsAmong, IsChangedRow, IsGoneKey}

-- the deleted keys of a table, each a row of one field
abbrev pub deletes_rows : Objects → TableName → List (List (List ℕ))
deletes_rows o name = rows_under (map packed_entry o.deletes) (rows_of o.deletes) name

-- each new or changed object with all its rows, and the key of each that is gone, in ascending order
pub record AreChanges (olds : List (TableName → List (List (List ℕ)))) (new : TableName → List (List (List ℕ))) (o : Objects) : Type 0 where
  pub contents : (name : TableName) → AreRows (IsChangedRow olds new name) (contents_rows o name)
  pub deletes : (name : TableName) → IsTrue (has_deletes name) → AreRows (IsGoneKey olds new name) (deletes_rows o name)

-- and no table of them is without a row
pub record AreSomeChanges (olds : List (TableName → List (List (List ℕ)))) (new : TableName → List (List (List ℕ))) (o : Objects) : Type 0 where
  pub changes : AreChanges olds new o
  pub some : All (λ f. f.rows ≢ []) (o.contents ++ o.deletes)

-- A deposit of the changes since some tables brings each chain with one of these to the new ones. (An incremental deposit has two: those of the full deposit, and those before it.)
abbrev pub AreChangesRestored : Type 0
AreChangesRestored = (chain : List (List ℕ)) (olds : List (TableName → List (List (List ℕ)))) (old new : TableName → List (List (List ℕ))) (a : Attributes) (o : Objects) (before : Base)
    → HasRowsOf chain old → IsAmong old olds → AreChanges olds new o → IsPackable a o before → HasRowsOf (chain ++ packed a o before ∷ []) new
