-- Packing what has changed, for private clauses.
use Rattle.std.specs.Prelude.{◌≡◌, ℕ, [], IsTrue, List, Some, false, length, map}
use Rattle.dnrd_csv.specs.AnySpelling.{rows_below_header}
use Rattle.dnrd_csv.specs.Text.{key_rows, table_text}
use Rattle.deposit_name.specs.Tables.{has_deletes}
use Rattle.deposit_name.specs.declared.table.TableName.{TableName}
use Rattle.deposit_verify.specs.Deposit.{IsKeyFileOf, IsTableOf}
use Rattle.deposit_verify.specs.Rows.{rows_under}
use Rattle.deposit_verify.specs.Tables.{table_of}
use Rattle.deposit_verify.specs.declared.base.Base.{Base}
use Rattle.deposit_pack.specs.Packable.{IsPackable}
use Rattle.deposit_pack.specs.PackErrors.{IsPackError}
use Rattle.deposit_pack.specs.Packing.{NamedRows, Objects, objects_in, packed, packed_entry, rows_of}
use Rattle.deposit_pack.specs.declared.pack_error.PackError.{PackError}
use Rattle.deposit_pack.specs.declared.source.Attributes.{Attributes}
use Rattle.deposit_pack.specs.declared.source.Source.{Source}
use Rattle.deposit_tables.specs.Changes.{AreSomeChanges}
use Rattle.deposit_tables.specs.declared.changes.Changes.{Changes}
use Rattle.deposit_tables.specs.declared.whole.TableText.{TableText}
use Rattle.deposit_tables.specs.inside.Changing.{keys_of_table}

-- what is read of a file without a header
abbrev pub text_rows : TableText → NamedRows
text_rows t = record { name = t.name; rows = rows_below_header false t.text.items }

-- the rows under a name
abbrev pub named_rows_under : List NamedRows → TableName → List (List (List ℕ))
named_rows_under fs name = rows_under (map packed_entry fs) (rows_of fs) name

-- of each of eight tables, the rows and keys may stand in its files
pub record MayBeWritten (c : Changes) : Type 0 where
  pub eight : length c.contents.items ≡ 8
  pub keys_eight : length c.deletes.items ≡ 8
  pub none : (name : TableName) → has_deletes name ≡ false → keys_of_table c.deletes.items name ≡ []
  pub contents : (name : TableName) → IsTableOf name (table_text (table_of c.contents.items name)) (table_of c.contents.items name)
  pub deletes : (name : TableName) → IsTrue (has_deletes name)
      → IsKeyFileOf name (table_text (key_rows (keys_of_table c.deletes.items name))) (key_rows (keys_of_table c.deletes.items name))

-- the bytes are their deposit
abbrev pub ArePackedChanges : List (TableName → List (List (List ℕ))) → (TableName → List (List (List ℕ))) → Attributes → Base → List ℕ → Type 0
ArePackedChanges olds new a before bytes = (o : Objects) × AreSomeChanges olds new o × IsPackable a o before × (bytes ≡ packed a o before)

-- the error is true of them
abbrev pub IsChangesError : List (TableName → List (List (List ℕ))) → (TableName → List (List (List ℕ))) → Attributes → Base → PackError → Type 0
IsChangesError olds new a before error = (source : Source) × AreSomeChanges olds new (objects_in source) × IsPackError a source (Some before) error
