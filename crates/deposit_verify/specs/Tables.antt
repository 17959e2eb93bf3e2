-- Tables as they were read.
use Rattle.std.specs.Prelude.{◌≡◌, ◌≢◌, ◌<◌, ℕ, List, [], All, AllPairs, IsTrue, Option, Some, None, length, slice_index_or}
use Rattle.std.specs.List.{AllZip}
use Rattle.deposit_name.specs.declared.table.TableName.{TableName}
use Rattle.deposit_name.specs.Tables.{has_deletes}
use Rattle.dnrd_csv.specs.Table.{HaveWidth, columns_of}
use Rattle.dnrd_csv.specs.Text.{key_rows}
use Rattle.envelope.specs.declared.envelope.Count.{Count}
use Rattle.envelope.specs.declared.envelope.FileEntry.{FileEntry}
use Rattle.deposit_name.specs.declared.kinds.Kind.TheVariants.{Full}
use Rattle.desk.specs.declared.checks.Check.{Check}
use Rattle.desk.specs.declared.checks.Check.TheVariants as check
use Rattle.envelope.specs.Envelope.{Env}
use Rattle.deposit_verify.specs.Checks.{AreRowCounts}
use Rattle.deposit_verify.specs.Places.{table_place}
use Rattle.deposit_verify.specs.References.{AreReferencesKept, column}
use Rattle.deposit_verify.specs.Deposit.{AreFiles, IsKeyFileOf, IsKeyFile, IsTableOf, contents_files, deletes_files, deletes_of, all_entries}
use Rattle.deposit_verify.specs.Rows.{rows_under}

-- the tables that the files were read as
pub record AreReadAs (entries : List FileEntry) (files : List (List ℕ)) (tables : List (List (List (List ℕ)))) : Type 0 where
  pub count : length tables ≡ length entries
  pub each : (i : ℕ) (e : FileEntry) → i < length entries → IsTableOf (slice_index_or entries i e).name (slice_index_or files i []) (slice_index_or tables i [])

-- a file that is no table under the name of its entry
abbrev pub HasNoTable : List FileEntry → List (List ℕ) → Type 0
HasNoTable entries files =
    (i : ℕ) × (i < length entries) × ((e : FileEntry) (rows : List (List (List ℕ))) → ¬ IsTableOf (slice_index_or entries i e).name (slice_index_or files i []) rows)

-- the keys that the files were read as
pub record AreKeysReadAs (entries : List FileEntry) (files : List (List ℕ)) (keys : List (List (List ℕ))) : Type 0 where
  pub count : length keys ≡ length entries
  pub each : (i : ℕ) (e : FileEntry) → i < length entries → IsKeyFileOf (slice_index_or entries i e).name (slice_index_or files i []) (key_rows (slice_index_or keys i []))

-- what was read of the bytes behind an envelope: the tables of contents, and the deleted keys
pub record AreReadFrom (v : Env) (rest : List ℕ) (tables : List (List (List (List ℕ)))) (deleted : List (List (List ℕ))) : Type 0 where
  pub files : List (List ℕ)
  pub are : AreFiles (all_entries v) rest files
  pub tables_read : AreReadAs v.contents (contents_files v files) tables
  pub deleted_read : AreKeysReadAs (deletes_of v) (deletes_files v files) deleted

-- what was not read of them
abbrev pub IsUnread : Env → List ℕ → Check → Type 0
IsUnread v rest check.Files = (files : List (List ℕ)) → ¬ AreFiles (all_entries v) rest files
IsUnread v rest check.Table = (files : List (List ℕ)) × AreFiles (all_entries v) rest files × HasNoTable v.contents (contents_files v files)
IsUnread v rest check.Deletes =
    (files : List (List ℕ)) × AreFiles (all_entries v) rest files × (tables : List (List (List (List ℕ)))) × AreReadAs v.contents (contents_files v files) tables
    × ¬ AllZip IsKeyFile (deletes_of v) (deletes_files v files)
IsUnread v rest c = ⊥

-- tables and deleted keys whose keys can be counted
pub record AreCountable (v : Env) (tables : List (List (List (List ℕ)))) (deleted : List (List (List ℕ))) : Type 0 where
  pub tables_count : length tables ≡ length v.contents
  pub deleted_count : length deleted ≡ length (deletes_of v)
  pub fields : All (λ rows. All (λ row. 0 < length row) rows) tables
  pub once : (name : TableName) → IsTrue (has_deletes name) → AllPairs (λ one other. one ≢ other) (column 0 (rows_under v.contents tables name))

-- of all eight tables, the one under a name
abbrev pub table_of : List (List (List (List ℕ))) → TableName → List (List (List ℕ))
table_of tables name = slice_index_or tables (table_place name) []

-- eight tables, in the order of a deposit, each with its columns
pub record AreAllTables (tables : List (List (List (List ℕ)))) : Type 0 where
  pub eight : length tables ≡ 8
  pub columns_right : (name : TableName) → HaveWidth (length (columns_of name)) (table_of tables name)

-- of the checks of counts and references, the first that fails of a full deposit with these counts and tables, if one does
abbrev pub FullSays : List Count → List (List (List (List ℕ))) → Option Check → Type 0
FullSays counts tables None = AreRowCounts counts (table_of tables) × AreReferencesKept (table_of tables)
FullSays counts tables (Some check.Counts) = ¬ AreRowCounts counts (table_of tables)
FullSays counts tables (Some check.References) = AreRowCounts counts (table_of tables) × (¬ AreReferencesKept (table_of tables))
FullSays counts tables (Some c) = ⊥

-- the same of any deposit
abbrev pub TablesSay : Env → List (List (List (List ℕ))) → Option Check → Type 0
TablesSay v tables None = v.kind ≡ Full → FullSays v.count tables None
TablesSay v tables (Some c) = (v.kind ≡ Full) × FullSays v.count tables (Some c)
