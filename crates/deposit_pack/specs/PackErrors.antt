-- Why objects are not packed (Specification 2, Part A, sections 2 and 7).
use Rattle.std.specs.Prelude.{◌≡◌, ◌≢◌, ◌⊎◌, ◌<◌, ◌≤◌, ◌^◌, ⊤, ℕ, List, [], ◌∷◌, All, Contains, IsTrue, Option, Some, None, false, length, slice_get, take, unwrap_or}
use Rattle.schedule.specs.Schedule.{is_sunday}
use Rattle.deposit_name.specs.Tables.{has_deletes}
use Rattle.deposit_name.specs.declared.kinds.Kind.TheVariants.{Full}
use Rattle.deposit_name.specs.declared.table.TableName.{TableName}
use Rattle.dnrd_csv.specs.AnySpelling.{HasHeader, RefusesTableRows}
use Rattle.dnrd_csv.specs.Table.{column_names_of, columns_of, key_columns_of}
use Rattle.dnrd_csv.specs.declared.errors.TableError.{TableError}
use Rattle.dnrd_csv.specs.declared.errors.TableError.TheVariants.{OutOfMemory}
use Rattle.deposit_verify.specs.Bases.{no_keys}
use Rattle.deposit_verify.specs.Checks.{counted_tables}
use Rattle.deposit_verify.specs.HeaderReasons.{IsMenuReason}
use Rattle.deposit_verify.specs.References.{AreReferencesKept}
use Rattle.deposit_verify.specs.TablesReasons.{IsFirstNoKey}
use Rattle.deposit_verify.specs.declared.base.Base.{Base}
use Rattle.deposit_verify.specs.declared.files_reason.FileList.{FileList}
use Rattle.deposit_verify.specs.declared.files_reason.FileList.TheVariants.{Contents, Deletes as DeletesList}
use Rattle.deposit_verify.specs.declared.files_reason.FilePlace.{FilePlace}
use Rattle.deposit_verify.specs.declared.files_reason.NoTable.{NoTable}
use Rattle.deposit_pack.specs.Packable.{IsPackable, MayFollow}
use Rattle.deposit_pack.specs.Packing.{NamedRows, Objects, contents_rows, deposit_length_max, env_counting, table_names, numbers_of, objects_in, packed}
use Rattle.deposit_pack.specs.declared.pack_error.PackError.{PackError}
use Rattle.deposit_pack.specs.declared.pack_error.PackError.TheVariants.{Sunday, PrevId, Deletes, Header, Table, Menu, Reference, NoBase, Count, Length, Memory}
use Rattle.deposit_pack.specs.declared.source.Attributes.{Attributes}
use Rattle.deposit_pack.specs.declared.source.Source.{Source}
use Rattle.deposit_pack.specs.declared.source.TableFile.{TableFile}

-- the keys before the deposit: none where none are given
abbrev pub base_keys : Option Base → Base
base_keys base = unwrap_or base no_keys

-- ---- the place of a file

abbrev pub files_in : Source → FileList → List TableFile
files_in source Contents = source.contents.now
files_in source DeletesList = source.deletes.now

abbrev pub rows_listed : Objects → FileList → List NamedRows
rows_listed o Contents = o.contents
rows_listed o DeletesList = o.deletes

-- the names of the columns of a file: that of deleted keys has the first
abbrev pub header_of : FileList → TableName → List (List ℕ)
header_of Contents name = column_names_of name
header_of DeletesList name = take 1 (column_names_of name)

-- a file of a list has its header
abbrev pub HasOwnHeader : FileList → TableFile → Type 0
HasOwnHeader list file = HasHeader (header_of list file.name) file.text.now

-- each file has its header, where the files have any
abbrev pub HaveHeaders : Source → Type 0
HaveHeaders source = IsTrue source.has_headers → All (HasOwnHeader Contents) source.contents.now × All (HasOwnHeader DeletesList) source.deletes.now

-- this file has no header
abbrev pub LacksHeader : Source → FilePlace → Type 0
LacksHeader source place =
    (file : TableFile) × (slice_get (files_in source place.list) place.place ≡ Some file) × (file.name ≡ place.name)
    × ¬ HasHeader (header_of place.list place.name) file.text.now

-- the rows are refused by the rules of their list
abbrev pub RefusesRowsOf : FileList → NamedRows → TableError → Type 0
RefusesRowsOf Contents f fault = RefusesTableRows (columns_of f.name) (key_columns_of f.name) f.rows fault
RefusesRowsOf DeletesList f fault = RefusesTableRows (take 1 (columns_of f.name)) 1 f.rows fault

-- the rows of this file have this fault
abbrev pub HasRowsFault : Objects → NoTable → Type 0
HasRowsFault o t =
    (f : NamedRows) × (slice_get (rows_listed o t.file.list) t.file.place ≡ Some f) × (f.name ≡ t.file.name) × RefusesRowsOf t.file.list f t.fault × (t.fault ≢ OutOfMemory)

-- ---- the error

-- there are too many of these objects
abbrev pub IsTooMany : TableName → List ℕ → Type 0
IsTooMany table numbers = (place : ℕ) × (n : ℕ) × (slice_get counted_tables place ≡ Some table) × (slice_get numbers place ≡ Some n) × (2 ^ 32 ≤ n)

-- the error is true of these attributes and objects
abbrev pub IsPackError : Attributes → Source → Option Base → PackError → Type 0
IsPackError a source base (Sunday day) = (day ≡ a.name.day) × IsTrue (is_sunday day) × (a.name.kind ≢ Full)
IsPackError a source base (PrevId kind) = (kind ≡ a.name.kind) × ¬ MayFollow kind a.prev_id
IsPackError a source base (Deletes kind table) = (kind ≡ a.name.kind) × Contains (table_names (objects_in source).deletes) table × (kind ≡ Full ⊎ has_deletes table ≡ false)
IsPackError a source base (Header place) = IsTrue source.has_headers × LacksHeader source place
IsPackError a source base (Table t) = HasRowsFault (objects_in source) t
IsPackError a source base (Menu reason) = IsMenuReason (env_counting a (objects_in source) (0 ∷ 0 ∷ 0 ∷ 0 ∷ [])) reason
IsPackError a source base (Reference missing) =
    (a.name.kind ≡ Full) × IsFirstNoKey (contents_rows (objects_in source)) missing × ¬ AreReferencesKept (contents_rows (objects_in source))
IsPackError a source base NoBase = (a.name.kind ≢ Full) × (base ≡ None)
IsPackError a source base (Count table) = IsTooMany table (numbers_of a.name.kind a (objects_in source) (base_keys base))
IsPackError a source base Length = deposit_length_max < length (packed a (objects_in source) (base_keys base))
IsPackError a source base Memory = ⊤

-- the error is one of reading the files
abbrev pub IsReadingError : PackError → Type 0
IsReadingError (Header place) = ⊤
IsReadingError (Table t) = ⊤
IsReadingError Memory = ⊤
IsReadingError error = ⊥

-- the error is one of the attributes or of the objects, and not of what the caller has given besides
abbrev pub IsOfObjects : PackError → Type 0
IsOfObjects (Header place) = ⊥
IsOfObjects NoBase = ⊥
IsOfObjects Length = ⊥
IsOfObjects Memory = ⊥
IsOfObjects error = ⊤

-- What has such an error may not be packed: so, by the law of packing, no deposit of these objects passes.
abbrev pub AreRefusals : Type 0
AreRefusals = (a : Attributes) (source : Source) (base : Option Base) (error : PackError) → IsPackError a source base error → IsOfObjects error
    → ¬ IsPackable a (objects_in source) (base_keys base)
