-- What a deposit is read as: its envelope in its frame, the files behind it, and their tables (RFC 8909, section 5.1; the CSV model of RFC 9022).
use Rattle.std.specs.Prelude.{◌≡◌, ℕ, List, [], ◌++◌, length, take, drop, unwrap_or}
use Rattle.std.specs.List.{AllZip, concat}
use Rattle.sha2.specs.Sha256.{sha256}
use Rattle.deposit_name.specs.declared.table.TableName.{TableName}
use Rattle.envelope.specs.Frame.{IsFrame}
use Rattle.envelope.specs.Envelope.{Env, IsEnvelope, env_text}
use Rattle.envelope.specs.declared.envelope.FileEntry.{FileEntry}
use Rattle.dnrd_csv.specs.Table.{IsTable, columns_of, key_columns_of}

-- the deposit is the frame of this envelope, in its one spelling, and of these bytes behind it
pub record IsDeposit (joined : List ℕ) (v : Env) (rest : List ℕ) : Type 0 where
  pub in_form : IsEnvelope v
  pub framed : IsFrame joined (env_text v) rest

-- the files of deleted keys: a full deposit has none
abbrev pub deletes_of : Env → List FileEntry
deletes_of v = unwrap_or v.deletes []

-- all files, in the order in which they stand
abbrev pub all_entries : Env → List FileEntry
all_entries v = v.contents ++ deletes_of v

-- the file has the length and the digest of its entry
pub record IsFileOf (entry : FileEntry) (file : List ℕ) : Type 0 where
  pub length_right : length file ≡ entry.length
  pub digest_right : sha256 file ≡ entry.sha256

-- the bytes are these files, one behind the other, and each is that of its entry
pub record AreFiles (entries : List FileEntry) (bytes : List ℕ) (files : List (List ℕ)) : Type 0 where
  pub joined : bytes ≡ concat files
  pub each : AllZip IsFileOf entries files

-- the bytes behind the envelope are its files, of which this holds
abbrev pub HasFiles : Env → List ℕ → (List (List ℕ) → Type 0) → Type 0
HasFiles v rest P = (files : List (List ℕ)) × AreFiles (all_entries v) rest files × P files

-- of all files, those of contents and those of deletes
abbrev pub contents_files : Env → List (List ℕ) → List (List ℕ)
contents_files v files = take (length v.contents) files

abbrev pub deletes_files : Env → List (List ℕ) → List (List ℕ)
deletes_files v files = drop (length v.contents) files

-- the file is the table of these rows
abbrev pub IsTableOf : TableName → List ℕ → List (List (List ℕ)) → Type 0
IsTableOf name file rows = IsTable (columns_of name) (key_columns_of name) file rows

-- the file is the table that its entry names
abbrev pub IsTableFile : FileEntry → List ℕ → Type 0
IsTableFile entry file = (rows : List (List (List ℕ))) × IsTableOf entry.name file rows

-- the file is one of deleted keys of a table: one column, with the rules of tables
abbrev pub IsKeyFileOf : TableName → List ℕ → List (List (List ℕ)) → Type 0
IsKeyFileOf name file keys = IsTable (take 1 (columns_of name)) 1 file keys

-- the file is one of deleted keys of the table that its entry names
abbrev pub IsKeyFile : FileEntry → List ℕ → Type 0
IsKeyFile entry file = (keys : List (List (List ℕ))) × IsKeyFileOf entry.name file keys

-- each file of deleted keys is one
abbrev pub HasDeletes : Env → List ℕ → Type 0
HasDeletes v rest = HasFiles v rest (λ files. AllZip IsKeyFile (deletes_of v) (deletes_files v files))

-- the deposit has an envelope, of which this holds
abbrev pub HasEnvelope : List ℕ → (Env → List ℕ → Type 0) → Type 0
HasEnvelope joined P = (v : Env) × (rest : List ℕ) × IsDeposit joined v rest × P v rest

-- the files are the tables of these rows, each under the name of its entry
abbrev pub AreTables : List FileEntry → List (List ℕ) → (TableName → List (List (List ℕ))) → Type 0
AreTables entries files tables = AllZip (λ entry file. IsTableOf entry.name file (tables entry.name)) entries files
