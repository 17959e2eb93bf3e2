-- Why the files of a deposit are not read: the first place at which they fail a check.
use Rattle.std.specs.Prelude.{◌≡◌, ◌≢◌, ◌<◌, ◌+◌, ℕ, List, Some, length, option_map, slice_get, sum_by, slice_range, take}
use Rattle.std.specs.List.{AllZip}
use Rattle.sha2.specs.Sha256.{sha256}
use Rattle.deposit_name.specs.declared.table.TableName.{TableName}
use Rattle.desk.specs.declared.checks.Check.{Check}
use Rattle.desk.specs.declared.checks.Check.TheVariants as check
use Rattle.dnrd_csv.specs.Table.{RefusesTableFile, columns_of, key_columns_of}
use Rattle.dnrd_csv.specs.declared.errors.TableError.{TableError}
use Rattle.dnrd_csv.specs.declared.errors.TableError.TheVariants.{OutOfMemory}
use Rattle.envelope.specs.Envelope.{Env}
use Rattle.envelope.specs.declared.envelope.FileEntry.{FileEntry}
use Rattle.deposit_verify.specs.declared.files_reason.FileList.{FileList}
use Rattle.deposit_verify.specs.declared.files_reason.FileList.TheVariants.{Contents, Deletes}
use Rattle.deposit_verify.specs.declared.files_reason.FilePlace.{FilePlace}
use Rattle.deposit_verify.specs.declared.files_reason.FilesReason.{FilesReason}
use Rattle.deposit_verify.specs.declared.files_reason.FilesReason.TheVariants.{Lengths, Digest}
use Rattle.deposit_verify.specs.declared.files_reason.NoTable.{NoTable}
use Rattle.deposit_verify.specs.declared.files_reason.ReadFault.{ReadFault}
use Rattle.deposit_verify.specs.declared.files_reason.ReadFault.TheVariants as fault
use Rattle.deposit_verify.specs.Deposit.{AreFiles, IsKeyFile, IsTableFile, all_entries, contents_files, deletes_files, deletes_of}

-- ---- the place of a file

abbrev pub entries_in : Env → FileList → List FileEntry
entries_in v Contents = v.contents
entries_in v Deletes = deletes_of v

-- how many files stand before those of a list
abbrev pub files_before : Env → FileList → ℕ
files_before v Contents = 0
files_before v Deletes = length v.contents

-- the place of a file among all
abbrev pub place_among_all : Env → FilePlace → ℕ
place_among_all v file = files_before v file.list + file.place

-- this entry of the envelope stands at this place, and names its table
pub record StandsAt (v : Env) (entry : FileEntry) (file : FilePlace) : Type 0 where
  pub there : slice_get (entries_in v file.list) file.place ≡ Some entry
  pub named : file.name ≡ entry.name

-- ---- check 9

-- how many bytes the files of entries have
abbrev pub total_length : List FileEntry → ℕ
total_length entries = sum_by (λ entry. entry.length) entries

-- of bytes that are cut at the lengths of entries, the file at a place
abbrev pub cut_file : List FileEntry → List ℕ → ℕ → List ℕ
cut_file entries bytes place = slice_range bytes (total_length (take place entries)) (total_length (take (place + 1) entries))

-- it has the digest of its entry
abbrev pub HasOwnDigest : List FileEntry → List ℕ → ℕ → Type 0
HasOwnDigest entries bytes place = option_map (λ entry. entry.sha256) (slice_get entries place) ≡ Some (sha256 (cut_file entries bytes place))

-- it has this digest, which is not that of its entry, and each file before it has that of its own
pub record IsOtherDigest (entries : List FileEntry) (bytes : List ℕ) (place : ℕ) (entry : FileEntry) (found : List ℕ) : Type 0 where
  pub there : slice_get entries place ≡ Some entry
  pub digest : found ≡ sha256 (cut_file entries bytes place)
  pub other : found ≢ entry.sha256
  pub before : (earlier : ℕ) → earlier < place → HasOwnDigest entries bytes earlier

-- the files have another length than the bytes; or the lengths are right, and this file is the first with another digest
abbrev pub IsFilesReason : Env → List ℕ → FilesReason → Type 0
IsFilesReason v rest (Lengths said there) = (said ≡ total_length (all_entries v)) × (there ≡ length rest) × (said ≢ there)
IsFilesReason v rest (Digest file said found) =
    (total_length (all_entries v) ≡ length rest) × (entry : FileEntry) × StandsAt v entry file × (said ≡ entry.sha256)
    × IsOtherDigest (all_entries v) rest (place_among_all v file) entry found

-- ---- checks 10 and 13

-- why a file is no table of this name, and why it is none of its deleted keys: a fault of its own, not one of memory
abbrev pub IsTableFault : TableName → List ℕ → TableError → Type 0
IsTableFault name file fault = RefusesTableFile (columns_of name) (key_columns_of name) file fault × (fault ≢ OutOfMemory)

abbrev pub IsKeysFault : TableName → List ℕ → TableError → Type 0
IsKeysFault name file fault = RefusesTableFile (take 1 (columns_of name)) 1 file fault × (fault ≢ OutOfMemory)

-- of files with these entries, this one has this fault, and each before it is what it has to be
pub record IsFirstFault (IsOne : FileEntry → List ℕ → Type 0) (HasFault : TableName → List ℕ → TableError → Type 0) (entries : List FileEntry) (files : List (List ℕ)) (reason : NoTable) : Type 0 where
  pub entry : FileEntry
  pub file : List ℕ
  pub entry_there : slice_get entries reason.file.place ≡ Some entry
  pub file_there : slice_get files reason.file.place ≡ Some file
  pub named : reason.file.name ≡ entry.name
  pub fault : HasFault entry.name file reason.fault
  pub before : AllZip IsOne (take reason.file.place entries) (take reason.file.place files)

-- the first file of contents that is no table
abbrev pub IsNoTable : List FileEntry → List (List ℕ) → NoTable → Type 0
IsNoTable entries files reason = (reason.file.list ≡ Contents) × IsFirstFault IsTableFile IsTableFault entries files reason

-- the first file of deletes that is none of deleted keys
abbrev pub IsNoKeyFile : List FileEntry → List (List ℕ) → NoTable → Type 0
IsNoKeyFile entries files reason = (reason.file.list ≡ Deletes) × IsFirstFault IsKeyFile IsKeysFault entries files reason

-- ---- any of them

-- the check that fails
abbrev pub fault_check : ReadFault → Check
fault_check (fault.Files reason) = check.Files
fault_check (fault.Table reason) = check.Table
fault_check (fault.Deletes reason) = check.Deletes

-- the bytes behind the envelope are its files, and this is the first of contents that is no table
abbrev pub IsTableReason : Env → List ℕ → NoTable → Type 0
IsTableReason v rest reason = (files : List (List ℕ)) × AreFiles (all_entries v) rest files × IsNoTable v.contents (contents_files v files) reason

-- the same of deletes
abbrev pub IsDeletesReason : Env → List ℕ → NoTable → Type 0
IsDeletesReason v rest reason = (files : List (List ℕ)) × AreFiles (all_entries v) rest files × IsNoKeyFile (deletes_of v) (deletes_files v files) reason

-- the first place at which the files fail it
abbrev pub IsReadFault : Env → List ℕ → ReadFault → Type 0
IsReadFault v rest (fault.Files reason) = IsFilesReason v rest reason
IsReadFault v rest (fault.Table reason) = IsTableReason v rest reason
IsReadFault v rest (fault.Deletes reason) = IsDeletesReason v rest reason
