-- The verdict on a deposit as a function of its bytes and of what is known of it (Specification 2, Part A, section 7). Only its law is used: `IsLawful`, which says it by `IsVerdict`.
use Rattle.std.specs.Prelude.{◌≡◌, ◌==◌, ◌&&◌, ◌||◌, not, ℕ, Bool, true, false, List, [], ◌∷◌, ◌++◌, Option, Some, None, if◌then◌else◌, is_none, is_some, length, map, nat_lt, option_and_then, option_map, take, drop, unwrap_or}
use Rattle.std.specs.Cmp.Lexicographic.{pointwise}
use Rattle.std.specs.List.{list_all, list_any}
use Rattle.std.specs.Set.{distinct_count}
use Rattle.std.specs.Str.{bytes_eq}
use Rattle.sha2.specs.Sha256.{sha256}
use Rattle.schedule.specs.Schedule.{is_sunday}
use Rattle.deposit_name.specs.Name.{Name, is_same_kind}
use Rattle.deposit_name.specs.declared.kinds.Kind.{Kind}
use Rattle.deposit_name.specs.declared.kinds.Kind.TheVariants.{Full, Diff, Incr}
use Rattle.deposit_name.specs.declared.table.TableName.{TableName}
use Rattle.deposit_name.specs.declared.table.TableName.TheVariants.{Domain, DomainContacts, DomainStatuses, DomainNameServers, Host, HostAddresses, Contact, Registrar}
use Rattle.desk.specs.declared.checks.Check.{Check}
use Rattle.desk.specs.declared.checks.Check.TheVariants as check
use Rattle.dnrd_csv.specs.Readers.{table_at}
use Rattle.dnrd_csv.specs.Table.{columns_of, key_columns_of}
use Rattle.envelope.specs.Envelope.{Env}
use Rattle.envelope.specs.Readers.{envelope_at, frame_at}
use Rattle.envelope.specs.declared.envelope.Count.{Count}
use Rattle.envelope.specs.declared.envelope.FileEntry.{FileEntry}
use Rattle.deposit_verify.specs.declared.verdict.Verdict.{Verdict}
use Rattle.deposit_verify.specs.declared.verdict.Verdict.TheVariants.{Pass, Fail}
use Rattle.deposit_verify.specs.Checks.{IsVerdict, counted_tables, counted_uris, object_uris}
use Rattle.deposit_verify.specs.Places.{all_tables, table_place}
use Rattle.deposit_verify.specs.Deposit.{contents_files, deletes_files, deletes_of, all_entries}
use Rattle.deposit_verify.specs.Keys.{keys_in}
use Rattle.deposit_verify.specs.Known.{Known}
use Rattle.deposit_verify.specs.declared.base.Base.{Base}
use Rattle.deposit_verify.specs.References.{column}
use Rattle.deposit_verify.specs.Rows.{keys_after, rows_under}
use Rattle.deposit_verify.specs.Tables.{table_of}

-- ---- the envelope

abbrev pub is_full : Kind → Bool
is_full kind = is_same_kind kind Full

abbrev pub agrees_with_name : Env → Name → Bool
agrees_with_name v name =
    is_same_kind v.kind name.kind && (bytes_eq v.tld name.tld && (v.watermark == name.day && v.resend == name.rev))

-- two ids that are there and the same
abbrev pub is_same_id : Option (List ℕ) → Option (List ℕ) → Bool
is_same_id None other = false
is_same_id (Some id) None = false
is_same_id (Some id) (Some other) = bytes_eq id other

-- an id that is there, and another that is the same or not there
abbrev pub follows_full : Option (List ℕ) → Option (List ℕ) → Bool
follows_full prev_id None = false
follows_full None (Some full) = true
follows_full (Some prev_id) (Some full) = bytes_eq prev_id full

abbrev pub follows_passed : Kind → Option (List ℕ) → Known → Bool
follows_passed Full prev_id known = is_none prev_id
follows_passed Diff prev_id known = is_same_id prev_id known.latest
follows_passed Incr prev_id known = follows_full prev_id known.full

abbrev pub contains_text : List (List ℕ) → List ℕ → Bool
contains_text texts text = list_any (λ one. bytes_eq one text) texts

-- each number is below the next
abbrev pub is_increasing : List ℕ → Bool
is_increasing [] = true
is_increasing (n ∷ []) = true
is_increasing (m ∷ n ∷ ns) = nat_lt m n && is_increasing (n ∷ ns)

abbrev pub stand_in_order : List TableName → Bool
stand_in_order names = is_increasing (map table_place names)

abbrev pub has_contents : Kind → List TableName → Bool
has_contents Full names = bytes_eq (map table_place names) (map table_place all_tables)
has_contents Diff names = stand_in_order names
has_contents Incr names = stand_in_order names

abbrev pub has_menu : Env → Bool
has_menu v =
    pointwise bytes_eq v.object_uris object_uris && (pointwise bytes_eq (map (λ c. c.uri) v.count) counted_uris
    && (has_contents v.kind (map (λ f. f.name) v.contents) && stand_in_order (map (λ f. f.name) (deletes_of v))))

-- ---- the files, and their tables

abbrev pub is_file_of : FileEntry → List ℕ → Bool
is_file_of entry file = length file == entry.length && bytes_eq (sha256 file) entry.sha256

-- the files that bytes are, each that of its entry
abbrev pub files_behind : List FileEntry → List ℕ → Option (List (List ℕ))
files_behind [] [] = Some []
files_behind [] (byte ∷ bytes) = None
files_behind (entry ∷ entries) bytes =
    if is_file_of entry (take entry.length bytes)
    then option_map (λ files. take entry.length bytes ∷ files) (files_behind entries (drop entry.length bytes))
    else None

-- the rows of a file that is the table that its entry names
abbrev pub rows_at : FileEntry → List ℕ → Option (List (List (List ℕ)))
rows_at entry file = table_at (columns_of entry.name) (key_columns_of entry.name) file

-- the keys, as rows, of a file of deleted keys
abbrev pub key_rows_at : FileEntry → List ℕ → Option (List (List (List ℕ)))
key_rows_at entry file = table_at (take 1 (columns_of entry.name)) 1 file

-- the rows of each file, where each is read
abbrev pub rows_of_each : (FileEntry → List ℕ → Option (List (List (List ℕ)))) → List FileEntry → List (List ℕ) → Option (List (List (List (List ℕ))))
rows_of_each read [] [] = Some []
rows_of_each read [] (file ∷ files) = None
rows_of_each read (entry ∷ entries) [] = None
rows_of_each read (entry ∷ entries) (file ∷ files) =
    option_and_then (λ rows. option_map (λ tables. rows ∷ tables) (rows_of_each read entries files)) (read entry file)

abbrev pub tables_at : List FileEntry → List (List ℕ) → Option (List (List (List (List ℕ))))
tables_at = rows_of_each rows_at

abbrev pub deleted_keys_at : List FileEntry → List (List ℕ) → Option (List (List (List (List ℕ))))
deleted_keys_at = rows_of_each key_rows_at

abbrev pub is_key_file : FileEntry → List ℕ → Bool
is_key_file entry file = is_some (key_rows_at entry file)

abbrev pub keys_after_rows : List (List ℕ) → List (List (List ℕ)) → List (List (List ℕ)) → List (List ℕ)
keys_after_rows before contained deleted = keys_after before (column 0 contained) (column 0 contained ++ column 0 deleted)

abbrev pub keys_after_files : Env → List (List ℕ) → List (List (List (List ℕ))) → List (List (List (List ℕ))) → TableName → List (List ℕ)
keys_after_files v before tables deleted name = keys_after_rows before (rows_under v.contents tables name) (rows_under (deletes_of v) deleted name)

abbrev pub are_key_counts : Env → Base → List (List (List (List ℕ))) → List (List (List (List ℕ))) → Bool
are_key_counts v base tables deleted =
    pointwise (λ count name. count.count == distinct_count bytes_eq (keys_after_files v (keys_in base name) tables deleted name)) v.count counted_tables

-- how many keys the counted tables have after a deposit, of these tables and deleted keys
abbrev pub key_numbers : Env → Base → List (List (List (List ℕ))) → List (List (List (List ℕ))) → List ℕ
key_numbers v base tables deleted = map (λ name. distinct_count bytes_eq (keys_after_files v (keys_in base name) tables deleted name)) counted_tables

abbrev pub are_row_counts : List Count → (TableName → List (List (List ℕ))) → Bool
are_row_counts counts tables = bytes_eq (map (λ c. c.count) counts) (map (λ name. length (tables name)) counted_tables)

-- each of these texts is the key of a row
abbrev pub are_keys_of : List (List (List ℕ)) → List (List ℕ) → Bool
are_keys_of rows texts = list_all (contains_text (column 0 rows)) texts

-- each of these texts is the key of a row, or empty
abbrev pub are_keys_or_empty : List (List (List ℕ)) → List (List ℕ) → Bool
are_keys_or_empty rows texts = list_all (λ text. bytes_eq text [] || contains_text (column 0 rows) text) texts

-- whatever an object names is there
abbrev pub are_references_kept : (TableName → List (List (List ℕ))) → Bool
are_references_kept tables =
    (are_keys_of (tables Registrar) (column 3 (tables Domain))
    && (are_keys_of (tables Registrar) (column 2 (tables Host)) && are_keys_of (tables Registrar) (column 2 (tables Contact))))
    && ((are_keys_or_empty (tables Contact) (column 2 (tables Domain)) && are_keys_of (tables Contact) (column 2 (tables DomainContacts)))
    && ((are_keys_of (tables Domain) (column 0 (tables DomainContacts))
    && (are_keys_of (tables Domain) (column 0 (tables DomainStatuses)) && are_keys_of (tables Domain) (column 0 (tables DomainNameServers))))
    && (are_keys_of (tables Host) (column 1 (tables DomainNameServers)) && are_keys_of (tables Host) (column 0 (tables HostAddresses)))))

-- ---- the checks

-- what is read behind an envelope: the files, where the bytes are files, the tables of contents, where these are tables, and the deleted keys, where these are keys
pub record FilesReading : Type 0 where
  pub files : Option (List (List ℕ))
  pub tables : Option (List (List (List (List ℕ))))
  pub deleted : Option (List (List (List (List ℕ))))

abbrev pub with_tables : Env → Option (List (List ℕ)) → FilesReading
with_tables v files = record {
  files = files;
  tables = option_and_then (λ all. tables_at v.contents (contents_files v all)) files;
  deleted = option_and_then (λ all. deleted_keys_at (deletes_of v) (deletes_files v all)) files;
}

abbrev pub files_reading_at : Env → List ℕ → FilesReading
files_reading_at v rest = with_tables v (files_behind (all_entries v) rest)

-- what a test says of the tables of a full deposit; it says nothing of others
abbrev pub passes_if_full : Env → FilesReading → ((TableName → List (List (List ℕ))) → Bool) → Bool
passes_if_full v found test = not (is_full v.kind) || test (table_of (unwrap_or found.tables []))

-- what the counts of any other deposit say, where the keys before it are known and those that it deletes are read
abbrev pub chain_counts : Env → Option Base → List (List (List (List ℕ))) → Option (List (List (List (List ℕ)))) → Bool
chain_counts v None tables deleted = true
chain_counts v (Some base) tables None = true
chain_counts v (Some base) tables (Some deleted) = are_key_counts v base tables deleted

-- whether a deposit that passes the checks below this one passes it
abbrev pub passes_check : Env → Known → FilesReading → Check → Bool
passes_check v known found check.Frame = true
passes_check v known found check.Envelope = true
passes_check v known found check.Name = agrees_with_name v known.name
passes_check v known found check.Statement = bytes_eq v.id known.id
passes_check v known found check.Weekday = not (is_sunday v.watermark) || is_full v.kind
passes_check v known found check.PrevId = follows_passed v.kind v.prev_id known
passes_check v known found check.IdTaken = not (contains_text known.passed v.id)
passes_check v known found check.Menu = has_menu v
passes_check v known found check.Files = is_some found.files
passes_check v known found check.Table = is_some found.tables
passes_check v known found check.Counts = passes_if_full v found (are_row_counts v.count) && (is_full v.kind || chain_counts v known.base (unwrap_or found.tables []) found.deleted)
passes_check v known found check.References = passes_if_full v found are_references_kept
passes_check v known found check.Deletes = pointwise is_key_file (deletes_of v) (deletes_files v (unwrap_or found.files []))

-- the checks of what an envelope and its files say, in the order of their numbers
abbrev pub checks_inside : List Check
checks_inside =
    check.Name ∷ check.Statement ∷ check.Weekday ∷ check.PrevId ∷ check.IdTaken ∷ check.Menu ∷ check.Files ∷ check.Table
    ∷ check.Counts ∷ check.References ∷ check.Deletes ∷ []

-- the first of some checks that fails, or a pass where none does
abbrev pub first_failing : (Check → Bool) → List Check → Verdict
first_failing test [] = Pass
first_failing test (c ∷ cs) = if test c then first_failing test cs else Fail c

-- ---- the verdict

abbrev pub envelope_verdict : Known → List ℕ → Option Env → Verdict
envelope_verdict known rest None = Fail check.Envelope
envelope_verdict known rest (Some v) = first_failing (passes_check v known (files_reading_at v rest)) checks_inside

abbrev pub frame_verdict : Known → Option (List ℕ × List ℕ) → Verdict
frame_verdict known None = Fail check.Frame
frame_verdict known (Some parts) = envelope_verdict known parts.1 (envelope_at parts.0)

-- the least check that fails
unfoldable pub verdict : List ℕ → Known → Verdict
verdict joined known = frame_verdict known (frame_at joined)

-- The verdict names the least check that fails, or is a pass where none does; and nothing else is.
pub record IsLawful : Type 0 where
  pub least : (joined : List ℕ) (known : Known) → IsVerdict joined known (verdict joined known)
  pub only : (joined : List ℕ) (known : Known) (v : Verdict) → IsVerdict joined known v → v ≡ verdict joined known
