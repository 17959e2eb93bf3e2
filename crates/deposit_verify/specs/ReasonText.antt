-- The lines of reasons.
use Rattle.std.specs.Prelude.{◌==◌, ◌&&◌, ◌+◌, ◌++◌, ◌-◌, ◌^◌, ◌∷◌, [], ℕ, List, Option, Some, None, if◌then◌else◌, codes, decimal, flat_map, length, min, nat_le, slice_get, slice_index_or, take}
use Rattle.hex.specs.Hex.{encode_lower}
use Rattle.schedule.specs.Text.{day_text}
use Rattle.deposit_name.specs.Name.{kind_text}
use Rattle.deposit_name.specs.Tables.{table_name_text}
use Rattle.deposit_name.specs.declared.kinds.Kind.{Kind}
use Rattle.deposit_name.specs.declared.kinds.Kind.TheVariants.{Full, Diff, Incr}
use Rattle.deposit_name.specs.declared.table.TableName.{TableName}
use Rattle.dnrd_csv.specs.ErrorText.{form_text}
use Rattle.dnrd_csv.specs.Table.{column_names_of, columns_of}
use Rattle.dnrd_csv.specs.declared.errors.TableError.TheVariants as fault
use Rattle.dnrd_csv.specs.declared.errors.TableError.{TableError}
use Rattle.dnrd_csv.specs.declared.form.Form.TheVariants as form
use Rattle.envelope.specs.ErrorText.{member_name}
use Rattle.envelope.specs.declared.frame.FrameError.{FrameError}
use Rattle.envelope.specs.declared.frame.FrameError.TheVariants.{Head, Digits, Short}
use Rattle.envelope.specs.declared.errors.SpellingFault.{SpellingFault}
use Rattle.envelope.specs.declared.errors.SpellingFault.TheVariants as spelling
use Rattle.deposit_verify.specs.Checks.{counted_uris, object_uris}
use Rattle.deposit_verify.specs.Places.{all_tables}
use Rattle.deposit_verify.specs.declared.files_reason.FilePlace.{FilePlace}
use Rattle.deposit_verify.specs.declared.files_reason.FilesReason.{FilesReason}
use Rattle.deposit_verify.specs.declared.files_reason.FilesReason.TheVariants.{Lengths, Digest}
use Rattle.deposit_verify.specs.declared.files_reason.NoTable.{NoTable}
use Rattle.deposit_verify.specs.declared.files_reason.ReadFault.{ReadFault}
use Rattle.deposit_verify.specs.declared.files_reason.ReadFault.TheVariants as read
use Rattle.deposit_verify.specs.declared.files_reason.FileList.{FileList}
use Rattle.deposit_verify.specs.declared.files_reason.FileList.TheVariants as list
use Rattle.deposit_verify.specs.declared.header_reason.HeaderReason.{HeaderReason}
use Rattle.deposit_verify.specs.declared.header_reason.HeaderReason.TheVariants.{Name, Id, Sunday, PrevId, IdTaken, Menu}
use Rattle.deposit_verify.specs.declared.header_reason.MenuReason.{MenuReason}
use Rattle.deposit_verify.specs.declared.header_reason.MenuReason.TheVariants as menu
use Rattle.deposit_verify.specs.declared.header_reason.OtherName.{OtherName}
use Rattle.deposit_verify.specs.declared.header_reason.OtherName.TheVariants as other
use Rattle.deposit_verify.specs.declared.reason.Reason.{Reason}
use Rattle.deposit_verify.specs.declared.reason.Reason.TheVariants as reason
use Rattle.deposit_verify.specs.declared.tables_reason.NoKey.{NoKey}
use Rattle.deposit_verify.specs.declared.tables_reason.TablesReason.{TablesReason}
use Rattle.deposit_verify.specs.declared.tables_reason.TablesReason.TheVariants as tables
use Rattle.deposit_verify.specs.declared.tables_reason.WrongCount.{WrongCount}

-- ---- values

-- a byte as it is shown: printable ASCII as it is, a backslash twice, and any other by two hexadecimal digits
abbrev pub byte_shown : ℕ → List ℕ
byte_shown byte =
    if byte == 92 then codes "\\\\"
    else if nat_le 32 byte && nat_le byte 126 then byte ∷ []
    else codes "\\x" ++ encode_lower (byte ∷ [])

-- a field as far as it is shown: 40 bytes
abbrev pub field_shown : List ℕ → List ℕ
field_shown field = flat_map byte_shown (take 40 field)

-- what is there, or that nothing is
abbrev pub or_nothing : {A : Type 0} → (A → List ℕ) → Option A → List ℕ
or_nothing text None = codes "nothing"
or_nothing text (Some x) = text x

-- the same text of a value that may have none
abbrev pub or_nothing_output : {A : Type 0} → (A → Option (List ℕ)) → Option A → Option (List ℕ)
or_nothing_output output None = Some (codes "nothing")
or_nothing_output output (Some x) = output x

abbrev pub list_text : FileList → List ℕ
list_text list.Contents = codes "contents"
list_text list.Deletes = codes "deletes"

-- a place counted from 1, as 64 bits hold it
abbrev pub from_one : ℕ → List ℕ
from_one place = decimal (min (place + 1) (2 ^ 64 - 1))

-- a table in its file: that of deleted keys is named so
abbrev pub file_place_text : FilePlace → List ℕ
file_place_text f = by_list f.list
  where
    by_list : FileList → List ℕ
    by_list list.Contents = table_name_text f.name
    by_list list.Deletes = codes "deletes/" ++ table_name_text f.name

-- ---- checks 1 to 8

abbrev pub frame_reason_text : FrameError → List ℕ
frame_reason_text Head = codes "F1: it does not begin with RDE1 and a space"
frame_reason_text Digits = codes "F2: no length of eight digits and a line feed follows RDE1"
frame_reason_text (Short said there) = codes "F3: the envelope has " ++ (decimal said ++ (codes " bytes, says the frame, and " ++ (decimal there ++ codes " are there")))

-- the byte that is wanted in the envelope's text
abbrev pub wanted_byte_text : Option ℕ → List ℕ
wanted_byte_text None = codes "its end"
wanted_byte_text (Some byte) = codes "'" ++ (byte_shown byte ++ codes "'")

abbrev pub envelope_reason_text : SpellingFault → List ℕ
envelope_reason_text spelling.Long = codes "the envelope has more than 8192 bytes"
envelope_reason_text (spelling.NotUtf8 offset) = codes "envelope offset " ++ (decimal offset ++ codes ": not UTF-8")
envelope_reason_text (spelling.NotJson line column) = codes "envelope line " ++ (decimal line ++ (codes " column " ++ (decimal column ++ codes ": not JSON")))
envelope_reason_text (spelling.Member member) = member_name member ++ codes ": not there, or not in form"
envelope_reason_text (spelling.Byte offset wanted) = codes "envelope offset " ++ (decimal offset ++ (codes ": " ++ (wanted_byte_text wanted ++ codes " is wanted")))

-- a member of the envelope, and what the name says
abbrev pub member_of_name_text : (member here named : List ℕ) → List ℕ
member_of_name_text member here named = member ++ (codes " is " ++ (here ++ (codes ", the name says " ++ named)))

abbrev pub other_name_text : OtherName → List ℕ
other_name_text (other.Tld here named) = member_of_name_text (codes "header.tld") here named
other_name_text (other.Resend here named) = member_of_name_text (codes "resend") (decimal here) (decimal named)
other_name_text (other.Kind here named) = member_of_name_text (codes "type") (kind_text here) (kind_text named)
other_name_text (other.Watermark here named) = member_of_name_text (codes "watermark") (day_text here) (day_text named)

-- the id that a deposit has to follow, or why there is none
abbrev pub wanted_id_text : Kind → Option (List ℕ) → List ℕ
wanted_id_text kind (Some id) = id ++ codes " is wanted"
wanted_id_text Full None = codes "a full deposit has none"
wanted_id_text Diff None = codes "no deposit has passed"
wanted_id_text Incr None = codes "no full deposit has passed"

-- an item of a list of the envelope, and the one that is wanted
abbrev pub item_text : (list : List ℕ) → ℕ → (here wanted : List ℕ) → List ℕ
item_text list place here wanted = list ++ (codes " " ++ (from_one place ++ (codes ": " ++ (here ++ (codes ", " ++ (wanted ++ codes " is wanted"))))))

abbrev pub menu_reason_text : MenuReason → List ℕ
menu_reason_text (menu.ObjectUri place here) = item_text (codes "rdeMenu.objURI") place (or_nothing (λ uri. uri) here) (or_nothing (λ uri. uri) (slice_get object_uris place))
menu_reason_text (menu.Count place here) = item_text (codes "header.count") place (or_nothing (λ uri. uri) here) (or_nothing (λ uri. uri) (slice_get counted_uris place))
menu_reason_text (menu.Contents place here) = item_text (codes "contents") place (or_nothing table_name_text here) (or_nothing table_name_text (slice_get all_tables place))
menu_reason_text (menu.Order list place before here) = list_text list ++ (codes " " ++ (from_one place ++ (codes ": " ++ (table_name_text here ++ (codes " behind " ++ table_name_text before)))))

abbrev pub header_reason_text : HeaderReason → List ℕ
header_reason_text (Name other) = other_name_text other
header_reason_text (Id here stated) = codes "id is " ++ (here ++ (codes ", the statement says " ++ stated))
header_reason_text (Sunday day) = codes "watermark " ++ (day_text day ++ codes " is a Sunday, and the deposit is not full")
header_reason_text (PrevId kind here wanted) = codes "prevId is " ++ (or_nothing (λ id. id) here ++ (codes ", " ++ wanted_id_text kind wanted))
header_reason_text (IdTaken id) = codes "id " ++ (id ++ codes " has passed before")
header_reason_text (Menu reason) = menu_reason_text reason

-- ---- checks 9 to 13

abbrev pub files_reason_text : FilesReason → List ℕ
files_reason_text (Lengths said there) = codes "the files have " ++ (decimal said ++ (codes " bytes, says the envelope, and " ++ (decimal there ++ codes " are there")))
files_reason_text (Digest f said found) =
    list_text f.list ++ (codes " " ++ (from_one f.place ++ (codes " " ++ (table_name_text f.name ++ (codes ": sha256 is " ++ (encode_lower found ++ (codes ", the envelope says " ++ encode_lower said)))))))

-- a row within its file
abbrev pub row_text_within : ℕ → List ℕ
row_text_within row = codes " row " ++ from_one row

-- the name and the form of a column, from 0
abbrev pub column_text : TableName → ℕ → List ℕ
column_text name column = slice_index_or (column_names_of name) column []

abbrev pub column_form_text : TableName → ℕ → List ℕ
column_form_text name column = form_text (slice_index_or (columns_of name) column form.Id)

-- how many columns a file has: that of deleted keys has one
abbrev pub width_of : FilePlace → ℕ
width_of f = by_list f.list
  where
    by_list : FileList → ℕ
    by_list list.Contents = length (columns_of f.name)
    by_list list.Deletes = 1

-- what is wrong within a file, and where
abbrev pub table_fault_text : FilePlace → TableError → List ℕ
table_fault_text f (fault.NotUtf8 offset) = codes " offset " ++ (decimal offset ++ codes ": not UTF-8")
table_fault_text f (fault.NotRows row) = row_text_within row ++ codes ": not a row in its one spelling"
table_fault_text f (fault.ColumnCount row fields) = row_text_within row ++ (codes ": " ++ (decimal fields ++ (codes " fields, " ++ (decimal (width_of f) ++ codes " are wanted"))))
table_fault_text f (fault.FieldForm row column field) =
    row_text_within row ++ (codes " " ++ (column_text f.name column ++ (codes ": not " ++ (column_form_text f.name column ++ (codes ": " ++ field_shown field.items)))))
table_fault_text f (fault.DuplicateKey row earlier) = row_text_within row ++ (codes ": the key of row " ++ from_one earlier)
table_fault_text f fault.OutOfMemory = codes ": out of memory"

abbrev pub no_table_text : NoTable → List ℕ
no_table_text t = file_place_text t.file ++ table_fault_text t.file t.fault

abbrev pub wrong_count_text : WrongCount → List ℕ
wrong_count_text c = or_nothing (λ uri. uri) (slice_get counted_uris c.place) ++ (codes " counts " ++ (decimal c.said ++ (codes ", " ++ (decimal c.there ++ codes " are there"))))

-- a key that is not there, within the file that names it
abbrev pub missing_key_text : NoKey → List ℕ
missing_key_text r =
    row_text_within r.row ++ (codes " " ++ (column_text r.table r.column ++ (codes ": no " ++ (table_name_text r.of ++ (codes ": " ++ field_shown r.key.items)))))

abbrev pub no_key_text : NoKey → List ℕ
no_key_text r = table_name_text r.table ++ missing_key_text r

abbrev pub read_fault_text : ReadFault → List ℕ
read_fault_text (read.Files reason) = files_reason_text reason
read_fault_text (read.Table reason) = no_table_text reason
read_fault_text (read.Deletes reason) = no_table_text reason

abbrev pub tables_reason_text : TablesReason → List ℕ
tables_reason_text (tables.Count wrong) = wrong_count_text wrong
tables_reason_text (tables.Reference missing) = no_key_text missing

-- ---- the line

abbrev pub reason_text : Reason → List ℕ
reason_text (reason.Frame fault) = frame_reason_text fault
reason_text (reason.Envelope fault) = envelope_reason_text fault
reason_text (reason.Header reason) = header_reason_text reason
reason_text (reason.Read fault) = read_fault_text fault
reason_text (reason.Tables reason) = tables_reason_text reason
