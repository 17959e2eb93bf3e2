-- What the rows of the tables stand for: whether they are in form, and the records that they make.
use Rattle.std.specs.Prelude.{◌≡◌, ℕ, ℤ, pos, negsuc, ◌+◌, ◌*◌, ◌-◌, List, [], ◌∷◌, length, Option, Some, None, Bool, true, false, not, ◌&&◌, ◌||◌, ◌==◌, nat_lt, if◌then◌else◌, is_some, option_map, find, Result, Ok, Err}
use Rattle.std.specs.Option.{option_and_then}
use Rattle.std.specs.Str.{bytes_eq}
use Rattle.std.specs.declared.cmp.Ordering.{Ordering}
use Rattle.std.specs.FinMap.{FinMap, get, insert, empty}
use Rattle.std.specs.Int.{w32, w64, to_be_bytes, from_be_bytes}
use Rattle.hex.specs.Hex.{encode_lower, decode_sized}
use Rattle.hex.specs.declared.FromHexError.{FromHexError}
use Rattle.schedule.specs.Schedule.{day_of, last_day, year_after}
use Rattle.deposit_name.specs.declared.kinds.Kind.{Kind}
use Rattle.deposit_name.specs.declared.kinds.Kind.TheVariants.{Full, Diff, Incr}
use Rattle.deposit_name.specs.Identifiers.{is_tld, is_deposit_id, is_reference}
use Rattle.deposit_name.specs.Name.{first_name_day, kind_text}
use Rattle.desk.specs.Checks.{check_number}
use Rattle.desk.specs.Grounds.{ground_text}
use Rattle.desk.specs.declared.checks.Check.{Check}
use Rattle.desk.specs.declared.checks.Check.TheVariants.{Frame, Envelope, Name, Statement, Weekday, PrevId, IdTaken, Menu, Files, Table, Counts, References, Deletes}
use Rattle.desk.specs.declared.notices.NoticeKind.{NoticeKind}
use Rattle.desk.specs.declared.notices.NoticeKind.TheVariants.{Receipt, Failure, Absence}
use Rattle.desk.specs.declared.grounds.Ground.{Ground}
use Rattle.desk.specs.declared.grounds.Ground.TheVariants.{Operator, Termination, NoNotices, SundayFailed, FiveFailed, Insolvency, Critical, Order, Audit}
use Rattle.extent_map.specs.declared.extent.Extent.{Extent}
use Rattle.extent_map.specs.Limits.{fewest_blocks, most_blocks, max_part_len}
use Rattle.custody_records.specs.declared.damage.RowDamage.{RowDamage}
use Rattle.custody_records.specs.declared.damage.RowDamage.TheVariants as damage
use Rattle.custody_records.specs.Keys.{text_cmp, PartKey, part_cmp, NoticeKey, notice_cmp}
use Rattle.custody_records.specs.Names.{lines_of}
use Rattle.custody_records.specs.Records.{PartRecord, Notice, Release, Hold, Records}
use Rattle.custody_records.specs.Rows.{MetaRow, RegistryRow, PartRow, NoticeRow, HandoverRow, HoldRow, Rows, first_meta, greatest_integer}
use Rattle.custody_records.specs.RowsOfRecords.{text_of_lines}

-- ---- fields

abbrev pub natural : ℤ → ℕ
natural (pos n) = n
natural (negsuc _) = 0

-- a number from low to high
abbrev pub is_within : ℕ → ℕ → ℤ → Bool
is_within low high (pos n) = not (nat_lt n low) && not (nat_lt high n)
is_within low high (negsuc _) = false

-- this number
abbrev pub is_number : ℕ → ℤ → Bool
is_number n = is_within n n

-- a day from 1970-01-01 to 9998-12-31
abbrev pub is_day : ℤ → Bool
is_day = is_within 0 last_day

-- the day of a deposit, from 2000-01-01 on
abbrev pub is_deposit_day : ℤ → Bool
is_deposit_day = is_within first_name_day last_day

-- a moment of these days
abbrev pub is_moment : ℤ → Bool
is_moment = is_within 0 (86_400 * (last_day + 1) - 1)

-- ---- a table: each row has its record, and no two rows have one key

abbrev pub gather : {X K R : Type 0} {order : K → K → Ordering} → (X → Option (K × R)) → FinMap order R → List X → Option (FinMap order R)
gather read so_far [] = Some so_far
gather {X = X} {K = K} {R = R} {order = order} read so_far (row ∷ rows) =
    option_and_then (λ (entry : K × R). if is_some (get so_far entry.0) then None else gather {X = X} {K = K} {R = R} {order = order} read (insert so_far entry.0 entry.1) rows) (read row)

-- the same of records in any order
abbrev pub keyed_map : {T K X : Type 0} (order : K → K → Ordering) → (T → K) → (T → X) → List T → Option (FinMap order X)
keyed_map {T} {K} {X} order key value = gather {X = T} {K = K} {R = X} {order = order} (λ it. Some (key it, value it)) empty

-- ---- registries

abbrev pub registry_in : RegistryRow → Option (List ℕ × ℕ)
registry_in row = if is_tld row.tld && is_day row.first_day then Some (row.tld, natural row.first_day) else None

-- ---- parts

abbrev pub kind_in : List ℕ → Option Kind
kind_in text = find (λ kind. bytes_eq text (kind_text kind)) (Full ∷ Diff ∷ Incr ∷ [])

-- extents, of which start and count are four bytes each, the greatest first
abbrev pub blob_extents : List ℕ → Option (List Extent)
blob_extents [] = Some []
blob_extents (a ∷ b ∷ c ∷ d ∷ e ∷ f ∷ g ∷ h ∷ bytes) =
    option_map (λ extents. record { start = from_be_bytes w32 (a ∷ b ∷ c ∷ d ∷ []); count = from_be_bytes w32 (e ∷ f ∷ g ∷ h ∷ []) } ∷ extents) (blob_extents bytes)
blob_extents _ = None

-- none where the bytes are dropped; else one extent or more
abbrev pub extents_in : Option (List ℕ) → Option (Option (List Extent))
extents_in None = Some None
extents_in (Some []) = None
extents_in (Some (byte ∷ bytes)) = option_map Some (blob_extents (byte ∷ bytes))

-- the row's numbers and its digest are in form, and the bytes are kept for a year from the day received (Specification 2, Part B section 4)
abbrev pub is_part : PartRow → Bool
is_part row = is_tld row.tld && (is_deposit_day row.day && (is_within 0 99 row.rev && (is_within 1 8 row.part && (is_moment row.received
    && (is_number (year_after (day_of (natural row.received))) row.keep_day && (is_within 1 max_part_len row.len && length row.sha == 32))))))

abbrev pub part_key : PartRow → PartKey
part_key row = record { tld = row.tld; day = natural row.day; rev = natural row.rev; part = natural row.part }

abbrev pub part_in : PartRow → Option (PartKey × PartRecord)
part_in row = if is_part row then
    option_and_then (λ (kind : Kind). option_map (λ (extents : Option (List Extent)). (part_key row, record { kind = kind; received = natural row.received; len = natural row.len; digest = row.sha; extents = extents })) (extents_in row.extents)) (kind_in row.kind)
    else None

-- ---- notices

-- the checks in their order
abbrev pub checks : List Check
checks = Frame ∷ Envelope ∷ Name ∷ Statement ∷ Weekday ∷ PrevId ∷ IdTaken ∷ Menu ∷ Files ∷ Table ∷ Counts ∷ References ∷ Deletes ∷ []

-- the check of a number from 1 to 13
abbrev pub check_in : ℕ → Option Check
check_in number = find (λ check. check_number check == number) checks

-- 0 is a receipt, 1 to 13 a failure of that check, and 20 an absence, which has no revision and no id
abbrev pub notice_kind_in : NoticeRow → Option NoticeKind
notice_kind_in row =
    if is_number 20 row.kind then (if is_number 0 row.rev && bytes_eq row.id [] then Some Absence else None)
    else if is_within 0 99 row.rev && is_deposit_id row.id then
    (if is_number 0 row.kind then Some (Receipt (natural row.rev) row.id) else option_map (λ (check : Check). Failure (natural row.rev) row.id check) (check_in (natural row.kind)))
    else None

abbrev pub notice_in : NoticeRow → Option (NoticeKey × Notice)
notice_in row = if is_tld row.tld && (is_within 1 greatest_integer row.number && (is_day row.day && is_moment row.at)) then
    option_map (λ (kind : NoticeKind). (record { tld = row.tld; number = natural row.number }, record { day = natural row.day; at = natural row.at; kind = kind })) (notice_kind_in row)
    else None

-- ---- releases

-- the grounds in their order
abbrev pub grounds : List Ground
grounds = Operator ∷ Termination ∷ NoNotices ∷ SundayFailed ∷ FiveFailed ∷ Insolvency ∷ Critical ∷ Order ∷ Audit ∷ []

abbrev pub ground_in : List ℕ → Option Ground
ground_in text = find (λ reason. bytes_eq text (ground_text reason)) grounds

-- the lines of a text, each of which is ended by a line feed
abbrev pub lines_in : List ℕ → Option (List (List ℕ))
lines_in text = if bytes_eq (text_of_lines (lines_of text)) text then Some (lines_of text) else None

abbrev pub release_in : HandoverRow → Option (List ℕ × Release)
release_in row = if is_reference row.reference && (is_tld row.tld && is_moment row.at) then
    option_and_then (λ (reason : Ground). option_map (λ (names : List (List ℕ)). (row.reference, record { tld = row.tld; reason = reason; at = natural row.at; names = names })) (lines_in row.names)) (ground_in row.reason)
    else None

-- ---- holds

-- a moment, or none where it is not lifted
abbrev pub is_lifting : Option ℤ → Bool
is_lifting None = true
is_lifting (Some at) = is_moment at

abbrev pub is_hold : HoldRow → Bool
is_hold row = is_reference row.reference && (is_tld row.tld && (is_day row.day && (is_moment row.at && is_lifting row.lifted)))

abbrev pub hold_of_row : HoldRow → Hold
hold_of_row row = record { tld = row.tld; day = natural row.day; at = natural row.at; lifted = option_map natural row.lifted }

abbrev pub hold_in : HoldRow → Option (List ℕ × Hold)
hold_in row = if is_hold row then Some (row.reference, hold_of_row row) else None

-- ---- the volume

abbrev pub hex_number : Result (List ℕ) FromHexError → ℕ
hex_number (Ok bytes) = from_be_bytes w64 bytes
hex_number (Err _) = 0

abbrev pub number_in : List ℕ → ℕ
number_in text = hex_number (decode_sized text 8)

-- one, a number of 16 lower-case hexadecimal digits, and as many blocks as a volume may have
abbrev pub is_meta : MetaRow → Bool
is_meta row = is_number 1 row.one && (bytes_eq row.number (encode_lower (to_be_bytes w64 (number_in row.number))) && is_within fewest_blocks most_blocks row.blocks)

-- ---- all tables

-- what the tables stand for: no vault, rows out of form, or the records of rows in form
pub data Form : Type 0 where
  NoVault : Form
  OutOfForm : RowDamage → Form
  InForm : Records → Form

-- a table that is there
abbrev pub gathered_table : {X K R : Type 0} {order : K → K → Ordering} → (X → Option (K × R)) → Option (List X) → Option (FinMap order R)
gathered_table {X} {K} {R} {order} read = option_and_then (gather {X = X} {K = K} {R = R} {order = order} read empty)

-- schema 2 has a table of holds; schema 1 has none, and its rows stand for records without a hold
abbrev pub holds_in : (has_holds : Bool) → Option (List HoldRow) → Option (FinMap text_cmp Hold)
holds_in true rows = gathered_table hold_in rows
holds_in false None = Some empty
holds_in false (Some _) = None

-- the records of a volume of this number and so many blocks, where each table is in form
abbrev pub all_records : ℕ → ℕ → Option (FinMap text_cmp ℕ) → Option (FinMap part_cmp PartRecord) → Option (FinMap notice_cmp Notice) → Option (FinMap text_cmp Release) → Option (FinMap text_cmp Hold) → Option Records
all_records number blocks (Some registries) (Some parts) (Some notices) (Some releases) (Some holds) =
    Some (record { number = number; blocks = blocks; registries = registries; parts = parts; notices = notices; releases = releases; holds = holds })
all_records _ _ _ _ _ _ _ = None

abbrev pub records_in : (has_holds : Bool) → ℕ → ℕ → Rows → Option Records
records_in has_holds number blocks rows =
    all_records number blocks (gathered_table registry_in rows.registries) (gathered_table part_in rows.parts) (gathered_table notice_in rows.notices) (gathered_table release_in rows.handovers) (holds_in has_holds rows.holds)

abbrev pub in_form_or : RowDamage → Option Records → Form
in_form_or why None = OutOfForm why
in_form_or why (Some records) = InForm records

-- the schema's number is known
abbrev pub is_schema : ℤ → Bool
is_schema number = is_number 1 number || is_number 2 number

-- it is that of a schema with a table of holds
abbrev pub has_holds : ℤ → Bool
has_holds number = is_number 2 number

abbrev pub is_known : MetaRow → Bool
is_known row = is_schema row.schema_no

abbrev pub are_none : List MetaRow → Bool
are_none [] = true
are_none (_ ∷ _) = false

abbrev pub form_after : List MetaRow → Rows → Form
form_after [] rows = NoVault
form_after (meta ∷ others) rows =
    if is_known meta then
    (if is_meta meta && are_none others then in_form_or damage.Form (records_in (has_holds meta.schema_no) (number_in meta.number) (natural meta.blocks) rows) else OutOfForm damage.Form)
    else OutOfForm damage.Schema

abbrev pub form_by : Option (List MetaRow) → Rows → Form
form_by None rows = NoVault
form_by (Some metas) rows = form_after metas rows

-- what the rows of the tables stand for
unfoldable pub form_of : Rows → Form
form_of rows = form_by rows.meta rows

-- the tables are those of the schema with holds
abbrev pub HasCurrentSchema : Rows → Type 0
HasCurrentSchema rows = (meta : MetaRow) → first_meta rows ≡ Some meta → has_holds meta.schema_no ≡ true

-- they are those of the schema without
abbrev pub HasEarlierSchema : Rows → Type 0
HasEarlierSchema rows = (meta : MetaRow) → first_meta rows ≡ Some meta → has_holds meta.schema_no ≡ false
