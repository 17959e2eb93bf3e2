-- The rows that are written for records, and the forms that records have to have for it.
use Rattle.std.specs.Prelude.{◌≡◌, ℕ, pos, ◌^◌, ◌<◌, ◌≤◌, List, [], ◌∷◌, ◌++◌, length, Option, Some, None, Bool, not, ◌==◌, IsTrue, option_map, All}
use Rattle.std.specs.List.{list_all}
use Rattle.std.specs.Int.{IsInRange, w32, w64, to_be_bytes}
use Rattle.hex.specs.Hex.{encode_lower}
use Rattle.schedule.specs.Schedule.{IsDay, IsMoment, day_of, year_after}
use Rattle.deposit_name.specs.Identifiers.{IsTld, IsDepositId, IsReference}
use Rattle.deposit_name.specs.Name.{IsNameDay, kind_text}
use Rattle.desk.specs.Checks.{check_number}
use Rattle.desk.specs.Grounds.{ground_text}
use Rattle.desk.specs.declared.notices.NoticeKind.{NoticeKind}
use Rattle.desk.specs.declared.notices.NoticeKind.TheVariants.{Receipt, Failure, Absence}
use Rattle.extent_map.specs.declared.extent.Extent.{Extent}
use Rattle.extent_map.specs.Limits.{max_part_len}
use Rattle.custody_records.specs.Keys.{PartKey, NoticeKey}
use Rattle.custody_records.specs.Records.{PartRecord, Notice, Release, Hold}
use Rattle.custody_records.specs.Rows.{RegistryRow, PartRow, NoticeRow, HandoverRow, HoldRow, greatest_integer}

-- ---- registries

abbrev pub row_of_registry : List ℕ → ℕ → RegistryRow
row_of_registry tld first_day = record { tld = tld; first_day = pos first_day }

-- ---- parts

-- the bytes of extents: start and count of each as four bytes each, the greatest first
abbrev pub blob_of : List Extent → List ℕ
blob_of [] = []
blob_of (extent ∷ extents) = to_be_bytes w32 extent.start ++ to_be_bytes w32 extent.count ++ blob_of extents

-- start and count have four bytes each
abbrev pub HasWords : Extent → Type 0
HasWords extent = (extent.start < 2 ^ 32) × (extent.count < 2 ^ 32)

-- none, or one extent or more
abbrev pub AreWritable : Option (List Extent) → Type 0
AreWritable None = Unit {0}
AreWritable (Some []) = ⊥
AreWritable (Some (extent ∷ extents)) = All HasWords (extent ∷ extents)

abbrev pub row_of_part : PartKey → PartRecord → PartRow
row_of_part key part = record {
  tld = key.tld;
  day = pos key.day;
  rev = pos key.rev;
  part = pos key.part;
  kind = kind_text part.kind;
  received = pos part.received;
  keep_day = pos (year_after (day_of part.received));
  len = pos part.len;
  sha = part.digest;
  extents = option_map blob_of part.extents;
}

pub record IsPart (key : PartKey) (part : PartRecord) : Type 0 where
  pub tld : IsTld key.tld
  pub day : IsNameDay key.day
  pub rev : key.rev ≤ 99
  pub place : IsInRange 1 8 key.part
  pub received : IsMoment part.received
  pub len : IsInRange 1 max_part_len part.len
  pub digest : length part.digest ≡ 32
  pub extents : AreWritable part.extents

-- ---- notices

abbrev pub kind_number : NoticeKind → ℕ
kind_number (Receipt rev id) = 0
kind_number (Failure rev id check) = check_number check
kind_number Absence = 20

abbrev pub kind_rev : NoticeKind → ℕ
kind_rev (Receipt rev id) = rev
kind_rev (Failure rev id check) = rev
kind_rev Absence = 0

abbrev pub kind_id : NoticeKind → List ℕ
kind_id (Receipt rev id) = id
kind_id (Failure rev id check) = id
kind_id Absence = []

abbrev pub row_of_notice : NoticeKey → Notice → NoticeRow
row_of_notice key notice = record {
  tld = key.tld;
  number = pos key.number;
  kind = pos (kind_number notice.kind);
  day = pos notice.day;
  rev = pos (kind_rev notice.kind);
  id = kind_id notice.kind;
  at = pos notice.at;
}

abbrev pub IsNoticeKind : NoticeKind → Type 0
IsNoticeKind (Receipt rev id) = (rev ≤ 99) × IsDepositId id
IsNoticeKind (Failure rev id check) = (rev ≤ 99) × IsDepositId id
IsNoticeKind Absence = Unit {0}

pub record IsNotice (key : NoticeKey) (notice : Notice) : Type 0 where
  pub tld : IsTld key.tld
  pub number : IsInRange 1 greatest_integer key.number
  pub day : IsDay notice.day
  pub at : IsMoment notice.at
  pub kind : IsNoticeKind notice.kind

-- ---- releases

-- a line has no line feed within it
abbrev pub is_line : List ℕ → Bool
is_line line = list_all (λ byte. not (byte == 10)) line

-- lines as a text, where each is followed by a line feed
abbrev pub text_of_lines : List (List ℕ) → List ℕ
text_of_lines [] = []
text_of_lines (line ∷ lines) = line ++ 10 ∷ text_of_lines lines

abbrev pub row_of_release : List ℕ → Release → HandoverRow
row_of_release reference release = record {
  reference = reference;
  tld = release.tld;
  reason = ground_text release.reason;
  at = pos release.at;
  names = text_of_lines release.names;
}

pub record IsRelease (reference : List ℕ) (release : Release) : Type 0 where
  pub named : IsReference reference
  pub tld : IsTld release.tld
  pub at : IsMoment release.at
  pub names : IsTrue (list_all is_line release.names)

-- ---- holds

abbrev pub row_of_hold : List ℕ → Hold → HoldRow
row_of_hold reference hold = record { reference = reference; tld = hold.tld; day = pos hold.day; at = pos hold.at; lifted = option_map pos hold.lifted }

abbrev pub IsLifting : Option ℕ → Type 0
IsLifting None = Unit {0}
IsLifting (Some at) = IsMoment at

pub record IsHold (reference : List ℕ) (hold : Hold) : Type 0 where
  pub named : IsReference reference
  pub tld : IsTld hold.tld
  pub day : IsDay hold.day
  pub at : IsMoment hold.at
  pub lifted : IsLifting hold.lifted

-- ---- the volume

-- a number as 16 lower-case hexadecimal digits
abbrev pub digits_of : ℕ → List ℕ
digits_of number = encode_lower (to_be_bytes w64 number)
