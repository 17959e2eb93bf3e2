-- Typed records and the columns of rows, as keys, records and rows.
use Rattle.std.specs.Prelude.{ℕ, ◌&&◌, if◌then◌else◌, List, Option, None, Some, option_map}
use Rattle.std.specs.Str.{bytes_eq}
use Rattle.schedule.specs.Schedule.{day_of, year_after}
use Rattle.deposit_name.specs.declared.kinds.Kind.{Kind}
use Rattle.deposit_name.specs.Identifiers.{is_tld}
use Rattle.deposit_name.specs.Name.{Name}
use Rattle.desk.specs.declared.notices.Notice as desk
use Rattle.extent_map.specs.Limits.{fewest_blocks, most_blocks}
use Rattle.custody_records.specs.declared.meta.Meta.{Meta}
use Rattle.custody_records.specs.declared.notices.NoticeColumns.{NoticeColumns}
use Rattle.custody_records.specs.declared.parts.Part.{Part}
use Rattle.custody_records.specs.declared.parts.PartColumns.{PartColumns}
use Rattle.custody_records.specs.declared.registries.Registry.{Registry}
use Rattle.custody_records.specs.declared.holds.Hold as ordered
use Rattle.custody_records.specs.declared.holds.HoldColumns.{HoldColumns}
use Rattle.custody_records.specs.declared.releases.Release as given
use Rattle.custody_records.specs.declared.releases.ReleaseColumns.{ReleaseColumns}
use Rattle.custody_records.specs.Keys.{PartKey, NoticeKey}
use Rattle.custody_records.specs.Records.{PartRecord, Notice, Release, Hold, key_of}
use Rattle.custody_records.specs.Rows.{MetaRow, PartRow, NoticeRow, HandoverRow, HoldRow}
use Rattle.custody_records.specs.Form.{natural, is_within, is_number, is_deposit_day, is_moment, kind_in, number_in}
use Rattle.custody_records.specs.RowsOfRecords.{digits_of}

-- ---- registries

abbrev pub registry_key : Registry → List ℕ
registry_key r = r.tld

abbrev pub registry_value : Registry → ℕ
registry_value r = r.first_day

abbrev pub registry_entry : Registry → List ℕ × ℕ
registry_entry r = (registry_key r, registry_value r)

-- ---- parts

abbrev pub key_of_part : Part → PartKey
key_of_part p = key_of p.name

abbrev pub part_value : Part → PartRecord
part_value p = record { kind = p.name.kind; received = p.received; len = p.len; digest = p.digest; extents = option_map (λ v. v.items) p.extents }

abbrev pub part_entry : Part → PartKey × PartRecord
part_entry p = (key_of_part p, part_value p)

abbrev pub part_row : PartColumns → PartRow
part_row c = record {
  tld = c.tld.now;
  day = c.day;
  rev = c.rev;
  part = c.part;
  kind = c.kind.now;
  received = c.received;
  keep_day = c.keep_day;
  len = c.len;
  sha = c.sha.now;
  extents = option_map (λ b. b.now) c.extents;
}

-- the name of a row's part, where the fields of it are in form
abbrev pub name_in : PartRow → Option Name
name_in row =
    if is_tld row.tld && (is_deposit_day row.day && (is_within 0 99 row.rev && is_within 1 8 row.part))
    then option_map (λ (kind : Kind). record { tld = row.tld; day = natural row.day; kind = kind; part = natural row.part; rev = natural row.rev }) (kind_in row.kind) else None

-- when a row's part was received, where it is in form and the bytes are kept for a year from its day
abbrev pub received_in : PartRow → Option ℕ
received_in row = if is_moment row.received && is_number (year_after (day_of (natural row.received))) row.keep_day then Some (natural row.received) else None

-- ---- notices

abbrev pub notice_key : desk.Notice → NoticeKey
notice_key n = record { tld = n.tld; number = n.number }

abbrev pub notice_value : desk.Notice → Notice
notice_value n = record { day = n.day; at = n.at; kind = n.kind }

abbrev pub notice_entry : desk.Notice → NoticeKey × Notice
notice_entry n = (notice_key n, notice_value n)

abbrev pub notice_row : NoticeColumns → NoticeRow
notice_row c = record { tld = c.tld.now; number = c.number; kind = c.kind; day = c.day; rev = c.rev; id = c.id.now; at = c.at }

-- ---- releases

abbrev pub release_key : given.Release → List ℕ
release_key r = r.reference

abbrev pub release_value : given.Release → Release
release_value r = record { tld = r.tld; reason = r.reason; at = r.at; names = r.names }

abbrev pub release_entry : given.Release → List ℕ × Release
release_entry r = (release_key r, release_value r)

abbrev pub handover_row : ReleaseColumns → HandoverRow
handover_row c = record { reference = c.reference.now; tld = c.tld.now; reason = c.reason.now; at = c.at; names = c.names.now }

-- ---- holds

abbrev pub hold_key : ordered.Hold → List ℕ
hold_key h = h.reference

abbrev pub hold_value : ordered.Hold → Hold
hold_value h = record { tld = h.tld; day = h.day; at = h.at; lifted = h.lifted }

abbrev pub hold_entry : ordered.Hold → List ℕ × Hold
hold_entry h = (hold_key h, hold_value h)

abbrev pub hold_row : HoldColumns → HoldRow
hold_row c = record { reference = c.reference.now; tld = c.tld.now; day = c.day; at = c.at; lifted = c.lifted }

-- ---- the volume

abbrev pub meta_of : MetaRow → Meta
meta_of row = record { one = row.one; schema_no = row.schema_no; number = (if bytes_eq row.number (digits_of (number_in row.number)) then Some (number_in row.number) else None); blocks = row.blocks }

-- the number and the blocks of a row in form
abbrev pub meta_volume : Meta → Option (ℕ × ℕ)
meta_volume m = if is_number 1 m.one && is_within fewest_blocks most_blocks m.blocks then option_map (λ n. (n, natural m.blocks)) m.number else None
