-- The records in memory, seen as records.
use Rattle.std.specs.Prelude.{ℕ, List, Option}
use Rattle.custody_records.specs.declared.records.Records as held
use Rattle.custody_records.specs.declared.records.RecordLists.{RecordLists}
use Rattle.custody_records.specs.Form.{all_records, keyed_map}
use Rattle.custody_records.specs.Keys.{text_cmp, part_cmp, notice_cmp}
use Rattle.custody_records.specs.Records.{Records}
use Rattle.custody_records.specs.RegistryRows.{all_rows, HasRoomOf}
use Rattle.custody_records.specs.Tables.{HasRoom, table_map}
use Rattle.custody_records.specs.TypedRecords.{registry_key, registry_value, key_of_part, part_value, notice_key, notice_value, release_key, release_value, hold_key, hold_value}

abbrev pub records_of : held.Records → Records
records_of r = record {
  number = r.number;
  blocks = r.blocks;
  registries = table_map text_cmp registry_key registry_value r.registries.rows.items;
  parts = table_map part_cmp key_of_part part_value (all_rows r.parts);
  notices = table_map notice_cmp notice_key notice_value (all_rows r.notices);
  releases = table_map text_cmp release_key release_value r.releases.rows.items;
  holds = table_map text_cmp hold_key hold_value r.holds.rows.items;
}

-- records in any order, where no two of a list have one key
abbrev pub records_of_lists : ℕ → ℕ → RecordLists → Option Records
records_of_lists number blocks lists =
    all_records number blocks (keyed_map text_cmp registry_key registry_value lists.registries.items) (keyed_map part_cmp key_of_part part_value lists.parts.items) (keyed_map notice_cmp notice_key notice_value lists.notices.items)
    (keyed_map text_cmp release_key release_value lists.releases.items) (keyed_map text_cmp hold_key hold_value lists.holds.items)

-- ---- room for one more, which is taken without memory

abbrev pub HasRegistryRoom : held.Records → Type 0
HasRegistryRoom r = HasRoom r.registries.rows

abbrev pub HasPartRoom : List ℕ → held.Records → Type 0
HasPartRoom tld r = HasRoomOf tld r.parts

abbrev pub HasNoticeRoom : List ℕ → held.Records → Type 0
HasNoticeRoom tld r = HasRoomOf tld r.notices

abbrev pub HasReleaseRoom : held.Records → Type 0
HasReleaseRoom r = HasRoom r.releases.rows

abbrev pub HasHoldRoom : held.Records → Type 0
HasHoldRoom r = HasRoom r.holds.rows
