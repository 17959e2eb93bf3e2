-- Records as rows.
use Rattle.std.specs.Prelude.{ℕ}
use Rattle.deposit_name.specs.Name.{Name}
use Rattle.desk.specs.declared.notices.Notice as desk
use Rattle.custody_records.specs.declared.holds.Hold as ordered
use Rattle.custody_records.specs.declared.releases.Release as given
use Rattle.extent_map.specs.Staged.{StagedPart}
use Rattle.custody_records.specs.Records.{key_of, staged_record}
use Rattle.custody_records.specs.TypedRecords.{notice_key, notice_value, release_key, release_value, hold_key, hold_value}
use Rattle.custody_records.specs.Rows.{PartRow, NoticeRow, HandoverRow, HoldRow}
use Rattle.custody_records.specs.RowsOfRecords.{row_of_part, row_of_notice, row_of_release, row_of_hold}

abbrev pub staged_row : Name → ℕ → StagedPart → PartRow
staged_row name received staged = row_of_part (key_of name) (staged_record name received staged)

abbrev pub typed_notice_row : desk.Notice → NoticeRow
typed_notice_row it = row_of_notice (notice_key it) (notice_value it)

abbrev pub typed_release_row : given.Release → HandoverRow
typed_release_row it = row_of_release (release_key it) (release_value it)

abbrev pub typed_hold_row : ordered.Hold → HoldRow
typed_hold_row it = row_of_hold (hold_key it) (hold_value it)
