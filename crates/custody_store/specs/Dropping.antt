-- The rows after the bytes of some parts were dropped.
use Rattle.std.specs.Prelude.{ℤ, pos, int_le, Bool, ◌&&◌, if◌then◌else◌, List, map, None, option_map}
use Rattle.std.specs.List.{list_any}
use Rattle.std.specs.Str.{bytes_eq}
use Rattle.custody_records.specs.Keys.{PartKey}
use Rattle.custody_records.specs.Rows.{PartRow, Rows}

abbrev pub is_same_number : ℤ → ℤ → Bool
is_same_number a b = int_le a b && int_le b a

-- the row is that of the part of this key
abbrev pub is_row_of : PartRow → PartKey → Bool
is_row_of row key = bytes_eq row.tld key.tld && (is_same_number row.day (pos key.day) && (is_same_number row.rev (pos key.rev) && is_same_number row.part (pos key.part)))

-- the row without its bytes: name, moment, length and digest stay
abbrev pub dropped_row : PartRow → PartRow
dropped_row row = record row { extents = None }

-- the row of one of these parts is without its bytes
abbrev pub row_dropped_if_among : List PartKey → PartRow → PartRow
row_dropped_if_among keys row = if list_any (is_row_of row) keys then dropped_row row else row

-- each row at its place, and those of these parts without their bytes
abbrev pub rows_without_bytes : List PartKey → Rows → Rows
rows_without_bytes keys rows = record rows { parts = option_map (map (row_dropped_if_among keys)) rows.parts }
