-- The records of parts after bytes were dropped: those whose keeping year is over, or those of some parts.
use Rattle.std.specs.Prelude.{ℕ, nat_lt, ◌==◌, Bool, not, ◌&&◌, if◌then◌else◌, List, None, is_some, is_none}
use Rattle.std.specs.FinMap.{FinMap, entries}
use Rattle.std.specs.List.{list_any}
use Rattle.std.specs.Ordering.{eq_by_cmp}
use Rattle.std.specs.Str.{bytes_eq}
use Rattle.schedule.specs.Schedule.{day_of, year_after}
use Rattle.custody_records.specs.Keys.{text_cmp, part_cmp, PartKey}
use Rattle.custody_records.specs.Records.{Hold, PartRecord}

-- a hold of the part's registry and day that is not lifted
abbrev pub is_hold_of_part : PartKey → List ℕ × Hold → Bool
is_hold_of_part key entry = is_none entry.1.lifted && (bytes_eq entry.1.tld key.tld && entry.1.day == key.day)

-- the part's day is on hold
abbrev pub is_on_hold : FinMap text_cmp Hold → PartKey → Bool
is_on_hold holds key = list_any (is_hold_of_part key) (entries holds)

-- the bytes are held, the last day of their keeping is before this day, and the part's day is not on hold
abbrev pub is_due : FinMap text_cmp Hold → ℕ → PartKey → PartRecord → Bool
is_due holds today key part = is_some part.extents && (nat_lt (year_after (day_of part.received)) today && not (is_on_hold holds key))

-- the record stays, without its bytes
abbrev pub record_without_bytes : PartRecord → PartRecord
record_without_bytes part = record part { extents = None }

abbrev pub dropped_if_due : FinMap text_cmp Hold → ℕ → PartKey → PartRecord → PartRecord
dropped_if_due holds today key part = if is_due holds today key part then record_without_bytes part else part

-- the key is one of these
abbrev pub is_among : List PartKey → PartKey → Bool
is_among keys key = list_any (eq_by_cmp part_cmp key) keys

abbrev pub dropped_if_among : List PartKey → PartKey → PartRecord → PartRecord
dropped_if_among keys key part = if is_among keys key then record_without_bytes part else part
