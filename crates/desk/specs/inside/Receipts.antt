-- The receipts of Sundays, in a map.
use Rattle.std.specs.Prelude.{◌≡◌, ℕ, IsTrue, List, nat_lt, unwrap_or}
use Rattle.std.specs.BTreeMap.{BTreeMap, get}
use Rattle.std.specs.List.{list_any}
use Rattle.std.specs.Ordering.{nat_cmp}
use Rattle.schedule.specs.Schedule.{is_sunday}
use Rattle.desk.specs.Standing.{is_made_good_by}
use Rattle.desk.specs.declared.notices.Notice.{Notice}

-- the number that a map has for a day, or 0
abbrev pub latest_number : BTreeMap ℕ ℕ → ℕ → ℕ
latest_number latest day = unwrap_or (get nat_cmp latest day) 0

-- a Sunday's notice is made good by one of the notices exactly where the map's number of its day is greater
abbrev pub TellsWhatIsMadeGood : List Notice → BTreeMap ℕ ℕ → Type 0
TellsWhatIsMadeGood notices latest = (n : Notice) → IsTrue (is_sunday n.day) → nat_lt n.number (latest_number latest n.day) ≡ list_any (is_made_good_by n) notices
