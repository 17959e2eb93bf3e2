-- The day of a text, as a function of the text.
use Rattle.std.specs.Prelude.{ℕ, ◌+◌, ◌-◌, ◌*◌, ◌&&◌, List, slice_index, nat_le, Option, Some, None, if◌then◌else◌}
use Rattle.std.specs.Str.{bytes_eq}
use Rattle.schedule.specs.Calendar.{CivilDate, day_number}
use Rattle.schedule.specs.Schedule.{last_day}
use Rattle.schedule.specs.Text.{day_text}

-- the number that two digits show, the first of them at this place
abbrev pub pair_at : List ℕ → ℕ → ℕ
pair_at text i = (slice_index text i - 48) * 10 + (slice_index text (i + 1) - 48)

-- the date that stands at the places of `YYYY-MM-DD`
abbrev pub date_at : List ℕ → CivilDate
date_at text = record { year = pair_at text 0 * 100 + pair_at text 2; month = pair_at text 5; day = pair_at text 8 }

-- the day whose text this is
unfoldable pub day_at : List ℕ → Option ℕ
day_at text =
    if nat_le (day_number (date_at text)) last_day && bytes_eq text (day_text (day_number (date_at text)))
    then Some (day_number (date_at text))
    else None
