-- The days of which a registry has no notice, in records (Specification 2, Part B section 7).
use Rattle.std.specs.Prelude.{◌-◌, ℕ, List, Bool, true, map, not}
use Rattle.std.specs.List.{filter, flat_map, range_with_len}
use Rattle.std.specs.FinMap.{entries}
use Rattle.schedule.specs.Schedule.{day_of}
use Rattle.custody_records.specs.Records.{Records}
use Rattle.custody_machine.specs.State.{has_notice}
use Rattle.custody_rules.specs.declared.days_due.DueDay.{DueDay}

-- a day in memory
abbrev pub due_day_pair : DueDay → List ℕ × ℕ
due_day_pair due = (due.tld, due.day)

-- a registry has no notice of a day
abbrev pub is_unnoticed : Records → List ℕ × ℕ → Bool
is_unnoticed records day = not (has_notice records.notices day.0 day.1 (λ kind. true))

-- the days of a registry from its first to yesterday that have no notice
abbrev pub due_days_of : Records → ℕ → List ℕ × ℕ → List (List ℕ × ℕ)
due_days_of records now registry = filter (is_unnoticed records) (map (λ day. (registry.0, day)) (range_with_len registry.1 (day_of now - registry.1)))

-- those of all registries, in the order of their domains
abbrev pub due_days : Records → ℕ → List (List ℕ × ℕ)
due_days records now = flat_map (due_days_of records now) (entries records.registries)
