-- The lines of `due`: each day that a sweep would record as missed, and behind it each of its revisions of which parts are held.
use Rattle.std.specs.Prelude.{ℕ, List, [], ◌∷◌, ◌&&◌, ◌==◌, Bool, is_some, count_by, if◌then◌else◌}
use Rattle.std.specs.List.{flat_map, range_with_len}
use Rattle.custody_records.specs.Keys.{PartKey}
use Rattle.custody_records.specs.Records.{PartRecord, Records, parts_of_day}
use Rattle.custody_rules.specs.DueDays.{due_days}
use Rattle.answer_lines.specs.declared.lines.Line.{Line}
use Rattle.answer_lines.specs.declared.lines.Line.TheVariants as line
use Rattle.answer_lines.specs.State.{lines_text}

-- a part of a revision whose bytes are held
abbrev pub is_held_part_of : ℕ → PartKey × PartRecord → Bool
is_held_part_of rev e = e.0.rev == rev && is_some e.1.extents

-- how many of these parts are held ones of a revision
abbrev pub count_waiting : List (PartKey × PartRecord) → ℕ → ℕ
count_waiting parts rev = count_by (is_held_part_of rev) parts

-- the line of a day's revision, where any of its parts is held
abbrev pub waiting_lines_of : List (PartKey × PartRecord) → List ℕ × ℕ → ℕ → List Line
waiting_lines_of parts day rev = if count_waiting parts rev == 0 then [] else line.Waiting day.0 day.1 rev (count_waiting parts rev) ∷ []

-- those of its revisions, from 0 to 99 (RFC 8909, section 5.1)
abbrev pub waiting_lines : List (PartKey × PartRecord) → List ℕ × ℕ → List Line
waiting_lines parts day = flat_map (waiting_lines_of parts day) (range_with_len 0 100)

abbrev pub due_day_lines : Records → List ℕ × ℕ → List Line
due_day_lines records day = line.Due day.0 day.1 ∷ waiting_lines (parts_of_day records day.0 day.1) day

-- the lines of days
abbrev pub days_text : Records → List (List ℕ × ℕ) → List ℕ
days_text records days = flat_map (λ day. lines_text (due_day_lines records day)) days

-- the days that are due at a moment
abbrev pub due_text : Records → ℕ → List ℕ
due_text records now = days_text records (due_days records now)
