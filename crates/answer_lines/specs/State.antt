-- The lines of `state`: each registry with its parts and its notices, the releases, the holds, and last the free blocks.
use Rattle.std.specs.Prelude.{ℕ, List, [], ◌∷◌, ◌++◌, Option, None, Some, length, map, is_some, if◌then◌else◌}
use Rattle.std.specs.FinMap.{entries}
use Rattle.std.specs.List.{flat_map}
use Rattle.custody_records.specs.Keys.{NoticeKey, PartKey}
use Rattle.custody_records.specs.Records.{Hold, Notice, PartRecord, Records, Release, name_of, notices_of, parts_of}
use Rattle.answer_lines.specs.Lines.{line_text, room_text}
use Rattle.answer_lines.specs.declared.lines.Line.{Line}
use Rattle.answer_lines.specs.declared.lines.Line.TheVariants as line

-- a part, held or dropped
abbrev pub part_line : PartKey × PartRecord → Line
part_line e = if is_some e.1.extents then line.Part (name_of e.0 e.1.kind) e.1.len e.1.received else line.Dropped (name_of e.0 e.1.kind) e.1.len e.1.received

abbrev pub notice_line : NoticeKey × Notice → Line
notice_line e = line.Notice (record { number = e.0.number; tld = e.0.tld; day = e.1.day; at = e.1.at; kind = e.1.kind })

-- a release, by its reference
abbrev pub release_line : List ℕ × Release → Line
release_line e = line.Release e.0 e.1.tld e.1.reason e.1.at (length e.1.names)

-- a hold, by its reference, that stands or was lifted
abbrev pub hold_line : List ℕ × Hold → Line
hold_line e = by e.1.lifted
  where
    by : Option ℕ → Line
    by None = line.Hold e.0 e.1.tld e.1.day e.1.at
    by (Some lifted) = line.LiftedHold e.0 e.1.tld e.1.day e.1.at lifted

-- lines, each followed by a line feed
abbrev pub lines_text : List Line → List ℕ
lines_text = flat_map (λ l. line_text l ++ 10 ∷ [])

-- the report of a registry: its notices by number (Specification 2, Part B section 7)
abbrev pub registry_report_text : Records → List ℕ → List ℕ
registry_report_text records tld = lines_text (map notice_line (notices_of records tld))

-- a registry, its parts by day, revision and place in the series, and its notices by number
abbrev pub registry_lines : Records → List ℕ × ℕ → List Line
registry_lines records registry =
    line.Registry registry.0 registry.1 ∷ map part_line (parts_of records registry.0) ++ map notice_line (notices_of records registry.0)

abbrev pub registries_text : Records → List ℕ
registries_text records = flat_map (λ (registry : List ℕ × ℕ). lines_text (registry_lines records registry)) (entries records.registries)

-- all but the line feed of the last line: so many blocks are free, of so many
abbrev pub state_text : Records → ℕ → ℕ → List ℕ
state_text records free total =
    registries_text records ++ lines_text (map release_line (entries records.releases)) ++ lines_text (map hold_line (entries records.holds)) ++ room_text free total
