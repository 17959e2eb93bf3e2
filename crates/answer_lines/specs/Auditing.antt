-- The lines of `audit`: each part that is damaged, or how many are held where none is.
use Rattle.std.specs.Prelude.{ℕ, List, [], ◌∷◌, map, count_by, is_some}
use Rattle.std.specs.FinMap.{entries}
use Rattle.deposit_name.specs.Name.{Name}
use Rattle.custody_machine.specs.Codes.{exit_number}
use Rattle.custody_machine.specs.declared.codes.ExitStatus.TheVariants.{Done, Refused}
use Rattle.custody_records.specs.Keys.{PartKey}
use Rattle.custody_records.specs.Records.{PartRecord, Records}
use Rattle.answer_lines.specs.declared.lines.Line.{Line}
use Rattle.answer_lines.specs.declared.lines.Line.TheVariants.{Damaged, Sound}
use Rattle.answer_lines.specs.State.{lines_text}

-- how many parts are held
abbrev pub count_held_parts : Records → ℕ
count_held_parts records = count_by (λ (entry : PartKey × PartRecord). is_some entry.1.extents) (entries records.parts)

abbrev pub audit_lines : List Name → ℕ → List Line
audit_lines [] held = Sound held ∷ []
audit_lines (name ∷ names) held = map Damaged (name ∷ names)

abbrev pub audit_text : List Name → Records → List ℕ
audit_text damaged records = lines_text (audit_lines damaged (count_held_parts records))

-- damage ends with the status of a refusal
abbrev pub audit_status : List Name → ℕ
audit_status [] = exit_number Done
audit_status (name ∷ names) = exit_number Refused
