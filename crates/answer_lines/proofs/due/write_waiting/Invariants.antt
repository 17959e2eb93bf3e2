use Rattle.std.proofs.Common.{◌≤◌, take}
use Rattle.std.specs.Io.KnownBytes.{Appends}
use Rattle.std.specs.List.{flat_map, range_with_len}
use Rattle.custody_records.specs.Tables.{row_entries}
use Rattle.custody_records.specs.TypedRecords.{key_of_part, part_value}
use Rattle.custody_rules.specs.DueDays.{due_day_pair}
use Rattle.answer_lines.specs.Due.{waiting_lines_of}
use Rattle.answer_lines.specs.State.{lines_text}
use Rattle.answer_lines.proofs.due.write_waiting.Given as goal

abbrev pub invariant-loop-revision : goal.invariant-loop-revision
invariant-loop-revision g l = (l.revision ≤ 100)
    × Appends (g.W.Write.contents l.fn.out) (g.W.Write.contents l.out) (lines_text (flat_map (waiting_lines_of (row_entries key_of_part part_value l.parts) (due_day_pair l.due)) (take l.revision (range_with_len 0 100))))
