use Rattle.std.proofs.Common.{map, take}
use Rattle.std.specs.Io.KnownBytes.{Appends}
use Rattle.custody_records.specs.Tables.{row_entries}
use Rattle.custody_records.specs.TypedRecords.{hold_key, hold_value}
use Rattle.answer_lines.specs.State.{lines_text, hold_line}
use Rattle.answer_lines.proofs.state.write_holds.Given as goal

abbrev pub invariant-loop-hold : goal.invariant-loop-hold
invariant-loop-hold g l = Appends (g.W.Write.contents l.fn.out) (g.W.Write.contents l.out) (lines_text (map hold_line (row_entries hold_key hold_value (take l.hold-index l.hold-items))))
