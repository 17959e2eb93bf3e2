use Rattle.std.proofs.Common.{map, take}
use Rattle.std.specs.Io.KnownBytes.{Appends}
use Rattle.custody_records.specs.Tables.{row_entries}
use Rattle.custody_records.specs.TypedRecords.{notice_key, notice_value}
use Rattle.answer_lines.specs.State.{lines_text, notice_line}
use Rattle.answer_lines.proofs.state.write_notices.Given as goal

abbrev pub invariant-loop-notice : goal.invariant-loop-notice
invariant-loop-notice g l = Appends (g.W.Write.contents l.fn.out) (g.W.Write.contents l.out) (lines_text (map notice_line (row_entries notice_key notice_value (take l.notice-index l.notices))))
