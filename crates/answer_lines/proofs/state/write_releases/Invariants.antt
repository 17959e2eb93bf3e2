use Rattle.std.proofs.Common.{map, take}
use Rattle.std.specs.Io.KnownBytes.{Appends}
use Rattle.custody_records.specs.Tables.{row_entries}
use Rattle.custody_records.specs.TypedRecords.{release_key, release_value}
use Rattle.answer_lines.specs.State.{lines_text, release_line}
use Rattle.answer_lines.proofs.state.write_releases.Given as goal

abbrev pub invariant-loop-release : goal.invariant-loop-release
invariant-loop-release g l = Appends (g.W.Write.contents l.fn.out) (g.W.Write.contents l.out) (lines_text (map release_line (row_entries release_key release_value (take l.release-index l.release-items))))
