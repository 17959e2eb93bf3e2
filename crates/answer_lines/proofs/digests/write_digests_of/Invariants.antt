use Rattle.std.proofs.Common.{map, take}
use Rattle.std.specs.Io.KnownBytes.{Appends}
use Rattle.custody_records.specs.Tables.{row_entries}
use Rattle.custody_records.specs.TypedRecords.{key_of_part, part_value}
use Rattle.answer_lines.specs.Digests.{digest_line}
use Rattle.answer_lines.specs.State.{lines_text}
use Rattle.answer_lines.proofs.digests.write_digests_of.Given as goal

abbrev pub invariant-loop-part : goal.invariant-loop-part
invariant-loop-part g l = Appends (g.W.Write.contents l.fn.out) (g.W.Write.contents l.out) (lines_text (map digest_line (row_entries key_of_part part_value (take l.part-index l.parts))))
