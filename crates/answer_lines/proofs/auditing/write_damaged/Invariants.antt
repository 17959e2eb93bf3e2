use Rattle.std.proofs.Common.{map, take}
use Rattle.std.specs.Io.KnownBytes.{Appends}
use Rattle.answer_lines.specs.State.{lines_text}
use Rattle.answer_lines.specs.declared.lines.Line.TheVariants.{Damaged}
use Rattle.answer_lines.proofs.auditing.write_damaged.Given as goal

abbrev pub invariant-loop-name : goal.invariant-loop-name
invariant-loop-name g l = Appends (g.W.Write.contents l.fn.out) (g.W.Write.contents l.out) (lines_text (map Damaged (take l.name-index l.damaged)))
