use Rattle.std.proofs.Common.{arith, subst}
use Rattle.std.proofs.KnownBytes.{Appends-nil}
use Rattle.std.specs.Io.KnownBytes.{Appends}
use Rattle.desk.specs.Lines.{AppendsBeginning}
use Rattle.custody_records.specs.TypedRecords.{key_of_part, part_value}
use Rattle.answer_lines.specs.Lines.{line_text}
use Rattle.answer_lines.specs.Printing.{as_line}
use Rattle.answer_lines.specs.declared.lines.Line.{Line}
use Rattle.answer_lines.specs.Digests.{digest_line}
use Rattle.answer_lines.proofs.Beginnings.{whole_begins}
use Rattle.answer_lines.proofs.PrintLemmas.{are_lines, rows_all, rows_begin, rows_more}
use Rattle.answer_lines.proofs.digests.write_digests_of.Goals as goal

pub loop-part-init : goal.loop-part-init
loop-part-init g c = Appends-nil (g.W.Write.contents c.args.out.now)

pub loop-part-preserved : goal.loop-part-preserved
loop-part-preserved g c =
    rows_more _ _ (are_lines key_of_part part_value digest_line) (g.W.Write.contents c.args.out.now) (g.W.Write.contents c.loop-part.out) (g.W.Write.contents c.write_line.new.out) c.args.parts.now c.loop-part.part-index c.part-item.result (omega arith) c.part-item.is
    c.loop-part.invariant (subst (λ (l : Line). Appends (g.W.Write.contents c.loop-part.out) (g.W.Write.contents c.write_line.new.out) (as_line (line_text l))) c.digest_line.ensures c.in_ok-write_line.ensures.whole)

pub returns-in_err-write_line-clause-begun : goal.returns-in_err-write_line-clause-begun
returns-in_err-write_line-clause-begun g c =
    rows_begin _ _ (are_lines key_of_part part_value digest_line) (g.W.Write.contents c.args.out.now) (g.W.Write.contents c.loop-part.out) (g.W.Write.contents c.write_line.new.out) c.args.parts.now c.loop-part.part-index c.part-item.result (omega arith) c.part-item.is
    c.loop-part.invariant (subst (λ (l : Line). AppendsBeginning (g.W.Write.contents c.loop-part.out) (g.W.Write.contents c.write_line.new.out) (as_line (line_text l))) c.digest_line.ensures c.write_line.ensures.begun)

pub returns-clause-whole : goal.returns-clause-whole
returns-clause-whole g c = rows_all _ _ (are_lines key_of_part part_value digest_line) (g.W.Write.contents c.args.out.now) (g.W.Write.contents c.loop-part.out) c.args.parts.now c.loop-part.part-index (omega arith) c.loop-part.invariant

pub returns-clause-begun : goal.returns-clause-begun
returns-clause-begun g c = whole_begins _ _ _ (returns-clause-whole g c)
