use Rattle.std.proofs.Common.{arith}
use Rattle.std.proofs.KnownBytes.{Appends-nil}
use Rattle.answer_lines.proofs.AuditLemmas.{are_damaged}
use Rattle.answer_lines.proofs.Beginnings.{whole_begins}
use Rattle.answer_lines.proofs.PrintLemmas.{rows_all, rows_begin, rows_more}
use Rattle.answer_lines.proofs.auditing.write_damaged.Goals as goal

pub loop-name-init : goal.loop-name-init
loop-name-init g c = Appends-nil (g.W.Write.contents c.args.out.now)

pub loop-name-preserved : goal.loop-name-preserved
loop-name-preserved g c =
    rows_more _ _ are_damaged (g.W.Write.contents c.args.out.now) (g.W.Write.contents c.loop-name.out) (g.W.Write.contents c.write_line.new.out) c.args.damaged.now c.loop-name.name-index c.name-item.result (omega arith) c.name-item.is
    c.loop-name.invariant c.in_ok-write_line.ensures.whole

pub returns-in_err-write_line-clause-begun : goal.returns-in_err-write_line-clause-begun
returns-in_err-write_line-clause-begun g c =
    rows_begin _ _ are_damaged (g.W.Write.contents c.args.out.now) (g.W.Write.contents c.loop-name.out) (g.W.Write.contents c.write_line.new.out) c.args.damaged.now c.loop-name.name-index c.name-item.result (omega arith) c.name-item.is
    c.loop-name.invariant c.write_line.ensures.begun

pub returns-clause-whole : goal.returns-clause-whole
returns-clause-whole g c = rows_all _ _ are_damaged (g.W.Write.contents c.args.out.now) (g.W.Write.contents c.loop-name.out) c.args.damaged.now c.loop-name.name-index (omega arith) c.loop-name.invariant

pub returns-clause-begun : goal.returns-clause-begun
returns-clause-begun g c = whole_begins _ _ _ (returns-clause-whole g c)
