use Rattle.std.proofs.Common.{arith}
use Rattle.std.proofs.KnownBytes.{Appends-nil}
use Rattle.custody_records.specs.MemoryRecords.{records_of}
use Rattle.answer_lines.proofs.Beginnings.{whole_begins}
use Rattle.answer_lines.proofs.DueLemmas.{are_days}
use Rattle.answer_lines.proofs.PrintLemmas.{rows_all, rows_begin, rows_more}
use Rattle.answer_lines.proofs.due.write_days.Goals as goal

pub loop-due-init : goal.loop-due-init
loop-due-init g c = Appends-nil (g.W.Write.contents c.args.out.now)

pub loop-due-preserved : goal.loop-due-preserved
loop-due-preserved g c =
    rows_more _ _ (are_days (records_of c.args.records.now)) (g.W.Write.contents c.args.out.now) (g.W.Write.contents c.loop-due.out) (g.W.Write.contents c.write_day.new.out) c.args.days.now c.loop-due.due-index c.due-item.result (omega arith) c.due-item.is
    c.loop-due.invariant c.in_ok-write_day.ensures.whole

pub returns-in_err-write_day-clause-begun : goal.returns-in_err-write_day-clause-begun
returns-in_err-write_day-clause-begun g c =
    rows_begin _ _ (are_days (records_of c.args.records.now)) (g.W.Write.contents c.args.out.now) (g.W.Write.contents c.loop-due.out) (g.W.Write.contents c.write_day.new.out) c.args.days.now c.loop-due.due-index c.due-item.result (omega arith) c.due-item.is
    c.loop-due.invariant c.write_day.ensures.begun

pub returns-clause-whole : goal.returns-clause-whole
returns-clause-whole g c = rows_all _ _ (are_days (records_of c.args.records.now)) (g.W.Write.contents c.args.out.now) (g.W.Write.contents c.loop-due.out) c.args.days.now c.loop-due.due-index (omega arith) c.loop-due.invariant

pub returns-clause-begun : goal.returns-clause-begun
returns-clause-begun g c = whole_begins _ _ _ (returns-clause-whole g c)
