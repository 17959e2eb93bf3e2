use Rattle.std.proofs.Common.{arith}
use Rattle.std.proofs.KnownBytes.{Appends-nil}
use Rattle.custody_records.specs.TypedRecords.{notice_key, notice_value}
use Rattle.answer_lines.specs.State.{notice_line}
use Rattle.answer_lines.proofs.Beginnings.{whole_begins}
use Rattle.answer_lines.proofs.PrintLemmas.{are_lines, rows_all, rows_begin, rows_more}
use Rattle.answer_lines.proofs.state.write_notices.Goals as goal

pub loop-notice-init : goal.loop-notice-init
loop-notice-init g c = Appends-nil (g.W.Write.contents c.args.out.now)

pub loop-notice-preserved : goal.loop-notice-preserved
loop-notice-preserved g c =
    rows_more _ _ (are_lines notice_key notice_value notice_line) (g.W.Write.contents c.args.out.now) (g.W.Write.contents c.loop-notice.out) (g.W.Write.contents c.write_line.new.out) c.args.notices.now c.loop-notice.notice-index c.notice-item.result (omega arith) c.notice-item.is
    c.loop-notice.invariant c.in_ok-write_line.ensures.whole

pub returns-in_err-write_line-clause-begun : goal.returns-in_err-write_line-clause-begun
returns-in_err-write_line-clause-begun g c =
    rows_begin _ _ (are_lines notice_key notice_value notice_line) (g.W.Write.contents c.args.out.now) (g.W.Write.contents c.loop-notice.out) (g.W.Write.contents c.write_line.new.out) c.args.notices.now c.loop-notice.notice-index c.notice-item.result (omega arith) c.notice-item.is
    c.loop-notice.invariant c.write_line.ensures.begun

pub returns-clause-whole : goal.returns-clause-whole
returns-clause-whole g c = rows_all _ _ (are_lines notice_key notice_value notice_line) (g.W.Write.contents c.args.out.now) (g.W.Write.contents c.loop-notice.out) c.args.notices.now c.loop-notice.notice-index (omega arith) c.loop-notice.invariant

pub returns-clause-begun : goal.returns-clause-begun
returns-clause-begun g c = whole_begins _ _ _ (returns-clause-whole g c)
