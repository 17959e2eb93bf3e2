use Rattle.std.proofs.Common.{List, ℕ, ◌∙◌, ap, subst}
use Rattle.std.specs.Io.KnownBytes.{Appends}
use Rattle.desk.specs.Lines.{AppendsBeginning, line}
use Rattle.desk.proofs.ReportLemmas.{on_err, report_begins, report_more}
use Rattle.desk.proofs.reports.report.Goals as goal

pub loop-notice-preserved : goal.loop-notice-preserved
loop-notice-preserved g c =
    let mid = g.W.Write.contents c.loop-notice.out in
    let new = g.W.Write.contents c.write_bytes.new.out in
    let text = c.deref.ensures.0 ∙ c.write_line.ensures.text ∙ ap line c.notice-item.is in
    report_more (g.W.Write.contents c.args.out.now) mid new c.args.notices.now c.loop-notice.notice-index c.notice-item.result c.loop-notice-test.true c.loop-notice.invariant
    (subst (λ (t : List ℕ). Appends mid new t) text c.in_ok-write_bytes.ensures.whole)

pub returns-in_err-write_bytes-clause-begun : goal.returns-in_err-write_bytes-clause-begun
returns-in_err-write_bytes-clause-begun g c =
    let mid = g.W.Write.contents c.loop-notice.out in
    let new = g.W.Write.contents c.write_bytes.new.out in
    let text = c.deref.ensures.0 ∙ c.write_line.ensures.text ∙ ap line c.notice-item.is in
    on_err c.from_residual.result _ (report_begins (g.W.Write.contents c.args.out.now) mid new c.args.notices.now c.loop-notice.notice-index c.notice-item.result c.loop-notice-test.true c.loop-notice.invariant
    (subst (λ (t : List ℕ). AppendsBeginning mid new t) text c.in_err-write_bytes.ensures.begun))
