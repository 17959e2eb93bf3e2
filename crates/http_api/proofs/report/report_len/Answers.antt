use Rattle.std.proofs.Common.{ap, arith, length}
use Rattle.std.proofs.lemmas.List.Folds.{length-flat_map-take}
use Rattle.deposit_name.proofs.PiecesLemmas.{if_none_from}
use Rattle.desk.specs.Lines.{line}
use Rattle.http_api.proofs.report.report_len.Goals as goal

pub returns-in_err-total-clause-none : goal.returns-in_err-total-clause-none
returns-in_err-total-clause-none c =
    let within = length-flat_map-take line c.args.notices.now c.loop-notice.notice-index c.notice-item.result c.loop-notice-test.true in
    let own = ap (λ n. length (line n)) c.notice-item.is in
    if_none_from c.from_residual.result (omega (arith, within, own, c.loop-notice.invariant, c.len.ensures.value, ap length c.write_line.ensures.text, c.in_err-total.ensures))
