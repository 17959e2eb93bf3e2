use Rattle.std.proofs.Common.{◌∙◌, refl, sym, ap}
use Rattle.custody.specs.Fetching.{answered_bytes}
use Rattle.custody.proofs.FetchLemmas.{has_fetched, told_err}
use Rattle.custody.proofs.OpenCustodyLemmas.{err_is}
use Rattle.custody.proofs.custody.Custody.fetch.Goals as goal

pub returns-in_err-out-clause-fetched : goal.returns-in_err-out-clause-fetched
returns-in_err-out-clause-fetched g c =
    let read = c.fetch_part-answer.ensures in
    has_fetched c.args.self.now _ (sym c.if-not-is_open.ensures) refl refl read.read c.args.reference.now c.args.name.now c.fetch_part-answer.result c.closing_failure-self.ensures read.decided read.fetched read.failed read.not_failed _
    (told_err c.from_residual.result _ _ (err_is c.from_residual.result _ c.from_residual.ensures.1) ∙ sym (ap answered_bytes c.in_err-out.was))

pub returns-clause-fetched : goal.returns-clause-fetched
returns-clause-fetched g c =
    let read = c.fetch_part-answer.ensures in
    has_fetched c.args.self.now _ (sym c.if-not-is_open.ensures) refl refl read.read c.args.reference.now c.args.name.now c.fetch_part-answer.result c.closing_failure-self.ensures read.decided read.fetched read.failed read.not_failed _
    (sym (ap answered_bytes c.in_ok-out.was))
