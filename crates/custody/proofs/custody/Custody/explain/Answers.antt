use Rattle.std.proofs.Common.{sym, refl}
use Rattle.custody.proofs.ExplainLemmas.{has_explained}
use Rattle.custody.proofs.custody.Custody.explain.Goals as goal

pub returns : goal.returns
returns g c =
    let told = c.explain_failure-answer.ensures in
    has_explained c.args.self.now _ (sym c.if-not-is_open.ensures) refl refl told.read c.args.tld.now c.args.day c.args.rev c.explain_failure-answer.result c.closing_failure-self.ensures told.decided told.explained told.failed told.not_failed
