use Rattle.std.proofs.Common.{sym, refl}
use Rattle.custody.proofs.PreviewLemmas.{has_previewed}
use Rattle.custody.proofs.custody.Custody.preview.Goals as goal

pub returns : goal.returns
returns g c =
    let told = c.preview_notice-answer.ensures in
    has_previewed c.args.self.now _ (sym c.if-not-is_open.ensures) refl refl told.read c.args.statement.now c.args.now c.preview_notice-answer.result c.closing_failure-self.ensures told.decided told.previewed told.failed told.not_failed
