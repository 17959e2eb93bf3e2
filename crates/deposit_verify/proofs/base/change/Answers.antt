use Rattle.std.proofs.Common.{◌∙◌}
use Rattle.deposit_verify.proofs.Lifted.{on_ok}
use Rattle.deposit_verify.proofs.base.change.Goals as goal

pub returns : goal.returns
returns c = on_ok c.change.result (rw (c.deref.ensures.value, c.deref-2.ensures.value) at c.change.ensures) (λ e. e ∙ c.in_ok-found.ensures.after c.args.keys.now)
