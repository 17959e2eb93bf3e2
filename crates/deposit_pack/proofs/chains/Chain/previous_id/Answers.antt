use Rattle.std.proofs.Common.{◌≡◌, ◌∙◌}
use Rattle.deposit_pack.specs.Chains.{last_id}
use Rattle.deposit_pack.proofs.ChainSteps.{last_is}
use Rattle.deposit_pack.proofs.chains.Chain.previous_id.Goals as goal

pub returns-in-Diff : goal.returns-in-Diff
returns-in-Diff c =
    let ids = c.args.self.now.ids.items in
    let last : c.copied.result ≡ last_id ids = c.copied.ensures ∙ rw c.deref.ensures.value at c.last.ensures.value ∙ last_is ids in
    rw c.in-Diff.is last
