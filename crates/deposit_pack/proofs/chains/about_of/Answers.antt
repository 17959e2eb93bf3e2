use Rattle.std.proofs.Common.{◌≡◌, ◌∙◌}
use Rattle.std.specs.Prelude.{slice_get}
use Rattle.deposit_pack.specs.Chains.{last_id}
use Rattle.deposit_pack.proofs.ChainSteps.{last_is}
use Rattle.deposit_pack.proofs.chains.about_of.Goals as goal

pub returns-in-Some : goal.returns-in-Some
returns-in-Some c =
    let ids = c.in-Some.field-0.ids.items in
    let latest : c.copied.result ≡ last_id ids = c.copied.ensures ∙ rw c.deref.ensures.value at c.last.ensures.value ∙ last_is ids in
    let full : c.copied-in-Some.result ≡ slice_get ids 0 = c.copied-in-Some.ensures ∙ rw c.deref-in-Some.ensures.value at c.first.ensures.value in
    rw c.in-Some.is (cc)
