use Rattle.std.proofs.Common.{◌∙◌, sym}
use Rattle.deposit_verify.proofs.MenuLemmas.{copied_at}
use Rattle.deposit_verify.proofs.menu.first_other_uri.Goals as goal

pub returns-then-not-is_same_uri : goal.returns-then-not-is_same_uri
returns-then-not-is_same_uri c = (
  c.loop-place.invariant,
  λ same. let is = c.is_same_uri.ensures.1 (c.copied.ensures ∙ copied_at c.args.uris.now c.loop-place.place c.get.result c.get.ensures.lookup ∙ same ∙ sym c.wanted_uri.ensures) in cc (is, c.if-not-is_same_uri.true),
)
