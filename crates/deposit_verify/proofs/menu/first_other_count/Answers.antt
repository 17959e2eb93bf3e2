use Rattle.std.proofs.Common.{◌∙◌, map, sym}
use Rattle.deposit_verify.specs.Checks.{counted_uris}
use Rattle.deposit_verify.proofs.MenuLemmas.{same_place_more}
use Rattle.deposit_verify.proofs.menu.first_other_count.Goals as goal

pub returns-then-not-is_same_uri : goal.returns-then-not-is_same_uri
returns-then-not-is_same_uri c = (
  c.loop-place.invariant,
  λ same. let is = c.is_same_uri.ensures.1 (c.counted_at.ensures ∙ same ∙ sym c.wanted_count.ensures) in cc (is, c.if-not-is_same_uri.true),
)

pub loop-place-preserved : goal.loop-place-preserved
loop-place-preserved c =
    same_place_more (map (λ x. x.uri) c.args.counts.now) counted_uris c.loop-place.place c.loop-place.invariant
    (sym c.counted_at.ensures ∙ c.is_same_uri.ensures.0 c.if-not-is_same_uri.false ∙ c.wanted_count.ensures)
