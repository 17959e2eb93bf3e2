use Rattle.std.proofs.Common.{ap, sym, ◌∙◌}
use Rattle.extent_map.specs.Words.{bit}
use Rattle.extent_map.proofs.BitLemmas.{never_both, no_ones_below}
use Rattle.extent_map.proofs.SetLemmas.{zero_words}
use Rattle.extent_map.specs.Map.{IsFree}
use Rattle.extent_map.proofs.map.ExtentMap.all_used.Goals as goal

pub invariant_of-result-clause-in_range : goal.invariant_of-result-clause-in_range
unfolding IsFree
invariant_of-result-clause-in_range c = λ b is. absurd (never_both (ap (λ l. bit l b) (c.in-Ok.ensures.items_if_clones_equal (λ y e. e)) ∙ zero_words _ b) is)

pub invariant_of-result-clause-counted : goal.invariant_of-result-clause-counted
unfolding IsFree
invariant_of-result-clause-counted c = sym (no_ones_below _ _ (λ b. ap (λ l. bit l b) (c.in-Ok.ensures.items_if_clones_equal (λ y e. e)) ∙ zero_words _ b))
