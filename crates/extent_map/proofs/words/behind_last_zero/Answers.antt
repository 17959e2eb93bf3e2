use Rattle.std.proofs.Common.{◌≡◌, ◌-◌, ◌≤◌, subst, sym}
use Rattle.std.specs.Int.{bit_at}
use Rattle.extent_map.proofs.BitLemmas.{last_zero}
use Rattle.extent_map.proofs.words.behind_last_zero.Goals as goal

pub returns-clause-zero : goal.returns-clause-zero
returns-clause-zero c = subst (λ k. 1 ≤ 64 - k → bit_at c.args.word (64 - k - 1) ≡ 0) (sym c.leading_ones.ensures) (last_zero c.args.word c.ranges.word.fits)
