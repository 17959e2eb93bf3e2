use Rattle.std.proofs.Common.{sym, subst, arith}
use Rattle.extent_map.specs.Extents.{HasCount}
use Rattle.extent_map.specs.Map.{IsFree}
use Rattle.extent_map.proofs.BitLemmas.{has_count}
use Rattle.extent_map.proofs.map.ExtentMap.place_all.Goals as goal

pub returns-then-self-count-clause-none : goal.returns-then-self-count-clause-none
unfolding IsFree
returns-then-self-count-clause-none c =
    let map = c.args.self.now in
    (map.free, subst (HasCount (IsFree map) map.blocks) (sym map.counted) (has_count map.words.items map.blocks), c.if-self-count.true)

pub returns-clause-enough : goal.returns-clause-enough
unfolding IsFree
returns-clause-enough c =
    let map = c.args.self.now in
    (map.free, subst (HasCount (IsFree map) map.blocks) (sym map.counted) (has_count map.words.items map.blocks), omega (arith, c.if-self-count.false))
