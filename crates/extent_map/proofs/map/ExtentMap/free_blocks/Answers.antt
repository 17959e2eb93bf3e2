use Rattle.std.proofs.Common.{sym, subst}
use Rattle.extent_map.specs.Extents.{HasCount}
use Rattle.extent_map.specs.Map.{IsFree}
use Rattle.extent_map.proofs.BitLemmas.{has_count}
use Rattle.extent_map.proofs.map.ExtentMap.free_blocks.Goals as goal

pub returns : goal.returns
unfolding IsFree
returns c =
    let map = c.args.self.now in
    subst (HasCount (IsFree map) map.blocks) (sym map.counted) (has_count map.words.items map.blocks)
