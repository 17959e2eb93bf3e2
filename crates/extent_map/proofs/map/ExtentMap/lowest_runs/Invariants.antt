use Rattle.extent_map.specs.Map.{size_of}
use Rattle.extent_map.proofs.RunLemmas.{IsCollected}
use Rattle.extent_map.proofs.map.ExtentMap.lowest_runs.Given as goal

abbrev pub invariant-loop-left : goal.invariant-loop-left
invariant-loop-left l = IsCollected l.self.words.items (size_of l.self) l.count l.runs.items l.left l.from

abbrev pub decreases-loop-left : goal.decreases-loop-left
decreases-loop-left l = l.left
