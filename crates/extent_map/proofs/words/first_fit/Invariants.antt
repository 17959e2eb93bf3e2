use Rattle.std.proofs.Common.{ℕ, ◌-◌, ◌<◌}
use Rattle.extent_map.specs.Words.{IsOneIn}
use Rattle.extent_map.specs.Extents.{IsFreeRun}
use Rattle.extent_map.proofs.words.first_fit.Given as goal

abbrev pub invariant-loop-from : goal.invariant-loop-from
invariant-loop-from l = (start : ℕ) → start < l.from → ¬ IsFreeRun (IsOneIn l.words) start l.count

abbrev pub decreases-loop-from : goal.decreases-loop-from
decreases-loop-from l = l.end - l.from
