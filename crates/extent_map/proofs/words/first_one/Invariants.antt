use Rattle.std.proofs.Common.{◌≡◌, ℕ, ◌*◌, ◌<◌, ◌≤◌}
use Rattle.extent_map.specs.Words.{bit}
use Rattle.extent_map.proofs.words.first_one.Given as goal

abbrev pub invariant-loop-at : goal.invariant-loop-at
invariant-loop-at l = (b : ℕ) → l.from ≤ b → b < 64 * l.at → bit l.words b ≡ 0
