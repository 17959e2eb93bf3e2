use Rattle.std.proofs.Common.{◌≡◌, ℕ, ◌<◌, ◌≤◌, ◌⊎◌, get_or}
use Rattle.vault_volume.proofs.memory.leave_unsettled.Given as goal

abbrev pub invariant-loop-i : goal.invariant-loop-i
invariant-loop-i l = record {
  filled : (k : ℕ) → k < l.i → 1 ≤ get_or l.opened k 0 → get_or l.image k 0 ≡ get_or l.fill k 0;
  elsewhere : (k : ℕ) → (get_or l.opened k 0 ≡ 0) ⊎ (l.i ≤ k) → get_or l.image k 0 ≡ get_or l.initial.image k 0;
}
