use Rattle.std.proofs.Common.{◌≡◌, ℕ, ◌<◌, ◌≤◌, ◌⊎◌, get_or}
use Rattle.vault_volume.proofs.memory.unsettle_at.Given as goal

abbrev pub invariant-loop-i : goal.invariant-loop-i
invariant-loop-i l = record {
  each : (k : ℕ) → (get_or l.opened k 0 ≡ get_or l.initial.opened k 0) ⊎ ((get_or l.initial.opened k 0 ≡ 0) × (get_or l.opened k 0 ≡ l.number) × (l.at ≤ k) × (k < l.i));
  inside : (k : ℕ) → l.at ≤ k → k < l.i → 1 ≤ get_or l.opened k 0;
}
