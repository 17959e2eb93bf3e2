use Rattle.std.proofs.Common.{◌≡◌, ℕ, List, map, take}
use Rattle.plain_machine.proofs.notice_kinds.ids_of.Given as goal

abbrev pub invariant-loop-one : goal.invariant-loop-one
invariant-loop-one l = l.ids.items ≡ map (λ (one : ℕ × List ℕ). one.1) (take l.one-index l.passed)
