use Rattle.std.proofs.Common.{ℕ, length}
use Rattle.std.specs.Prelude.{IsTrue}
use Rattle.std.specs.List.{list_all}
use Rattle.vault_volume.specs.Memory.{fits_in, is_buffer}
use Rattle.vault_volume.proofs.memory.recycle.Given as goal

abbrev pub invariant-loop-call : goal.invariant-loop-call
invariant-loop-call l = (size : ℕ) → IsTrue (list_all (fits_in size) l.fn.calls.items) → IsTrue (list_all (is_buffer size) l.fn.spare.items)
    → IsTrue (list_all (fits_in size) l.calls.items) × IsTrue (list_all (is_buffer size) l.spare.items)

abbrev pub decreases-loop-call : goal.decreases-loop-call
decreases-loop-call l = length l.calls.items
