use Rattle.std.proofs.Common.{◌≡◌, length}
use Rattle.custody_records.specs.RegistryRows.{rows_left}
use Rattle.custody_records.proofs.registry_rows.AllRowsIterator.next.Given as goal

-- only registries without a row were passed over
abbrev pub invariant-loop-first : goal.invariant-loop-first
invariant-loop-first g l = rows_left l.fn.self ≡ rows_left l.self

abbrev pub decreases-loop-first : goal.decreases-loop-first
decreases-loop-first g l = length l.self.others.now
