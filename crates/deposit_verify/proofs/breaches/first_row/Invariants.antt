use Rattle.std.proofs.Common.{◌<◌, ℕ}
use Rattle.deposit_verify.specs.Tables.{table_of}
use Rattle.deposit_verify.specs.TablesReasons.{IsKeptAt}
use Rattle.deposit_verify.proofs.breaches.first_row.Given as goal

abbrev pub invariant-loop-i : goal.invariant-loop-i
invariant-loop-i l = (k : ℕ) → k < l.i → IsKeptAt (table_of l.tables) l.rule k
