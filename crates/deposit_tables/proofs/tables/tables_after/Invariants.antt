use Rattle.std.proofs.Common.{◌≡◌}
use Rattle.deposit_verify.specs.Tables.{table_of}
use Rattle.deposit_tables.specs.RowsAfter.{tables_after}
use Rattle.deposit_tables.specs.inside.Restoring.{reading_in}
use Rattle.deposit_tables.proofs.TablesTaken.{AreTaken}
use Rattle.deposit_tables.proofs.tables.tables_after.Given as goal

abbrev pub invariant-loop-place : goal.invariant-loop-place
invariant-loop-place l = AreTaken l.fn.before.items l.tables.items (λ name rows. rows ≡ tables_after (table_of l.fn.before.items) (reading_in l.whole) name) l.place
