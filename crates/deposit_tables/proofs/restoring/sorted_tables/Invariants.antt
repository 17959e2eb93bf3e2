use Rattle.std.proofs.Common.{length}
use Rattle.dnrd_csv.specs.Table.{HaveWidth, columns_of}
use Rattle.deposit_verify.specs.Tables.{table_of}
use Rattle.deposit_tables.specs.inside.Places.{AreSorted}
use Rattle.deposit_tables.proofs.TablesTaken.{AreTaken}
use Rattle.deposit_tables.proofs.restoring.sorted_tables.Given as goal

abbrev pub invariant-loop-place : goal.invariant-loop-place
invariant-loop-place l =
    AreTaken l.fn.tables.items l.sorted.items (λ name rows. HaveWidth (length (columns_of name)) rows × AreSorted (table_of l.fn.tables.items name) rows) l.place
