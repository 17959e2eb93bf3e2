use Rattle.std.proofs.Common.{◌≡◌, drop}
use Rattle.deposit_verify.specs.Rows.{rows_under}
use Rattle.deposit_tables.proofs.tables.table_under.Given as goal

abbrev pub invariant-loop-i : goal.invariant-loop-i
invariant-loop-i l = rows_under (drop l.i l.entries) (drop l.i l.tables) l.name ≡ rows_under l.entries l.tables l.name
