use Rattle.std.proofs.Common.{◌∷◌, [], arith}
use Rattle.deposit_verify.specs.Tables.{table_of}
use Rattle.deposit_tables.proofs.ChainTables.{sorted_restored}
use Rattle.deposit_tables.proofs.restoring.restore_full.Goals as goal

pub returns-in_ok-sorted_tables-in-Some-clause-restored : goal.returns-in_ok-sorted_tables-in-Some-clause-restored
returns-in_ok-sorted_tables-in-Some-clause-restored c =
    sorted_restored (c.args.joined.now ∷ []) (table_of c.in-Some.tables.items) (table_of c.in_ok-sorted_tables-in-Some.field-0.items)
    (rw c.in-Some.is at c.in_ok-tables.ensures.first, λ k d inside. absurd (omega (arith, inside))) (rw c.in-Some.is at c.in_ok-tables.ensures.rows) c.in_ok-sorted_tables-in-Some.ensures.sorted
