use Rattle.std.proofs.Common.{◌∷◌, ◌∙◌, arith, map, subst, sym}
use Rattle.deposit_verify.specs.Chain.{IsChain}
use Rattle.deposit_verify.specs.Tables.{table_of}
use Rattle.deposit_tables.specs.Restored.{AreTablesOf}
use Rattle.deposit_tables.proofs.ChainTables.{first_and_later, sorted_restored}
use Rattle.deposit_tables.proofs.restoring.restore.Goals as goal

pub returns-in-Some-clause-restored : goal.returns-in-Some-clause-restored
returns-in-Some-clause-restored c =
    let parted = first_and_later c.args.chain.items c.deref.result.now c.remove-first.result (omega (arith, c.remove-first.ensures.len)) c.remove-first.ensures.value (c.deref.ensures.value ∙ c.remove-first.ensures.by_index.2) in
    let chain = c.remove-first.result.items ∷ map (λ d. d.items) c.deref.result.now in
    let tables = table_of c.in_ok-sorted_tables-in-Some.field-0.items in
    subst (λ (ds : _). AreTablesOf ds tables) (sym parted)
    (sorted_restored chain (table_of c.in-Some.tables.items) tables
    (rw c.in-Some.is at c.in_ok-tables.ensures.chained) (rw c.in-Some.is at c.in_ok-tables.ensures.rows) c.in_ok-sorted_tables-in-Some.ensures.sorted)

pub returns-clause-restored : goal.returns-clause-restored
returns-clause-restored c =
    let parted = first_and_later c.args.chain.items c.deref.result.now c.remove-first.result (omega (arith, c.remove-first.ensures.len)) c.remove-first.ensures.value (c.deref.ensures.value ∙ c.remove-first.ensures.by_index.2) in
    let none = rw c.in-None.is at c.in_ok-tables.ensures.chained in
    λ is. none (subst IsChain parted is)
