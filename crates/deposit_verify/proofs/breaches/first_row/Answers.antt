use Rattle.std.proofs.Common.{arith, ap, length, subst, sym}
use Rattle.deposit_verify.specs.References.{IsKeyIn, column}
use Rattle.deposit_verify.specs.Tables.{table_of}
use Rattle.deposit_verify.specs.TablesReasons.{IsKeptAt}
use Rattle.deposit_verify.proofs.BreachLemmas.{same_in}
use Rattle.deposit_verify.proofs.Lists.{below_next}
use Rattle.deposit_verify.proofs.breaches.first_row.Goals as goal

pub loop-i-preserved : goal.loop-i-preserved
loop-i-preserved c =
    let r = c.args.rule in
    let Is = IsKeyIn r.may_be_empty (column 0 (table_of c.args.tables.now r.of)) in
    let here = rw c.table-rows.ensures at c.field.ensures in
    below_next (IsKeptAt (table_of c.args.tables.now) r) c.loop-i.i c.loop-i.invariant
    (subst Is here ((same_in r.may_be_empty _ _ _ (c.requires.keys.same _)).0 (c.is_key_in.ensures.0 c.if-not-is_key_in.false)))

pub returns-then-not-is_key_in : goal.returns-then-not-is_key_in
returns-then-not-is_key_in c =
    let r = c.args.rule in
    let rows = table_of c.args.tables.now r.table in
    let Is = IsKeyIn r.may_be_empty (column 0 (table_of c.args.tables.now r.of)) in
    let here = rw c.table-rows.ensures at c.field.ensures in
    record {
      inside = omega (arith, c.loop-i-test.true, c.len-i-end.ensures, ap length c.table-rows.ensures);
      broken = λ kept. cc (c.is_key_in.ensures.1 ((same_in r.may_be_empty _ _ _ (c.requires.keys.same _)).1 (subst Is (sym here) kept)), c.if-not-is_key_in.true);
      before = c.loop-i.invariant;
    }
