use Rattle.std.proofs.Common.{◌<◌, ap, arith, length, rules, subst, sym}
use Rattle.deposit_verify.specs.References.{IsKeyIn, column}
use Rattle.deposit_verify.specs.Tables.{table_of}
use Rattle.deposit_verify.proofs.BreachLemmas.{same_in}
use Rattle.deposit_verify.proofs.Columns.{column_at, column_holds, column_whole}
use Rattle.deposit_verify.proofs.references.are_keys.Goals as goal

pub loop-i-preserved : goal.loop-i-preserved
loop-i-preserved c =
    let rows = table_of c.args.tables.now c.args.name in
    let Is = IsKeyIn c.args.may_be_empty (column 0 (table_of c.args.tables.now c.args.of)) in
    let inside : c.loop-i.i < length rows = omega (arith, c.loop-i-test.true, c.len-i-end.ensures, ap length c.table-rows.ensures) in
    let here = rw c.table-rows.ensures at c.field.ensures in
    column_holds Is c.args.column rows c.loop-i.i inside c.loop-i.invariant
    (subst Is here ((same_in c.args.may_be_empty _ _ _ (c.requires.keys.same _)).0 (c.is_key_in.ensures.0 c.if-not-is_key_in.false)))

pub returns-then-not-is_key_in : goal.returns-then-not-is_key_in
returns-then-not-is_key_in c =
    let rows = table_of c.args.tables.now c.args.name in
    let Is = IsKeyIn c.args.may_be_empty (column 0 (table_of c.args.tables.now c.args.of)) in
    let inside : c.loop-i.i < length rows = omega (arith, c.loop-i-test.true, c.len-i-end.ensures, ap length c.table-rows.ensures) in
    let here = rw c.table-rows.ensures at c.field.ensures in (
      λ e. cc e,
      λ all.
          let there = subst Is (sym here) (column_at Is c.args.column rows c.loop-i.i inside all) in
          cc (c.is_key_in.ensures.1 ((same_in c.args.may_be_empty _ _ _ (c.requires.keys.same _)).1 there), c.if-not-is_key_in.true),
    )

pub returns : goal.returns
returns c =
    let rows = table_of c.args.tables.now c.args.name in
    let Is = IsKeyIn c.args.may_be_empty (column 0 (table_of c.args.tables.now c.args.of)) in (
      λ _. column_whole Is c.args.column rows c.loop-i.i (omega (arith, c.loop-i-test.false, c.len-i-end.ensures, ap length c.table-rows.ensures)) c.loop-i.invariant,
      λ _. search rules,
    )
