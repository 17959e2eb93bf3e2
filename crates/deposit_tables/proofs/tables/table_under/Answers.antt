use Rattle.std.proofs.Common.{◌<◌, ◌∙◌, [], ap, arith, length, rules, sym}
use denote.Enum.Bare.{same_false, same_true}
use Rattle.std.proofs.lemmas.List.{get_or_default}
use Rattle.deposit_name.specs.contracts.table.TableName.{the_type}
use Rattle.deposit_verify.specs.Places.{table_place}
use Rattle.deposit_verify.specs.Rows.{rows_under}
use Rattle.deposit_verify.proofs.HeaderDecided.{same_place}
use Rattle.deposit_verify.proofs.NamedRows.{found_under, none_under, not_under}
use Rattle.deposit_tables.proofs.RenewedKeys.{nil_column}
use Rattle.deposit_tables.proofs.tables.table_under.Goals as goal

pub returns-then-eq : goal.returns-then-eq
returns-then-eq c =
    let tables = c.args.tables.now in
    let inside : c.loop-i.i < length tables = omega (arith, c.loop-i-test.true, c.requires.count) in
    c.index-tables-i.is ∙ get_or_default tables c.loop-i.i c.index-tables-i.result [] inside
    ∙ found_under c.args.entries.now tables c.args.name c.loop-i.i _ c.loop-i-test.true inside c.loop-i.invariant
    (ap table_place (same_true the_type (search rules) _ _ (sym c.eq.ensures ∙ c.if-eq.true)))

pub loop-i-preserved : goal.loop-i-preserved
loop-i-preserved c =
    not_under c.args.entries.now c.args.tables.now c.args.name c.loop-i.i _ c.loop-i-test.true (omega (arith, c.loop-i-test.true, c.requires.count)) c.loop-i.invariant
    (λ same. same_false the_type _ _ (sym c.eq.ensures ∙ c.if-eq.false) (same_place _ _ same))

pub returns : goal.returns
returns c =
    let entries = c.args.entries.now in
    let tables = c.args.tables.now in
    c.requires.none ∙ sym (nil_column (rows_under entries tables c.args.name) (none_under entries tables c.args.name c.loop-i.i c.loop-i-test.false c.loop-i.invariant))
