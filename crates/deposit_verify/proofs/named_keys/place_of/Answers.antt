use Rattle.std.proofs.Common.{ap, arith, rules, sym, ◌∙◌}
use denote.Enum.Bare.{same_false, same_true}
use Rattle.deposit_name.specs.contracts.table.TableName.{the_type}
use Rattle.deposit_verify.specs.Places.{table_place}
use Rattle.deposit_verify.proofs.HeaderDecided.{same_place}
use Rattle.deposit_verify.proofs.NamedRows.{found_under, none_under, not_under}
use Rattle.deposit_verify.proofs.named_keys.place_of.Goals as goal

pub returns-then-eq-clause-found : goal.returns-then-eq-clause-found
returns-then-eq-clause-found c = λ tables count.
    found_under c.args.entries.now tables c.args.name c.loop-i.i _ c.loop-i-test.true (omega (arith, c.loop-i-test.true, count)) (c.loop-i.invariant tables count)
    (ap table_place (same_true the_type (search rules) _ _ (sym c.eq.ensures ∙ c.if-eq.true)))

pub loop-i-preserved : goal.loop-i-preserved
loop-i-preserved c = λ tables count.
    not_under c.args.entries.now tables c.args.name c.loop-i.i _ c.loop-i-test.true (omega (arith, c.loop-i-test.true, count)) (c.loop-i.invariant tables count)
    (λ same. same_false the_type _ _ (sym c.eq.ensures ∙ c.if-eq.false) (same_place _ _ same))

pub returns-clause-none : goal.returns-clause-none
returns-clause-none c = λ tables count. none_under c.args.entries.now tables c.args.name c.loop-i.i c.loop-i-test.false (c.loop-i.invariant tables count)
