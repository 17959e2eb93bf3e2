use Rattle.std.proofs.Common.{◌<◌, List, arith, length, subst, sym}
use Rattle.std.proofs.lemmas.List.{take_all, take_more}
use Rattle.deposit_verify.specs.Tables.{table_of}
use Rattle.deposit_verify.specs.TablesReasons.{reference_rules}
use Rattle.deposit_verify.specs.declared.breaches.Rule.{Rule}
use Rattle.deposit_verify.specs.inside.Reasons.{IsFirstFound}
use Rattle.deposit_verify.proofs.BreachLemmas.{rule_columns}
use Rattle.deposit_verify.proofs.breaches.first_breach.Goals as goal

pub breach_of-requires-clause-column : goal.breach_of-requires-clause-column
breach_of-requires-clause-column c = rule_columns c.loop-rule.rule-index _ (omega (arith, c.loop-rule-test.true))

pub loop-rule-preserved : goal.loop-rule-preserved
loop-rule-preserved c =
    let T = table_of c.args.tables.now in
    let inside : c.loop-rule.rule-index < length reference_rules = omega (arith, c.loop-rule-test.true) in
    subst (λ (rs : List Rule). IsFirstFound T rs c.earlier-first.result) (sym (take_more reference_rules c.loop-rule.rule-index _ inside))
    (c.earlier-first.ensures T _ _ c.loop-rule.invariant c.in_ok-breach_of.ensures)

pub returns : goal.returns
returns c =
    subst (λ (rs : List Rule). IsFirstFound (table_of c.args.tables.now) rs c.loop-rule.first)
    (take_all c.loop-rule.rule-index reference_rules (omega (arith, c.loop-rule-test.false)))
    c.loop-rule.invariant
