use Rattle.deposit_verify.proofs.BreachLemmas.{rules_of_references}
use Rattle.deposit_verify.proofs.laws.law_reference_rules.Goals as goal

pub returns : goal.returns
returns c = rules_of_references
