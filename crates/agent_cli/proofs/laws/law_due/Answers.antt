use Rattle.agent_cli.proofs.DueLemmas.{due_is_checked}
use Rattle.agent_cli.proofs.SweepLemmas.{sweep_records_due}
use Rattle.agent_cli.proofs.laws.law_due.Goals as goal

pub returns-clause-checked : goal.returns-clause-checked
returns-clause-checked g c = due_is_checked

pub returns-clause-swept : goal.returns-clause-swept
returns-clause-swept g c = sweep_records_due c.args.old.now c.args.new.now
