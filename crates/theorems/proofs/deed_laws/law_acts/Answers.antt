use Rattle.theorems.proofs.DeedLemmas.{deeds_are_calls, sweeps_are_checks}
use Rattle.theorems.proofs.ExampleDeeds.{deeds_happen}
use Rattle.theorems.proofs.deed_laws.law_acts.Goals as goal

pub returns-clause-calls : goal.returns-clause-calls
returns-clause-calls g c = deeds_are_calls c.args.old.now c.args.new.now

pub returns-clause-sweeps : goal.returns-clause-sweeps
returns-clause-sweeps g c = sweeps_are_checks c.args.old.now c.args.new.now

pub returns-clause-happen : goal.returns-clause-happen
returns-clause-happen g c = deeds_happen
