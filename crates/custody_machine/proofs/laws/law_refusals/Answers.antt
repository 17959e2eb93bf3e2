use Rattle.custody_machine.proofs.Accepting.{tests_are_in_order}
use Rattle.custody_machine.proofs.laws.law_refusals.Goals as goal

pub returns : goal.returns
returns c = tests_are_in_order
