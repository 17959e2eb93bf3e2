use Rattle.custody_machine.proofs.Accepted.{custody_lives}
use Rattle.custody_machine.proofs.laws.law_accepted.Goals as goal

pub returns : goal.returns
returns c = custody_lives c.law_verdict.ensures
