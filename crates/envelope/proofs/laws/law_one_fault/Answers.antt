use Rattle.envelope.proofs.OneFault.{one_fault}
use Rattle.envelope.proofs.laws.law_one_fault.Goals as goal

pub returns : goal.returns
returns c = one_fault
