use Rattle.custody_machine.proofs.Damages.{is_refinement}
use Rattle.custody_machine.proofs.laws.law_damage.Goals as goal

pub returns : goal.returns
returns c = is_refinement
