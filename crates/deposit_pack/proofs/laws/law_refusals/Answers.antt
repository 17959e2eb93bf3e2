use Rattle.deposit_pack.proofs.Refusals.{refusals}
use Rattle.deposit_pack.proofs.laws.law_refusals.Goals as goal

pub returns : goal.returns
returns c = refusals
