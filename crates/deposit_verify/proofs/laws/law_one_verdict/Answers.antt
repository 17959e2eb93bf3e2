use Rattle.deposit_verify.proofs.Verdicts.{one_least}
use Rattle.deposit_verify.proofs.laws.law_one_verdict.Goals as goal

pub returns : goal.returns
returns c = λ joined k v w p q. one_least _ v w p q
