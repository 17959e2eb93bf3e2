use Rattle.std.proofs.Common.{◌∙◌, ap}
use Rattle.deposit_verify.specs.declared.verdict.Verdict.TheVariants.{Fail}
use Rattle.deposit_verify.specs.Known.{known_in}
use Rattle.deposit_verify.proofs.verification.verify.Goals as goal

pub returns-in-Some-clause-computed : goal.returns-in-Some-clause-computed
returns-in-Some-clause-computed c = ap Fail c.check.ensures ∙ c.law_verdict.ensures.only c.args.joined.now (known_in c.args.about.now) _ (rw c.in-Some.is at c.in_ok-reason.ensures.verdict)
