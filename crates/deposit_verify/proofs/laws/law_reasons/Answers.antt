use Rattle.std.proofs.Common.{sym}
use Rattle.deposit_verify.specs.declared.verdict.Verdict.TheVariants.{Fail}
use Rattle.deposit_verify.specs.Reasons.{reason_check}
use Rattle.deposit_verify.proofs.laws.law_reasons.Goals as goal

pub returns : goal.returns
returns c = λ joined k reason is. sym (c.law_verdict.ensures.only joined k (Fail (reason_check reason)) is.fails)
