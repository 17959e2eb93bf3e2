use Rattle.std.proofs.Common.{subst, sym}
use Rattle.deposit_verify.specs.Checks.{IsVerdict}
use Rattle.deposit_verify.specs.declared.verdict.Verdict.TheVariants.{Pass}
use Rattle.deposit_verify.proofs.laws.law_pass.Goals as goal

pub returns : goal.returns
returns c = λ joined known.
    let law = c.law_verdict.ensures in
    (λ passes. subst (IsVerdict joined known) passes (law.least joined known), λ all. sym (law.only joined known Pass all))
