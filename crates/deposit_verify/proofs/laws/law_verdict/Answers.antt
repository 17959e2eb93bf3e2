use Rattle.deposit_verify.proofs.LeastVerdict.{verdict_is}
use Rattle.deposit_verify.proofs.Verdicts.{one_least}
use Rattle.deposit_verify.proofs.laws.law_verdict.Goals as goal

pub returns : goal.returns
returns c =
    let laws = c.law_reading.ensures in
    let is = verdict_is laws.readers laws.tables laws.one c.law_one_text.ensures.reading in
    record { least = is; only = λ joined known v p. one_least _ v _ p (is joined known) }
