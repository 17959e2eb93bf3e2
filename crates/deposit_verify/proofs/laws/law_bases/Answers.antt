use Rattle.deposit_verify.proofs.BaseLemmas.{are_bases}
use Rattle.deposit_verify.proofs.laws.law_bases.Goals as goal

pub returns : goal.returns
returns c = are_bases c.law_reading.ensures.readers c.law_reading.ensures.tables c.law_reading.ensures.one
