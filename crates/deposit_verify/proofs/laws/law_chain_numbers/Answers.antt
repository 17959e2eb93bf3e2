use Rattle.deposit_verify.proofs.NumberLemmas.{chain_numbers}
use Rattle.deposit_verify.proofs.laws.law_chain_numbers.Goals as goal

pub returns : goal.returns
returns c = chain_numbers c.law_reading.ensures.tables c.law_reading.ensures.one
