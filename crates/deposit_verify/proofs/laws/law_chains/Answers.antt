use Rattle.deposit_verify.proofs.ChainLemmas.{chain_keys}
use Rattle.deposit_verify.proofs.laws.law_chains.Goals as goal

pub returns : goal.returns
returns c = chain_keys
