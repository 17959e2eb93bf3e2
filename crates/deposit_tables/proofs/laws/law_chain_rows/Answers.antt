use Rattle.deposit_tables.proofs.ChainRows.{chain_rows}
use Rattle.deposit_tables.proofs.laws.law_chain_rows.Goals as goal

pub returns : goal.returns
returns c = chain_rows
