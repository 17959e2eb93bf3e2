use Rattle.deposit_verify.specs.Tables.{table_of}
use Rattle.deposit_verify.proofs.BreachLemmas.{found_decides}
use Rattle.deposit_verify.proofs.Lifted.{if_ok}
use Rattle.deposit_verify.proofs.counts.missing_key.Goals as goal

pub returns : goal.returns
returns c = if_ok c.first_no_key.result _ _ c.first_no_key.ensures (found_decides (table_of c.args.tables.now))
