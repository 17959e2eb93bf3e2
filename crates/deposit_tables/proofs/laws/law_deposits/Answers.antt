use Rattle.deposit_tables.proofs.Deposited.{deposits_restored}
use Rattle.deposit_tables.proofs.laws.law_deposits.Goals as goal

pub returns : goal.returns
returns c = deposits_restored c.law_table_reader.ensures (record { envelope = c.law_one_reading.ensures.envelope; frame = c.law_one_reading.ensures.frame })
