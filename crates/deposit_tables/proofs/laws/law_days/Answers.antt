use Rattle.deposit_tables.proofs.DaysRestored.{days_restored}
use Rattle.deposit_tables.proofs.laws.law_days.Goals as goal

pub returns : goal.returns
returns c = days_restored c.law_table_reader.ensures (record { envelope = c.law_one_reading.ensures.envelope; frame = c.law_one_reading.ensures.frame }) c.law_pass.ensures
