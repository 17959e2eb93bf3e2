use Rattle.deposit_tables.proofs.Passed.{passed_restored}
use Rattle.deposit_tables.proofs.laws.law_passed.Goals as goal

pub returns : goal.returns
returns c = passed_restored c.law_table_reader.ensures (record { envelope = c.law_one_reading.ensures.envelope; frame = c.law_one_reading.ensures.frame }) c.law_pass.ensures
