use Rattle.deposit_tables.proofs.RestoredForm.{restored}
use Rattle.deposit_tables.proofs.laws.law_restored.Goals as goal

pub returns : goal.returns
returns c = restored c.law_table_reader.ensures (record { envelope = c.law_one_reading.ensures.envelope; frame = c.law_one_reading.ensures.frame })
