use Rattle.deposit_tables.proofs.Computed.{tables_are}
use Rattle.deposit_tables.proofs.laws.law_tables.Goals as goal

pub returns : goal.returns
returns c = tables_are c.law_readers.ensures c.law_table_reader.ensures (record { envelope = c.law_one_reading.ensures.envelope; frame = c.law_one_reading.ensures.frame })
