use Rattle.std.proofs.Common.{ap, ◌∙◌}
use Rattle.custody_records.specs.Keys.{text_cmp}
use Rattle.custody_records.specs.Tables.{table_map}
use Rattle.custody_records.specs.TypedRecords.{hold_key, hold_value}
use Rattle.custody_records.proofs.TableLemmas.{empty_table}
use Rattle.plain_machine.proofs.holds.PlainHolds.new.Goals as goal

pub returns : goal.returns
returns c = ap (table_map text_cmp hold_key hold_value) c.new.ensures.items ∙ empty_table text_cmp hold_key hold_value
