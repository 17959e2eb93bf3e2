use Rattle.std.proofs.Common.{ap, ◌∙◌}
use Rattle.custody_records.specs.Keys.{notice_cmp}
use Rattle.custody_records.specs.Tables.{table_map}
use Rattle.custody_records.specs.TypedRecords.{notice_key, notice_value}
use Rattle.custody_records.proofs.TableLemmas.{empty_table}
use Rattle.plain_machine.proofs.notices.PlainNotices.new.Goals as goal

pub returns : goal.returns
returns c = ap (table_map notice_cmp notice_key notice_value) c.new.ensures.items ∙ empty_table notice_cmp notice_key notice_value
