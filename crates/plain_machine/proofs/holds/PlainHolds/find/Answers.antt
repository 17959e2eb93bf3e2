use Rattle.std.proofs.Common.{sym, ap, ◌∙◌}
use Rattle.std.specs.Prelude.{option_map}
use Rattle.custody_records.specs.Keys.{text_cmp}
use Rattle.custody_records.specs.inside.Orders.{text_total}
use Rattle.custody_records.specs.TypedRecords.{hold_key, hold_value}
use Rattle.custody_records.proofs.TableLemmas.{absent_at, get_table}
use Rattle.plain_machine.proofs.HoldRows.{row_got, row_key}
use Rattle.plain_machine.proofs.holds.PlainHolds.find.Goals as goal

pub returns-in-Ok-clause-found : goal.returns-in-Ok-clause-found
returns-in-Ok-clause-found c = row_got c.args.self.now.rows.items c.args.self.now.rising c.args.sought.now c.in-Ok.place c.index.result.now c.in-Ok.ensures.range c.index.ensures c.in-Ok.ensures.place

pub returns-in-Ok-clause-key : goal.returns-in-Ok-clause-key
returns-in-Ok-clause-key c = row_key c.args.self.now.rows.items c.args.self.now.rising c.args.sought.now c.in-Ok.place c.index.result.now c.in-Ok.ensures.range c.index.ensures c.in-Ok.ensures.place

pub returns-in-Err-clause-found : goal.returns-in-Err-clause-found
returns-in-Err-clause-found c =
    let rows = c.args.self.now.rows.items in
    ap (option_map hold_value) (sym (absent_at text_cmp hold_key text_total rows c.args.self.now.rising c.args.sought.now c.in-Err.field-0 c.in-Err.ensures.place))
    ∙ sym (get_table text_cmp hold_key hold_value rows c.args.sought.now c.args.self.now.rising)
