use Rattle.std.proofs.Common.{Some, sym, ap, ◌∙◌}
use Rattle.std.specs.Prelude.{option_map}
use Rattle.custody_records.proofs.TableLemmas.{get_table, found_at, absent_at}
use Rattle.custody_records.proofs.tables.SortedRows.find.Goals as goal

pub returns-in-Ok-clause-found : goal.returns-in-Ok-clause-found
returns-in-Ok-clause-found g c =
    let order = g.T.Keyed.order in
    let key = g.T.Keyed.key_of in
    let table = c.args.self.now in
    ap (option_map g.T.Keyed.value_of)
    (ap Some c.index.ensures ∙ sym (found_at order key g.met.T.Keyed.total table.rows.items c.args.sought.now c.in-Ok.place c.index.result.now table.rising c.in-Ok.ensures.range (c.in-Ok.ensures.place c.index.result.now)))
    ∙ sym (get_table order key g.T.Keyed.value_of table.rows.items c.args.sought.now table.rising)

pub returns-in-Err-clause-found : goal.returns-in-Err-clause-found
returns-in-Err-clause-found g c =
    let order = g.T.Keyed.order in
    let key = g.T.Keyed.key_of in
    let table = c.args.self.now in
    ap (option_map g.T.Keyed.value_of) (sym (absent_at order key g.met.T.Keyed.total table.rows.items table.rising c.args.sought.now c.in-Err.field-0 c.in-Err.ensures.place))
    ∙ sym (get_table order key g.T.Keyed.value_of table.rows.items c.args.sought.now table.rising)
