use Rattle.std.proofs.Common.{true, cond, sym, ap, ◌≡◌, ◌∙◌}
use Rattle.std.specs.Prelude.{is_some}
use Rattle.std.specs.Result.{is_ok}
use Rattle.std.specs.List as list
use Rattle.custody_records.proofs.TableLemmas.{row_at, found_at, added_at, map_added, rising_tried, present_row}
use Rattle.custody_records.proofs.tables.SortedRows.add.Goals as goal

pub unreachable-requires : goal.unreachable-requires
unreachable-requires g c =
    let order = g.T.Keyed.order in
    let key = g.T.Keyed.key_of in
    let table = c.args.self.now in
    let there = present_row order key g.met.T.Keyed.total table.rows.items table.rising g.T.Keyed.value_of (key c.args.row)
    (ap is_some (ap (row_at order key table.rows.items) (sym c.key.ensures) ∙ found_at order key g.met.T.Keyed.total table.rows.items c.key.result c.in-Ok.field-0 c.args.row table.rising c.in-Ok.ensures.range (c.in-Ok.ensures.place c.args.row))) in
    let new = ap is_some c.requires.new in cc

pub invariant_of-self : goal.invariant_of-self
invariant_of-self g c =
    let table = c.args.self.now in
    record {
      rising = rising_tried g.T.Keyed.order g.T.Keyed.key_of g.met.T.Keyed.total table.rows.items table.rising c.args.row c.key.result c.in-Err.place c.insert.new.self.items _ c.key.ensures c.in-Err.ensures.place c.insert.ensures.items;
    }

pub returns : goal.returns
returns g c =
    let order = g.T.Keyed.order in
    let key = g.T.Keyed.key_of in
    let table = c.args.self.now in
    let ok : is_ok c.insert.result ≡ true = c.insert.ensures.succeeds c.requires.room in
    let items = c.insert.ensures.items ∙ ap (λ b. cond b (list.insert table.rows.items c.in-Err.place c.args.row) table.rows.items) ok in
    map_added order key g.met.T.Keyed.total
    (added_at order key g.met.T.Keyed.total table.rows.items table.rising c.args.row c.key.result c.in-Err.place c.insert.new.self.items c.key.ensures c.in-Err.ensures.place items)
    table.rising g.T.Keyed.value_of
