use Rattle.std.proofs.Common.{ap, ◌∙◌}
use Rattle.custody_records.specs.Keys.{part_cmp}
use Rattle.custody_records.specs.inside.Orders.{part_total}
use Rattle.custody_records.proofs.TableLemmas.{row_at, absent_row, found_at, added_at, map_added, rising_tried, not_both}
use Rattle.plain_machine.specs.inside.Listing.{listed_key, listed_value}
use Rattle.plain_machine.proofs.listing.Listing.add.Goals as goal

pub invariant_of-self : goal.invariant_of-self
invariant_of-self c = record {
  rising = rising_tried part_cmp listed_key part_total c.args.self.now.rows.items c.args.self.now.rising c.args.row c.of.result c.in-Err.place c.insert.new.self.items _ c.of.ensures c.in-Err.ensures.place c.insert.ensures.items;
}

pub unreachable-requires : goal.unreachable-requires
unreachable-requires c =
    let rows = c.args.self.now.rows.items in
    let here = found_at part_cmp listed_key part_total rows c.of.result c.in-Ok.field-0 c.args.row c.args.self.now.rising c.in-Ok.ensures.range (c.in-Ok.ensures.place c.args.row) in
    not_both _ _ here (ap (row_at part_cmp listed_key rows) c.of.ensures ∙ absent_row part_cmp listed_key part_total rows c.args.self.now.rising listed_value (listed_key c.args.row) c.requires.new)

pub returns : goal.returns
returns c =
    map_added part_cmp listed_key part_total
    (added_at part_cmp listed_key part_total c.args.self.now.rows.items c.args.self.now.rising c.args.row c.of.result c.in-Err.place c.insert.new.self.items c.of.ensures c.in-Err.ensures.place c.in_ok-insert-in-Err.ensures.items)
    c.args.self.now.rising listed_value
