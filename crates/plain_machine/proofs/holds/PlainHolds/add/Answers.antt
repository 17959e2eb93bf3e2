use Rattle.std.proofs.Common.{refl}
use Rattle.custody_records.specs.Keys.{text_cmp}
use Rattle.custody_records.specs.inside.Orders.{text_total}
use Rattle.custody_records.specs.TypedRecords.{hold_key, hold_value}
use Rattle.custody_records.proofs.TableLemmas.{absent_row, added_at, found_at, map_added, not_both, rising_tried}
use Rattle.plain_machine.proofs.holds.PlainHolds.add.Goals as goal

pub invariant_of-self : goal.invariant_of-self
invariant_of-self c = record {
  rising = rising_tried text_cmp hold_key text_total c.args.self.now.rows.items c.args.self.now.rising c.args.hold.now c.args.hold.now.reference c.in-Err.place c.insert.new.self.items _ refl c.in-Err.ensures.place c.insert.ensures.items;
}

pub unreachable-requires : goal.unreachable-requires
unreachable-requires c =
    let rows = c.args.self.now.rows.items in
    let reference = c.args.hold.now.reference in
    let here = found_at text_cmp hold_key text_total rows reference c.in-Ok.field-0 c.args.hold.now c.args.self.now.rising c.in-Ok.ensures.range (c.in-Ok.ensures.place c.args.hold.now) in
    not_both _ _ here (absent_row text_cmp hold_key text_total rows c.args.self.now.rising hold_value reference c.requires.new)

pub returns-clause-added : goal.returns-clause-added
returns-clause-added c =
    map_added text_cmp hold_key text_total
    (added_at text_cmp hold_key text_total c.args.self.now.rows.items c.args.self.now.rising c.args.hold.now c.args.hold.now.reference c.in-Err.place c.insert.new.self.items refl c.in-Err.ensures.place c.in_ok-insert-in-Err.ensures.items)
    c.args.self.now.rising hold_value
