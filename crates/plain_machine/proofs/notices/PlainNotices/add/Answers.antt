use Rattle.std.proofs.Common.{ap, ◌∙◌}
use Rattle.custody_records.specs.Keys.{notice_cmp}
use Rattle.custody_records.specs.inside.Orders.{notice_total}
use Rattle.custody_records.specs.TypedRecords.{notice_key, notice_value}
use Rattle.custody_records.proofs.TableLemmas.{row_at, absent_row, found_at, added_at, map_added, rising_tried, not_both}
use Rattle.plain_machine.proofs.notices.PlainNotices.add.Goals as goal

pub invariant_of-self : goal.invariant_of-self
invariant_of-self c = record {
  rising = rising_tried notice_cmp notice_key notice_total c.args.self.now.rows.items c.args.self.now.rising c.args.notice.now c.key_of.result c.in-Err.place c.insert.new.self.items _ c.key_of.ensures c.in-Err.ensures.place c.insert.ensures.items;
}

pub unreachable-requires : goal.unreachable-requires
unreachable-requires c =
    let rows = c.args.self.now.rows.items in
    let here = found_at notice_cmp notice_key notice_total rows c.key_of.result c.in-Ok.field-0 c.args.notice.now c.args.self.now.rising c.in-Ok.ensures.range (c.in-Ok.ensures.place c.args.notice.now) in
    not_both _ _ here (ap (row_at notice_cmp notice_key rows) c.key_of.ensures ∙ absent_row notice_cmp notice_key notice_total rows c.args.self.now.rising notice_value (notice_key c.args.notice.now) c.requires.new)

pub returns-clause-added : goal.returns-clause-added
returns-clause-added c =
    map_added notice_cmp notice_key notice_total
    (added_at notice_cmp notice_key notice_total c.args.self.now.rows.items c.args.self.now.rising c.args.notice.now c.key_of.result c.in-Err.place c.insert.new.self.items c.key_of.ensures c.in-Err.ensures.place c.in_ok-insert-in-Err.ensures.items)
    c.args.self.now.rising notice_value
