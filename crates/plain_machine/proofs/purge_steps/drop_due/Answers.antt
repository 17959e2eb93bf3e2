use Rattle.std.proofs.Common.{◌≡◌, ◌<◌, length, arith}
use Rattle.plain_machine.proofs.EachChanged.{done_next, rest_next}
use Rattle.plain_machine.specs.Plain.{entry_after_purge, holds_view, plain_part_entry}
use Rattle.plain_machine.proofs.purge_steps.drop_due.Goals as goal

pub loop-part-preserved : goal.loop-part-preserved
loop-part-preserved c =
    let after = entry_after_purge (holds_view c.args.holds.now) c.args.today in
    let old = c.deref_mut-part-items.result.now in
    let items = c.loop-part.part-items in
    let i = c.loop-part.part-index in
    let new = c.drop_if_due.new.self in
    let item = c.part-item.result in
    let same : length items ≡ length old = c.loop-part.auto.part-items in
    let low : i < length items = omega arith in
    record {
      done = done_next plain_part_entry after old items i new item low same c.loop-part.invariant.rest c.loop-part.invariant.done c.drop_if_due.ensures;
      rest = rest_next plain_part_entry after old items i new item low same c.loop-part.invariant.rest;
    }
