use Rattle.std.proofs.Common.{IsSome, refl, subst}
use Rattle.custody_records.specs.Keys.{text_cmp}
use Rattle.custody_records.specs.inside.Orders.{text_total}
use Rattle.custody_records.specs.TypedRecords.{hold_key, hold_value}
use Rattle.custody_records.proofs.TableLemmas.{absent_key}
use Rattle.plain_machine.proofs.HoldRows.{map_lifted, rising_lifted}
use Rattle.plain_machine.proofs.holds.PlainHolds.lift.Goals as goal

pub invariant_of-self : goal.invariant_of-self
invariant_of-self c = record {
  rising = rising_lifted c.args.self.now.rows.items c.args.self.now.rising c.args.reference.now c.in-Ok.place c.index_mut.result.now c.in-Ok.ensures.range c.index_mut.ensures.value c.in-Ok.ensures.place c.args.at;
}

pub unreachable-requires : goal.unreachable-requires
unreachable-requires c =
    let reference = c.args.reference.now in
    let clash = subst IsSome (absent_key text_cmp hold_key text_total c.args.self.now.rows.items c.args.self.now.rising hold_value reference reference c.in-Err.field-0 refl c.in-Err.ensures.place) c.requires.there in cc

pub returns : goal.returns
returns c =
    map_lifted c.args.self.now.rows.items c.args.self.now.rising c.args.reference.now c.in-Ok.place c.index_mut.result.now c.in-Ok.ensures.range c.index_mut.ensures.value c.in-Ok.ensures.place c.args.at
