use Rattle.std.proofs.Common.{◌∙◌, List, sym, ap}
use Rattle.std.specs.BTreeSet.{contains}
use Rattle.std.specs.FinMap.{entries}
use Rattle.std.specs.List.{list_any}
use Rattle.std.proofs.lemmas.List.{take_all}
use Rattle.custody_records.specs.Keys.{text_cmp}
use Rattle.custody_records.specs.Purge.{is_hold_of_part}
use Rattle.custody_records.specs.TypedRecords.{hold_key, hold_value}
use Rattle.custody_records.specs.declared.holds.Hold.{Hold}
use Rattle.custody_records.proofs.TableLemmas.{any_entries, entries-table_map}
use Rattle.custody_rules.specs.inside.DaysOnHold.{registry_day_of}
use Rattle.custody_rules.specs.inside.Orders.{registry_day_cmp}
use Rattle.custody_rules.proofs.DaysOnHold.{is_held_by, lifted_past, standing_more}
use Rattle.custody_rules.proofs.purging.days_on_hold.Goals as goal
use Rattle.custody_rules.proofs.purging.days_on_hold.Goals.{then-is_none+in_ok-insert, else-is_none}

pub loop-hold-preserved : goal.loop-hold-preserved
loop-hold-preserved c key =
    let holds = c.holds-hold-items.result.now in
    let count = c.loop-hold.hold-index in
    let hold = c.hold-item.result in
    elim c.if-is_none.branch [
      | then-is_none+in_ok-insert w ↦
          ap (λ days. contains registry_day_cmp days (registry_day_of key)) w.days-is
          ∙ w.in_ok-insert.ensures.updates.0 (registry_day_of key)
          ∙ standing_more key holds count hold c.loop-hold-test.true (sym c.hold-item.is) (contains registry_day_cmp c.loop-hold.days (registry_day_of key)) (c.loop-hold.invariant key) w.if-is_none.ensures
      | else-is_none w ↦
          ap (λ days. contains registry_day_cmp days (registry_day_of key)) w.days-is
          ∙ lifted_past key holds count hold c.loop-hold-test.true (sym c.hold-item.is) (contains registry_day_cmp c.loop-hold.days (registry_day_of key)) (c.loop-hold.invariant key) w.if-is_none.ensures
    ]

pub returns : goal.returns
returns c key =
    let holds = c.holds-hold-items.result.now in
    let test = is_hold_of_part key in
    c.loop-hold.invariant key
    ∙ ap (λ (all : List Hold). is_held_by all key) (take_all c.loop-hold.hold-index holds c.loop-hold-test.false)
    ∙ sym (any_entries hold_key hold_value test holds)
    ∙ ap (list_any test) (sym (ap entries c.holds-hold-items.ensures.all ∙ entries-table_map text_cmp hold_key hold_value holds c.holds-hold-items.ensures.rising))
