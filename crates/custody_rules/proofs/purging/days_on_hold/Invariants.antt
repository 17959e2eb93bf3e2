use Rattle.std.specs.Prelude.{◌≡◌, take}
use Rattle.std.specs.BTreeSet.{contains}
use Rattle.custody_records.specs.Keys.{PartKey}
use Rattle.custody_rules.specs.inside.Orders.{registry_day_cmp}
use Rattle.custody_rules.specs.inside.DaysOnHold.{registry_day_of}
use Rattle.custody_rules.proofs.DaysOnHold.{is_held_by}
use Rattle.custody_rules.proofs.purging.days_on_hold.Given as goal

abbrev pub invariant-loop-hold : goal.invariant-loop-hold
invariant-loop-hold l = (key : PartKey) → contains registry_day_cmp l.days (registry_day_of key) ≡ is_held_by (take l.hold-index l.hold-items) key
