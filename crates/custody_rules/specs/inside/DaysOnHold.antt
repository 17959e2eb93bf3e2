-- The days on hold, gathered.
use Rattle.std.specs.Prelude.{◌≡◌}
use Rattle.std.specs.BTreeSet.{BTreeSet, contains}
use Rattle.std.specs.FinMap.{FinMap}
use Rattle.custody_records.specs.Keys.{PartKey, text_cmp}
use Rattle.custody_records.specs.Purge.{is_on_hold}
use Rattle.custody_records.specs.Records.{Hold}
use Rattle.custody_rules.specs.declared.unique_keys.RegistryDay.{RegistryDay}
use Rattle.custody_rules.specs.inside.Orders.{registry_day_cmp}

-- the day of a part
abbrev pub registry_day_of : PartKey → RegistryDay
registry_day_of key = record { tld = key.tld; day = key.day }

-- a part's day is among them exactly where it is on hold
abbrev pub AreDaysOnHold : FinMap text_cmp Hold → BTreeSet RegistryDay → Type 0
AreDaysOnHold holds days = (key : PartKey) → contains registry_day_cmp days (registry_day_of key) ≡ is_on_hold holds key
