use Rattle.std.specs.Prelude.{◌≡◌, map, take}
use Rattle.std.specs.List.{flat_map}
use Rattle.custody_records.specs.MemoryRecords.{records_of}
use Rattle.custody_records.specs.Tables.{row_entries}
use Rattle.custody_records.specs.TypedRecords.{registry_key, registry_value}
use Rattle.custody_rules.specs.DueDays.{due_day_pair, due_days_of}
use Rattle.custody_rules.proofs.days_due.due_days.Given as goal

abbrev pub invariant-loop-registry : goal.invariant-loop-registry
invariant-loop-registry l = map due_day_pair l.due.items ≡ flat_map (due_days_of (records_of l.records) l.now) (row_entries registry_key registry_value (take l.registry-index l.registry-items))
