-- The records after the bytes were dropped that were kept for a year, of days that are not on hold.
use Rattle.std.specs.Prelude.{◌≡◌, ℕ, List, true, Some, count_by, filter, map}
use Rattle.std.specs.FinMap.{entries, get}
use Rattle.custody_records.specs.Keys.{PartKey}
use Rattle.custody_records.specs.Purge.{is_due, dropped_if_due}
use Rattle.custody_records.specs.Records.{PartRecord, Records}
use Rattle.custody_machine.specs.MapValues.{map_keyed}
use Rattle.custody_machine.specs.StoredState.{HaveBlock}

abbrev pub records_without_due : ℕ → Records → Records
records_without_due today records = record records { parts = map_keyed (dropped_if_due records.holds today) records.parts }

-- the places of the parts that are due, in their order
abbrev pub due_keys : ℕ → Records → List PartKey
due_keys today records = map (λ (entry : PartKey × PartRecord). entry.0) (filter (λ (entry : PartKey × PartRecord). is_due records.holds today entry.0 entry.1) (entries records.parts))

-- how many parts are due
abbrev pub count_due_records : ℕ → Records → ℕ
count_due_records today records = count_by (λ (entry : PartKey × PartRecord). is_due records.holds today entry.0 entry.1) (entries records.parts)

-- a part that is due names the block
abbrev pub IsDueBlock : ℕ → Records → ℕ → Type 0
IsDueBlock today records b = (key : PartKey) × (part : PartRecord) × (get records.parts key ≡ Some part) × (is_due records.holds today key part ≡ true) × HaveBlock part.extents b
