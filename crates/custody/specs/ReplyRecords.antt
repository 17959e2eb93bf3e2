-- What a reply shows: a record, as the records have it and as the volume holds it.
use Rattle.std.specs.Prelude.{◌≡◌, ℕ, List, Option, Some}
use Rattle.std.specs.Option.{option_and_then}
use Rattle.std.specs.FinMap.{get}
use Rattle.deposit_name.specs.Name.{Name}
use Rattle.vault_volume.specs.Extents.{part_bytes}
use Rattle.custody_records.specs.Records.{PartRecord, Hold, Records, key_of}
use Rattle.custody_records.specs.TypedRecords.{notice_key, notice_value, release_key, release_value, hold_key, hold_value}
use Rattle.custody.specs.declared.answers.Record.{Record}
use Rattle.custody.specs.declared.answers.Record.TheVariants as of

-- the record of a part that is held: its name, when it was received, its length, SHA-256 and extents
abbrev pub IsRecordOfPart : Record → Name → PartRecord → Type 0
IsRecordOfPart (of.Registry tld first_day) name part = ⊥
IsRecordOfPart (of.Part named received len digest extents) name part = (named ≡ name) × (part ≡ record { kind = name.kind; received = received; len = len; digest = digest; extents = Some extents.items })
IsRecordOfPart (of.Notice notice) name part = ⊥
IsRecordOfPart (of.Release release) name part = ⊥
IsRecordOfPart (of.Hold hold) name part = ⊥
IsRecordOfPart (of.Lifting reference at) name part = ⊥
IsRecordOfPart (of.Purge count) name part = ⊥

-- when the hold of a reference was lifted
abbrev pub lifting_in : Records → List ℕ → Option ℕ
lifting_in records reference = option_and_then (λ (hold : Hold). hold.lifted) (get records.holds reference)

-- one of these records
abbrev pub IsRecorded : Records → Record → Type 0
IsRecorded records (of.Registry tld first_day) = get records.registries tld ≡ Some first_day
IsRecorded records (of.Part name received len digest extents) =
    get records.parts (key_of name) ≡ Some (record { kind = name.kind; received = received; len = len; digest = digest; extents = Some extents.items })
IsRecorded records (of.Notice notice) = get records.notices (notice_key notice) ≡ Some (notice_value notice)
IsRecorded records (of.Release release) = get records.releases (release_key release) ≡ Some (release_value release)
IsRecorded records (of.Hold hold) = get records.holds (hold_key hold) ≡ Some (hold_value hold)
IsRecorded records (of.Lifting reference at) = lifting_in records reference ≡ Some at
IsRecorded records (of.Purge count) = Unit {0}

-- a part whose extents hold these bytes
abbrev pub HoldsBytes : List ℕ → Record → List ℕ → Type 0
HoldsBytes image (of.Registry tld first_day) bytes = Unit {0}
HoldsBytes image (of.Part name received len digest extents) bytes = part_bytes image extents.items len ≡ bytes
HoldsBytes image (of.Notice notice) bytes = Unit {0}
HoldsBytes image (of.Release release) bytes = Unit {0}
HoldsBytes image (of.Hold hold) bytes = Unit {0}
HoldsBytes image (of.Lifting reference at) bytes = Unit {0}
HoldsBytes image (of.Purge count) bytes = Unit {0}
