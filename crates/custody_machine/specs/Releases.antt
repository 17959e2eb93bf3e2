-- The release that records make, whatever the volume holds.
use Rattle.std.specs.Prelude.{◌≡◌, ℕ, List, Option, Some, None, true, ◌&&◌, is_some, if◌then◌else◌, bytes_eq}
use Rattle.std.specs.FinMap.{entries}
use Rattle.std.specs.List.{filter_map, list_all}
use Rattle.deposit_name.specs.Name.{name_text}
use Rattle.desk.specs.declared.grounds.Ground.{Ground}
use Rattle.custody_records.specs.Keys.{PartKey}
use Rattle.custody_records.specs.Records.{PartRecord, Records, Release, name_of}
use Rattle.custody_machine.specs.NameReading.{read_name}
use Rattle.custody_machine.specs.StoredState.{is_name_of_part}

-- the name of a part of the registry whose bytes are held
abbrev pub held_record_name : List ℕ → PartKey × PartRecord → Option (List ℕ)
held_record_name tld entry = if bytes_eq entry.0.tld tld && is_some entry.1.extents then Some (name_text (name_of entry.0 entry.1.kind)) else None

-- the names of all of them, by day, revision and place in the series
abbrev pub held_record_names : Records → List ℕ → List (List ℕ)
held_record_names records tld = filter_map (held_record_name tld) (entries records.parts)

abbrev pub release_of_records : Records → List ℕ → Ground → ℕ → Release
release_of_records records tld reason now = record { tld = tld; reason = reason; at = now; names = held_record_names records tld }

-- each of the names is that of a recorded part of the registry
abbrev pub AreRecordedNames : Records → List ℕ → List (List ℕ) → Type 0
AreRecordedNames records tld names = list_all (λ text. is_name_of_part records tld (read_name text)) names ≡ true
