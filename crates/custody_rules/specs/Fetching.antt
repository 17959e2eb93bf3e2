-- What the records decide of a fetch, whatever the volume holds.
use Rattle.std.specs.Prelude.{◌≡◌, ℕ, List, Some, Ok}
use Rattle.deposit_name.specs.Name.{Name}
use Rattle.extent_map.specs.declared.extent.Extent.{Extent}
use Rattle.vault_volume.specs.Extents.{part_bytes}
use Rattle.custody_records.specs.Records.{PartRecord, Records}
use Rattle.custody_machine.specs.NameReading.{read_name}
use Rattle.custody_machine.specs.StoredState.{state_in}
use Rattle.custody_machine.specs.FetchResult.{fetch_result}
use Rattle.custody_rules.specs.Judging.{part_under}

-- a text is the name under which a part is recorded
pub record IsRecordedAs (records : Records) (text : List ℕ) (part : PartRecord) : Type 0 where
  pub name : Name
  pub named : read_name text ≡ Ok name
  pub recorded : part_under records name ≡ Some part

-- the part of the name is held at these extents, and the bytes there are what is fetched
pub record HandsOver (records : Records) (reference text : List ℕ) (part : PartRecord) (extents : List Extent) : Type 0 where
  pub recorded : IsRecordedAs records text part
  pub held : part.extents ≡ Some extents
  pub bytes : (image : List ℕ) → fetch_result (state_in records image) reference text ≡ Ok (part_bytes image extents part.len)
