-- The blocks that parts name, and a map of blocks.
use Rattle.std.specs.Prelude.{◌≡◌, ℕ, List, [], Option, None, Some}
use Rattle.std.specs.List.{flat_map}
use Rattle.extent_map.specs.declared.extent.Extent.{Extent}
use Rattle.custody_records.specs.declared.parts.Part.{Part}
use Rattle.custody_records.specs.TypedRecords.{part_value}
use Rattle.extent_map.specs.Map.{IsFree, size_of}
use Rattle.extent_map.specs.declared.map.ExtentMap.{ExtentMap}
use Rattle.custody_records.specs.Records.{Records}
use Rattle.custody_machine.specs.StoredState.{ForExtents, AreExtents}
use Rattle.custody_machine.specs.Custody.{IsPlaceable}

-- the extents of a part may hold its bytes, in a volume of so many blocks
abbrev pub IsInRange : ℕ → Part → Type 0
IsInRange blocks part = ForExtents (part_value part).extents (AreExtents blocks part.len)

-- the extents, none where the bytes are dropped
abbrev pub held_extents : Option (List Extent) → List Extent
held_extents None = []
held_extents (Some extents) = extents

-- the extents of a part
abbrev pub part_extents : Part → List Extent
part_extents part = held_extents (part_value part).extents

-- the extents of all the parts, one after the other
abbrev pub extents_of_all : List Part → List Extent
extents_of_all parts = flat_map part_extents parts

-- ---- the map of a volume

-- just the blocks that may be placed are free in the map
pub record IsMapOf (records : Records) (map : ExtentMap) : Type 0 where
  pub size : size_of map ≡ records.blocks
  pub free : (b : ℕ) → (IsFree map b → IsPlaceable records b) × (IsPlaceable records b → IsFree map b)
