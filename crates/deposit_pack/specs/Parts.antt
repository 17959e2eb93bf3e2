-- The parts of a deposit (Specification 2, Part A, section 5).
use Rattle.std.specs.Prelude.{◌≡◌, ◌≤◌, ◌+◌, ℕ, List, All, length, map, slice_get, Some}
use Rattle.std.specs.Int.{IsInRange}
use Rattle.std.specs.List.{concat}
use Rattle.deposit_name.specs.Name.{Name}
use Rattle.deposit_pack.specs.declared.splitting.Part.{Part}

-- the most bytes of a part: 1 MiB
abbrev pub part_length_max : ℕ
part_length_max = 1_048_576

-- the name of the part at a place, from 0
abbrev pub part_name : Name → ℕ → Name
part_name name place = record { tld = name.tld; day = name.day; kind = name.kind; part = place + 1; rev = name.rev }

-- the bytes of each part
abbrev pub bytes_in_parts : List Part → List (List ℕ)
bytes_in_parts parts = map (λ part. part.bytes.now) parts

-- pieces that a deposit may be sent in
pub record ArePieces (deposit : List ℕ) (pieces : List (List ℕ)) : Type 0 where
  pub joined : concat pieces ≡ deposit
  pub each : All (λ piece. IsInRange 1 part_length_max (length piece)) pieces

-- the parts of a deposit of this name: joined in order they are the deposit, they are as few as can be, and each has its name
pub record ArePartsOf (name : Name) (deposit : List ℕ) (parts : List Part) : Type 0 where
  pub pieces : ArePieces deposit (bytes_in_parts parts)
  pub fewest : (others : List (List ℕ)) → ArePieces deposit others → length parts ≤ length others
  pub most : length parts ≤ 8
  pub named : (place : ℕ) (part : Part) → slice_get parts place ≡ Some part → part.name ≡ part_name name place

-- at most eight pieces hold the deposit
abbrev pub FitsInParts : List ℕ → Type 0
FitsInParts deposit = (pieces : List (List ℕ)) × ArePieces deposit pieces × (length pieces ≤ 8)
