-- Extents as sets of blocks, and what is done to the set of free blocks.
use Rattle.std.specs.Prelude.{◌≡◌, ◌⊎◌, ℕ, zero, suc, ◌+◌, ◌<◌, ◌≤◌, List, [], ◌∷◌, All, AllPairs, sum_by}
use Rattle.extent_map.specs.declared.extent.Extent.{Extent}

-- the block is in the extent
abbrev pub IsIn : Extent → ℕ → Type 0
IsIn e b = (e.start ≤ b) × (b < e.start + e.count)

-- the block is in one of the extents
abbrev pub IsInAny : List Extent → ℕ → Type 0
IsInAny [] b = ⊥
IsInAny (e ∷ extents) b = IsIn e b ⊎ IsInAny extents b

-- so many blocks from there are all free
abbrev pub IsFreeRun : (ℕ → Type 0) → ℕ → ℕ → Type 0
IsFreeRun free start count = (b : ℕ) → start ≤ b → b < start + count → free b

-- the lowest start from which so many blocks are free
pub record IsFirstFit (free : ℕ → Type 0) (count start : ℕ) : Type 0 where
  pub run : IsFreeRun free start count
  pub lowest : (s : ℕ) → IsFreeRun free s count → start ≤ s

-- the free blocks after the extents are taken from them
abbrev pub Takes : (ℕ → Type 0) → List Extent → (ℕ → Type 0) → Type 0
Takes old extents new = (b : ℕ) → (new b → old b × (¬ IsInAny extents b)) × (old b → ¬ IsInAny extents b → new b)

-- the free blocks after the extents are given back
abbrev pub GivesBack : (ℕ → Type 0) → List Extent → (ℕ → Type 0) → Type 0
GivesBack old extents new = (b : ℕ) → (new b → old b ⊎ IsInAny extents b) × (old b ⊎ IsInAny extents b → new b)

-- the same blocks are free
abbrev pub SameFree : (ℕ → Type 0) → (ℕ → Type 0) → Type 0
SameFree old new = (b : ℕ) → (new b → old b) × (old b → new b)

-- the extent lies in a volume of this size, is not empty, and has not block 0
abbrev pub IsExtentOf : ℕ → Extent → Type 0
IsExtentOf size e = (1 ≤ e.start) × (1 ≤ e.count) × (e.start + e.count ≤ size)

-- the extent lies in a volume of this size, and none of its blocks is free
abbrev pub IsUsed : ℕ → (ℕ → Type 0) → Extent → Type 0
IsUsed size free e = IsExtentOf size e × ((b : ℕ) → IsIn e b → ¬ free b)

abbrev pub AreUsed : ℕ → (ℕ → Type 0) → List Extent → Type 0
AreUsed size free extents = All (IsUsed size free) extents

-- no block is in two of the extents
abbrev pub AreApart : List Extent → Type 0
AreApart [] = Unit {0}
AreApart (e ∷ extents) = ((b : ℕ) → IsIn e b → ¬ IsInAny extents b) × AreApart extents

-- just these blocks of a volume of this size are used, beside block 0
abbrev pub IsFreeOf : ℕ → List Extent → (ℕ → Type 0) → Type 0
IsFreeOf size used free = (b : ℕ) → (free b → (1 ≤ b) × (b < size) × (¬ IsInAny used b)) × ((1 ≤ b) → (b < size) → ¬ IsInAny used b → free b)

-- so many of the blocks below n are in the set
abbrev pub HasCount : (ℕ → Type 0) → ℕ → ℕ → Type 0
HasCount set zero count = count ≡ 0
HasCount set (suc n) count = (set n × (before : ℕ) × (count ≡ before + 1) × HasCount set n before) ⊎ ((¬ set n) × HasCount set n count)

-- at least so many of the blocks below n are in the set
abbrev pub HasAtLeast : (ℕ → Type 0) → ℕ → ℕ → Type 0
HasAtLeast set n count = (all : ℕ) × HasCount set n all × (count ≤ all)

-- fewer than so many of the blocks below n are in the set
abbrev pub HasFewer : (ℕ → Type 0) → ℕ → ℕ → Type 0
HasFewer set n count = (all : ℕ) × HasCount set n all × (all < count)

-- how many blocks the extents have
abbrev pub blocks_of : List Extent → ℕ
blocks_of extents = sum_by (λ e. e.count) extents

-- each block of the extents is in the set
abbrev pub AllIn : (ℕ → Type 0) → List Extent → Type 0
AllIn blocks extents = (b : ℕ) → IsInAny extents b → blocks b

-- each extent ends before a later one starts, with a block between them
abbrev pub AreRising : List Extent → Type 0
AreRising extents = AllPairs (λ e later. e.start + e.count < later.start) extents

-- no free block is left out that lies below one of theirs
abbrev pub AreLowest : (ℕ → Type 0) → List Extent → Type 0
AreLowest free extents = (b above : ℕ) → free b → b < above → IsInAny extents above → IsInAny extents b

-- there is one extent alone, of so many blocks, at the lowest start from which so many are free
abbrev pub IsOneFit : (ℕ → Type 0) → ℕ → List Extent → Type 0
IsOneFit free count extents = (e : Extent) × (extents ≡ e ∷ []) × (e.count ≡ count) × IsFirstFit free count e.start

-- So many free blocks of a volume of this size: where a run of so many is free, the lowest one; and else the lowest
-- free blocks, as runs in rising order.
pub record AreChosen (free : ℕ → Type 0) (size count : ℕ) (extents : List Extent) : Type 0 where
  pub within : All (IsExtentOf size) extents
  pub each_free : AllIn free extents
  pub adds_up : blocks_of extents ≡ count
  pub apart : AreApart extents
  pub rising : AreRising extents
  pub in_one : (start : ℕ) → IsFreeRun free start count → IsOneFit free count extents
  pub lowest : ((start : ℕ) → ¬ IsFreeRun free start count) → AreLowest free extents
