-- What a map shows: how many blocks the volume has, and which of them are free. How that is kept is seen by this crate alone.
use Rattle.std.specs.Prelude.{ℕ}
use Rattle.std.specs.Coded.{coded_ℕ, Coded-set}
use Rattle.extent_map.specs.Words.{IsOneIn}
use Rattle.extent_map.specs.declared.map.ExtentMap.{ExtentMap}

abbrev pub size_of : ExtentMap → ℕ
size_of map = map.blocks

unfoldable pub IsFree : ExtentMap → ℕ → Type 0
IsFree map = IsOneIn map.words.items

-- it has one proof at most
pub IsFree-prop : (map : ExtentMap) (b : ℕ) → IsProp (IsFree map b)
unfolding IsFree
IsFree-prop map b = Coded-set coded_ℕ _ _
