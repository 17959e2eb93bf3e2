-- A text in an array with room for it, and zeros in the rest.
use Rattle.std.specs.Prelude.{◌≡◌, ℕ, ◌-◌, ◌≤◌, List, ◌++◌, length, take, drop, replicate}
use Rattle.std.proofs.Common.{arith}
use Rattle.std.proofs.lemmas.List.{take-append-drop, length-take-le}

-- the array of a text in room for n bytes
abbrev pub padded_text : ℕ → List ℕ → List ℕ
padded_text n text = text ++ replicate (n - length text) 0

-- an array of n bytes holds a text of len bytes
pub record HoldsText (n len : ℕ) (cells : List ℕ) : Type 0 where
  pub fits : len ≤ n
  pub room : length cells ≡ n
  pub zeros : drop len cells ≡ replicate (n - len) 0

-- the length of the text that an array holds
pub length-take_text : (n len : ℕ) (cells : List ℕ) → HoldsText n len cells → length (take len cells) ≡ len
length-take_text n len cells h = length-take-le len cells (omega (arith, h.fits, h.room))

-- the array is that of the text
pub padded_text-take : (n len : ℕ) (cells : List ℕ) → HoldsText n len cells → padded_text n (take len cells) ≡ cells
padded_text-take n len cells h = rw (length-take_text n len cells h, ← h.zeros) (take-append-drop len cells)
