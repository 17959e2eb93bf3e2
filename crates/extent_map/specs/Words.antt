-- Bits in words of 64.
use Rattle.std.specs.Prelude.{◌≡◌, ℕ, zero, suc, ◌+◌, ◌/◌, ◌%◌, List, slice_index}
use Rattle.std.specs.Int.{bit_at}

-- the bit at a place, and 0 past the last word
abbrev pub bit : List ℕ → ℕ → ℕ
bit words b = bit_at (slice_index words (b / 64)) (b % 64)

abbrev pub IsOneIn : List ℕ → ℕ → Type 0
IsOneIn words b = bit words b ≡ 1

-- how many of the first n bits are 1
abbrev pub one_count : List ℕ → ℕ → ℕ
one_count words zero = 0
one_count words (suc n) = bit words n + one_count words n
