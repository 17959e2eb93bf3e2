-- The bytes of a number, for crates above.
use Rattle.std.proofs.Common.{ℕ, zero, suc, ◌<◌, arith}
use Rattle.std.specs.Prelude.{slice_index}
use Rattle.std.specs.Int.{w64, byte_at, to_be_bytes, bytes_high_first}

below : (place n : ℕ) → byte_at place n < 256
below zero n = omega arith
below (suc place) n = omega arith

each_below : (count n i : ℕ) → slice_index (bytes_high_first count n) i < 256
each_below zero n i = omega arith
each_below (suc count) n zero = below count n
each_below (suc count) n (suc i) = each_below count n i

-- each of the eight bytes of a number is below 256
pub IsBytes-to_be_bytes : (n i : ℕ) → slice_index (to_be_bytes w64 n) i < 256
IsBytes-to_be_bytes = each_below 8
