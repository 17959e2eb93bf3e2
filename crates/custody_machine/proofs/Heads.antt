-- Block 0, by the digits of its number.
use Rattle.std.proofs.Common.{◌≡◌, ℕ, ◌^◌, ◌<◌, List, [], ◌∷◌, ◌++◌, codes, refl, ap, arith}
use Rattle.std.specs.Int.{w64, to_be_bytes, from_be_bytes}
use Rattle.std.proofs.lemmas.Nat.{be_bytes_8}
use Rattle.std.proofs.lemmas.List.{append_cancel_left, append_cancel_right}
use Rattle.hex.specs.Hex.{encode_lower}
use Rattle.vault_volume.specs.Head.{head_of, zeros}
use Rattle.extent_map.proofs.ByteLemmas.{IsBytes-to_be_bytes}
use Rattle.custody_records.specs.RowsOfRecords.{digits_of}

-- the number of eight bytes
abbrev in_range : ℕ → ℕ
in_range n = from_be_bytes w64 (to_be_bytes w64 n)

bound : (n : ℕ) → in_range n < 2 ^ 64
bound n = omega arith

same_bytes : (n : ℕ) → to_be_bytes w64 (in_range n) ≡ to_be_bytes w64 n
same_bytes n = be_bytes_8 (to_be_bytes w64 n) (in_range n) refl (IsBytes-to_be_bytes n) refl

-- block 0 is that of a number's digits
abbrev head_with : List ℕ → List ℕ
head_with digits = (codes "RDEVAULT1" ++ 10 ∷ [] ++ digits ++ 10 ∷ []) ++ zeros 4069

pub head_by_digits : (m n : ℕ) → digits_of m ≡ digits_of n → head_of m ≡ head_of n
head_by_digits m n e = ap head_with e

-- each block 0 is that of a number below 2 ^ 64
pub head_in_range : (n : ℕ) → (m : ℕ) × (m < 2 ^ 64) × (head_of m ≡ head_of n)
head_in_range n = (in_range n, bound n, ap (λ bytes. head_with (encode_lower bytes)) (same_bytes n))

pub digits_by_head : (m n : ℕ) → head_of m ≡ head_of n → digits_of m ≡ digits_of n
digits_by_head m n e =
    let fronts = append_cancel_right (codes "RDEVAULT1" ++ 10 ∷ [] ++ digits_of m ++ 10 ∷ []) (codes "RDEVAULT1" ++ 10 ∷ [] ++ digits_of n ++ 10 ∷ []) (zeros 4069) e in
    let begins = append_cancel_right (codes "RDEVAULT1" ++ 10 ∷ [] ++ digits_of m) (codes "RDEVAULT1" ++ 10 ∷ [] ++ digits_of n) (10 ∷ []) fronts in
    append_cancel_left (codes "RDEVAULT1" ++ 10 ∷ []) (digits_of m) (digits_of n) begins
