-- The texts of the numbers of volumes.
use Rattle.std.proofs.Common.{◌≡◌, codes, ℕ, zero, suc, ◌^◌, ◌<◌, List, refl, sym, ◌∙◌, ap, arith, true, [], ◌∷◌}
use Rattle.std.specs.Prelude.{nat_lt}
use Rattle.std.specs.Str.{IsAscii}
use Rattle.std.specs.List.{list_all}
use Rattle.std.proofs.lemmas.Bool.{and_parts}
use Rattle.std.specs.Int.{w64, to_be_bytes}
use Rattle.hex.specs.Hex.{encode_with, lower_digits}
use Rattle.hex.proofs.HexLemmas.{IsAscii-encode_with}
use Rattle.custody_records.specs.Form.{number_in}
use Rattle.custody_records.specs.RowsOfRecords.{digits_of}
use Rattle.custody_records.proofs.FormLemmas.{number_in-digits}

pub digits_of-injective : (m n : ℕ) → m < 2 ^ 64 → n < 2 ^ 64 → digits_of m ≡ digits_of n → m ≡ n
digits_of-injective m n h k e = sym (number_in-digits m h) ∙ ap number_in e ∙ number_in-digits n k

below : (b : ℕ) → nat_lt b 128 ≡ true → b < 128
below b h = grind arith

IsAscii-bytes : (text : List ℕ) → list_all (λ b. nat_lt b 128) text ≡ true → IsAscii text
IsAscii-bytes [] h i = omega arith
IsAscii-bytes (b ∷ bs) h zero = below b (and_parts (nat_lt b 128) (list_all (λ x. nat_lt x 128) bs) h).0
IsAscii-bytes (b ∷ bs) h (suc i) = IsAscii-bytes bs (and_parts (nat_lt b 128) (list_all (λ x. nat_lt x 128) bs) h).1 i

pub IsAscii-digits_of : (n : ℕ) → IsAscii (digits_of n)
IsAscii-digits_of n = IsAscii-encode_with lower_digits (to_be_bytes w64 n) (IsAscii-bytes lower_digits refl)

-- the first number, written out
pub number_one : digits_of 1 ≡ codes "0000000000000001"
unfolding encode_with
number_one = refl
