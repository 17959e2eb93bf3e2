-- Identifiers and names are ASCII.
use Rattle.std.proofs.Common.{◌≡◌, ℕ, zero, suc, ◌<◌, true, Bool, List, [], ◌∷◌, arith}
use Rattle.std.proofs.lemmas.Bool.{and_parts}
use Rattle.std.specs.Char.{is_ascii_alphanumeric}
use Rattle.std.specs.List.{list_all}
use Rattle.std.specs.Str.{IsAscii}
use Rattle.deposit_name.specs.Identifiers.{is_tld_byte, is_reference_byte, IsTld, IsDepositId, IsReference}
use Rattle.deposit_name.specs.Name.{Name, IsName, name_text, is_name_byte}
use Rattle.deposit_name.proofs.NameTextLemmas.{name_text-bytes}

-- a text whose bytes pass a test that no byte from 128 on passes
IsAscii-passing : (test : ℕ → Bool) → ((b : ℕ) → test b ≡ true → b < 128) → (text : List ℕ) → list_all test text ≡ true → IsAscii text
IsAscii-passing test low [] h i = omega arith
IsAscii-passing test low (b ∷ bs) h zero = low b (and_parts (test b) (list_all test bs) h).0
IsAscii-passing test low (b ∷ bs) h (suc i) = IsAscii-passing test low bs (and_parts (test b) (list_all test bs) h).1 i

tld_byte_low : (b : ℕ) → is_tld_byte b ≡ true → b < 128
tld_byte_low b h = grind arith

alphanumeric_low : (b : ℕ) → is_ascii_alphanumeric b ≡ true → b < 128
alphanumeric_low b h = grind arith

reference_byte_low : (b : ℕ) → is_reference_byte b ≡ true → b < 128
reference_byte_low b h = grind arith

name_byte_low : (b : ℕ) → is_name_byte b ≡ true → b < 128
name_byte_low b h = grind arith

pub IsAscii-tld : (text : List ℕ) → IsTld text → IsAscii text
IsAscii-tld text h = IsAscii-passing is_tld_byte tld_byte_low text h.bytes

pub IsAscii-deposit_id : (text : List ℕ) → IsDepositId text → IsAscii text
IsAscii-deposit_id text h = IsAscii-passing is_ascii_alphanumeric alphanumeric_low text h.bytes

pub IsAscii-reference : (text : List ℕ) → IsReference text → IsAscii text
IsAscii-reference text h = IsAscii-passing is_reference_byte reference_byte_low text h.bytes

pub IsAscii-name_text : (n : Name) → IsName n → IsAscii (name_text n)
IsAscii-name_text n h = IsAscii-passing is_name_byte name_byte_low (name_text n) (name_text-bytes n h)
