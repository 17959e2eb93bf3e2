-- The row of the volume, and its number as digits.
use Rattle.std.proofs.Common.{◌≡◌, ℕ, ◌<◌, ◌^◌, List, Bool, true, false, cond, Some, None, refl, sym, ◌∙◌, ap, arith}
use Rattle.std.specs.Prelude.{Ok}
use Rattle.std.specs.Str.{bytes_eq}
use Rattle.std.specs.Int.{w64, to_be_bytes}
use Rattle.std.proofs.lemmas.Slice.Eq.{bytes_eq-Decides}
use Rattle.hex.specs.Hex.{decode_sized}
use Rattle.hex.proofs.HexLemmas.{decode_sized-encode_lower}
use Rattle.extent_map.proofs.ByteLemmas.{IsBytes-to_be_bytes}
use Rattle.custody_records.specs.Rows.{MetaRow}
use Rattle.custody_records.specs.Form.{natural, number_in, is_meta}
use Rattle.custody_records.specs.RowsOfRecords.{digits_of}
use Rattle.custody_records.specs.TypedRecords.{meta_of, meta_volume}
use Rattle.custody_records.proofs.FormLemmas.{number_in-digits}

-- the digits of a number are decoded
pub decodes_digits : (text : List ℕ) (number : ℕ) → text ≡ digits_of number → decode_sized text 8 ≡ Ok (to_be_bytes w64 number)
decodes_digits text number same = ap (λ (l : List ℕ). decode_sized l 8) same ∙ decode_sized-encode_lower (to_be_bytes w64 number) 8 refl (IsBytes-to_be_bytes number)

-- a text of digits is read
pub number_reads : (text : List ℕ) (number : ℕ) → number < 2 ^ 64 → text ≡ digits_of number → Some number ≡ cond (bytes_eq text (digits_of (number_in text))) (Some (number_in text)) None
number_reads text number lt same =
    let is : number_in text ≡ number = ap number_in same ∙ number_in-digits number lt in
    let passes : bytes_eq text (digits_of (number_in text)) ≡ true = (bytes_eq-Decides text (digits_of (number_in text))).1 (same ∙ ap digits_of (sym is)) in
    sym (ap (λ b. cond b (Some (number_in text)) None) passes ∙ ap Some is)

-- no other text is
pub number_not_read : (text : List ℕ) → (text ≡ digits_of (number_in text) → ⊥) → None ≡ cond (bytes_eq text (digits_of (number_in text))) (Some (number_in text)) None
number_not_read text apart = by (bytes_eq text (digits_of (number_in text))) refl
  where
    by : (b : Bool) → bytes_eq text (digits_of (number_in text)) ≡ b → None ≡ cond b (Some (number_in text)) None
    by true e = absurd (apart ((bytes_eq-Decides text (digits_of (number_in text))).0 e))
    by false e = refl

-- what a row's volume is
pub volume_of-meta_of : (row : MetaRow) → meta_volume (meta_of row) ≡ cond (is_meta row) (Some (number_in row.number, natural row.blocks)) None
volume_of-meta_of row = grind arith
