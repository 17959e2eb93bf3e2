-- The forms of identifiers as facts and as tests are the same.
use Rattle.std.proofs.Common.{◌↔◌, ℕ, ◌-◌, ◌&&◌, ◌==◌, not, nat_le, Bool, List, length, IsTrue, ap}
use Rattle.std.proofs.lemmas.Bool.{and_parts, and_from, leb-true, le-leb, ne_eqb, eqb-false, not-true}
use Rattle.std.specs.Char.{is_ascii_alphanumeric}
use Rattle.std.specs.Int.{IsInRange}
use Rattle.std.specs.List.{list_all, slice_index}
use Rattle.deposit_name.specs.Identifiers.{is_tld_byte, is_reference_byte, IsTld, IsDepositId, IsReference, is_tld, is_deposit_id, is_reference}

-- a text of 1 to some bytes that all pass a test
bytes_in : (most : ℕ) (test : ℕ → Bool) (text : List ℕ)
    → IsTrue (nat_le 1 (length text) && nat_le (length text) most && list_all test text) ↔ (IsInRange 1 most (length text) × IsTrue (list_all test text))
bytes_in most test text = (
  λ h.
      let bytes = and_parts (nat_le 1 (length text) && nat_le (length text) most) (list_all test text) h in
      let lengths = and_parts (nat_le 1 (length text)) (nat_le (length text) most) bytes.0 in
      ((leb-true 1 (length text) lengths.0, leb-true (length text) most lengths.1), bytes.1),
  λ h. and_from _ _ (and_from _ _ (le-leb 1 (length text) h.0.0) (le-leb (length text) most h.0.1)) h.1,
)

pub is_tld-IsTld : (text : List ℕ) → IsTrue (is_tld text) ↔ IsTld text
is_tld-IsTld text = (
  λ h.
      let last = and_parts (nat_le 1 (length text) && nat_le (length text) 63 && list_all is_tld_byte text && not (slice_index text 0 == 45)) (not (slice_index text (length text - 1) == 45)) h in
      let first = and_parts (nat_le 1 (length text) && nat_le (length text) 63 && list_all is_tld_byte text) (not (slice_index text 0 == 45)) last.0 in
      let bytes = (bytes_in 63 is_tld_byte text).0 first.0 in
      record {
        length_in = bytes.0;
        bytes = bytes.1;
        first = eqb-false (slice_index text 0) 45 (not-true _ first.1);
        last = eqb-false (slice_index text (length text - 1)) 45 (not-true _ last.1);
      },
  λ h.
      and_from _ _ (and_from _ _ ((bytes_in 63 is_tld_byte text).1 (h.length_in, h.bytes)) (ap not (ne_eqb (slice_index text 0) 45 h.first)))
      (ap not (ne_eqb (slice_index text (length text - 1)) 45 h.last)),
)

pub is_deposit_id-IsDepositId : (text : List ℕ) → IsTrue (is_deposit_id text) ↔ IsDepositId text
is_deposit_id-IsDepositId text =
    let parts = bytes_in 13 is_ascii_alphanumeric text in
    (λ h. record { length_in = (parts.0 h).0; bytes = (parts.0 h).1 }, λ h. parts.1 (h.length_in, h.bytes))

pub is_reference-IsReference : (text : List ℕ) → IsTrue (is_reference text) ↔ IsReference text
is_reference-IsReference text =
    let parts = bytes_in 32 is_reference_byte text in
    (λ h. record { length_in = (parts.0 h).0; bytes = (parts.0 h).1 }, λ h. parts.1 (h.length_in, h.bytes))
