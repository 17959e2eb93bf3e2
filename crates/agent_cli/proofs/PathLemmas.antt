-- The last part of a path.
use Rattle.std.proofs.Common.{◌≡◌, ◌≢◌, ◌==◌, ℕ, ◌-◌, ◌<◌, ◌≤◌, Bool, true, not, List, length, take, drop, slice_index_or, ap, ◌∙◌, arith, inl, inr, subst}
use Rattle.std.specs.List.{after_last, suffix_len}
use Rattle.std.proofs.lemmas.List.Sums.{suffix_len_is}
use Rattle.std.proofs.lemmas.Bool.{cases_lt, ne_eqb}
use Rattle.std.proofs.lemmas.List.{take_rest}

abbrev pub is_slash : ℕ → Bool
is_slash b = b == 47

-- no byte from n on is a slash
pub record HasNoSlashFrom (n : ℕ) (bytes : List ℕ) : Type 0 where
  pub within : n ≤ length bytes
  pub rest : (k : ℕ) → n ≤ k → k < length bytes → not (is_slash (slice_index_or bytes k 0)) ≡ true

pub no_slash_at_end : (bytes : List ℕ) → HasNoSlashFrom (length bytes) bytes
no_slash_at_end bytes = record { within = omega arith; rest = λ k ge lt. absurd (omega (arith, ge, lt)) }

other : (b : ℕ) → b ≢ 47 → not (is_slash b) ≡ true
other b ne = ap not (ne_eqb b 47 ne)

pub no_slash_before : (n : ℕ) (bytes : List ℕ) → 0 < n → HasNoSlashFrom n bytes → slice_index_or bytes (n - 1) 0 ≢ 47 → HasNoSlashFrom (n - 1) bytes
no_slash_before n bytes positive h ne = record {
  within = omega (arith, h.within);
  rest = λ k ge lt. elim (cases_lt k n) [
    | inl below ↦
        let at : n - 1 ≡ k = omega (arith, ge, below, positive) in
        subst (λ (i : ℕ). not (is_slash (slice_index_or bytes i 0)) ≡ true) at (other _ ne)
    | inr above ↦ h.rest k above lt
  ];
}

-- what stands from there on is the last part, where a slash or nothing stands before it
pub last_part_is : (n : ℕ) (bytes : List ℕ) → HasNoSlashFrom n bytes → (0 < n → slice_index_or bytes (n - 1) 0 ≡ 47) → take (length bytes - n) (drop n bytes) ≡ after_last is_slash bytes
last_part_is n bytes h slash =
    let len : suffix_len (λ x. not (is_slash x)) bytes ≡ length bytes - n =
    suffix_len_is (λ x. not (is_slash x)) bytes n 0 h.within h.rest (λ positive. ap (λ b. not (is_slash b)) (slash positive)) in
    let cut : n ≡ length bytes - suffix_len (λ x. not (is_slash x)) bytes = omega (arith, len, h.within) in
    take_rest bytes n ∙ ap (λ (i : ℕ). drop i bytes) cut
