-- The parts of a revision, counted.
use Rattle.std.proofs.Common.{◌≡◌, ℕ, zero, suc, ◌+◌, ◌<◌, ◌≤◌, Bool, true, false, cond, refl, sym, ◌∙◌, ap, arith, count_by, ◌==◌}
use Rattle.std.specs.List.{list_any}
use Rattle.custody_machine.specs.State.{part_numbers}

module _ (q : ℕ → Bool) (closed : (n : ℕ) → q (suc (suc n)) ≡ true → q (suc n) ≡ true) where
  count_from : ℕ → ℕ → ℕ
  count_from s zero = 0
  count_from s (suc l) = cond (q s) 1 0 + count_from (suc s) l

  falls : (s : ℕ) → q (suc s) ≡ false → q (suc (suc s)) ≡ false
  falls s e = by (q (suc (suc s))) refl
    where
      by : (b : Bool) → q (suc (suc s)) ≡ b → b ≡ false
      by false h = refl
      by true h = let up : q (suc s) ≡ true = closed s h in cc

  none_from : (s l : ℕ) → q (suc s) ≡ false → count_from (suc s) l ≡ 0
  unfolding count_from
  none_from s zero e = refl
  none_from s (suc l) e = let rest : count_from (suc (suc s)) l ≡ 0 = none_from (suc s) l (falls s e) in rw e (omega (arith, rest))

  at_most : (s l : ℕ) → count_from s l ≤ l
  unfolding count_from
  at_most s zero = omega arith
  at_most s (suc l) = by (q s) (at_most (suc s) l)
    where
      by : (b : Bool) → count_from (suc s) l ≤ l → cond b 1 0 + count_from (suc s) l ≤ suc l
      by true h = omega (arith, h)
      by false h = omega (arith, h)

  -- where more than k of the places from s on are taken, the one at s + k is
  taken_at : (s l k : ℕ) → k < count_from (suc s) l → q (suc (s + k)) ≡ true
  unfolding count_from
  taken_at s zero k lt = absurd (omega (arith, lt))
  taken_at s (suc l) k lt = by (q (suc s)) refl k lt (λ k lt. taken_at (suc s) l k lt) (λ e. none_from (suc s) l (falls s e))
    where
      by : (b : Bool) → q (suc s) ≡ b → (k : ℕ) → k < cond b 1 0 + count_from (suc (suc s)) l → ((k : ℕ) → k < count_from (suc (suc s)) l → q (suc (suc s + k)) ≡ true) → (q (suc s) ≡ false → count_from (suc (suc s)) l ≡ 0) → q (suc (s + k)) ≡ true
      by true e zero lt rest none = let same : suc (s + 0) ≡ suc s = omega arith in ap q same ∙ e
      by true e (suc k) lt rest none = let same : suc (s + suc k) ≡ suc (suc s + k) = omega arith in ap q same ∙ rest k (omega (arith, lt))
      by false e k lt rest none = let zero_left : count_from (suc (suc s)) l ≡ 0 = none e in absurd (omega (arith, lt, zero_left))

  counted : count_by q part_numbers ≡ count_from 1 8
  unfolding count_from
  counted = omega arith

  -- where all places below one are taken and no other is, so is the one before it
  pub prior_taken : (place n : ℕ) → count_by q part_numbers + 1 ≡ place → place ≡ suc (suc n) → (q (suc n) ≡ true) × (n < 8)
  prior_taken place n e is =
      let lt : n < count_from 1 8 = omega (arith, e, is, counted) in
      let most : count_from 1 8 ≤ 8 = at_most 1 8 in
      let same : suc (0 + n) ≡ suc n = omega arith in
      (sym (ap q same) ∙ taken_at 0 8 n lt, omega (arith, lt, most))

  -- where some place is taken, the first is
  pub first_taken : 0 < count_by q part_numbers → q 1 ≡ true
  first_taken lt =
      let some : 0 < count_from 1 8 = omega (arith, lt, counted) in
      let same : suc (0 + 0) ≡ 1 = omega arith in
      sym (ap q same) ∙ taken_at 0 8 0 some

-- what holds of each number below one
abbrev pub AllBelow : ℕ → (ℕ → Type 0) → Type 0
AllBelow zero P = Unit {0}
AllBelow (suc n) P = P 0 × AllBelow n (λ k. P (suc k))

pub at_below : (n : ℕ) (P : ℕ → Type 0) → AllBelow n P → (k : ℕ) → k < n → P k
at_below zero P all k lt = absurd (omega (arith, lt))
at_below (suc n) P all zero lt = all.0
at_below (suc n) P all (suc k) lt = at_below n (λ k. P (suc k)) all.1 k (omega (arith, lt))

pub is_place : (n : ℕ) → n < 8 → list_any (λ place. place == suc n) part_numbers ≡ true
is_place = at_below 8 (λ n. list_any (λ place. place == suc n) part_numbers ≡ true) (refl, (refl, (refl, (refl, (refl, (refl, (refl, (refl, tt))))))))
