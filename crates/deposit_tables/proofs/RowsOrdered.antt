-- The places of rows, and their order.
use Rattle.std.proofs.Common.{◌≡◌, ◌⊎◌, ◌<◌, ◌+◌, ◌-◌, ◌++◌, ◌∷◌, ◌∙◌, [], ℕ, List, ap, arith, get_or, inl, inr, length, length-append, sym}
use Rattle.std.specs.List.Sorted.{IsPermutation}
use Rattle.std.proofs.lemmas.List.{get_or_append_left, get_or-append_right, get_or_default}
use Rattle.std.proofs.lemmas.List.Sorted.{Contains-permutation, IsPermutation-sym}
use Rattle.deposit_tables.specs.inside.Places.{ArePlaces}

-- the numbers below a place, in order
pub record AreNumbers (place : ℕ) (places : List ℕ) : Type 0 where
  pub count : length places ≡ place
  pub each : (i : ℕ) → i < place → get_or places i 0 ≡ i

pub one_number_more : (place : ℕ) (places : List ℕ) → AreNumbers place places → AreNumbers (place + 1) (places ++ place ∷ [])
one_number_more place places are = record {
  count = omega (arith, length-append places (place ∷ []), are.count);
  each = λ i below. by i below (tell i place);
}
  where
    tell : (m n : ℕ) → (m < n) ⊎ ((m ≡ n) ⊎ (n < m))
    tell m n = grind arith

    by : (i : ℕ) → i < place + 1 → (i < place) ⊎ ((i ≡ place) ⊎ (place < i)) → get_or (places ++ place ∷ []) i 0 ≡ i
    by i below (inl before) = get_or_append_left places (place ∷ []) 0 i (omega (arith, before, are.count)) ∙ are.each i before
    by i below (inr (inl same)) =
        let none : i - place ≡ 0 = omega (arith, same) in
        get_or-append_right places (place ∷ []) place i 0 are.count (omega (arith, same)) ∙ ap (λ (k : ℕ). get_or (place ∷ []) k 0) none ∙ sym same
    by i below (inr (inr above)) = absurd (omega (arith, above, below))

pub are_places : (place : ℕ) (places : List ℕ) → AreNumbers place places → ArePlaces place places
are_places place places are other = (
  λ has.
      let inside : has.0 < place = omega (arith, has.1, are.count) in
      let is : other ≡ has.0 = sym has.2 ∙ get_or_default places has.0 other 0 has.1 ∙ are.each has.0 inside in
      omega (arith, is, inside),
  λ below. let inside : other < length places = omega (arith, below, are.count) in (other, inside, get_or_default places other other 0 inside ∙ are.each other below),
)

pub places_moved : (count : ℕ) (places sorted : List ℕ) → ArePlaces count places → IsPermutation places sorted → ArePlaces count sorted
places_moved count places sorted are moved place = (
  λ has. (are place).0 (Contains-permutation _ _ place (IsPermutation-sym _ _ moved) has),
  λ below. Contains-permutation _ _ place moved ((are place).1 below),
)
