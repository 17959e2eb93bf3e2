-- Extents that are apart.
use Rattle.std.proofs.Common.{◌⊎◌, inl, inr, ⊎_elim, ℕ, List, [], ◌∷◌, ◌++◌}
use Rattle.vault_volume.specs.Extents.{IsInAny, AreApart}
use Rattle.extent_map.specs.declared.extent.Extent.{Extent}

-- ---- the blocks of two lists of extents

pub in_left : (xs ys : List Extent) (b : ℕ) → IsInAny xs b → IsInAny (xs ++ ys) b
in_left [] ys b none = absurd none
in_left (x ∷ xs) ys b (inl here) = inl here
in_left (x ∷ xs) ys b (inr there) = inr (in_left xs ys b there)

pub in_right : (xs ys : List Extent) (b : ℕ) → IsInAny ys b → IsInAny (xs ++ ys) b
in_right [] ys b there = there
in_right (x ∷ xs) ys b there = inr (in_right xs ys b there)

pub in_either : (xs ys : List Extent) (b : ℕ) → IsInAny (xs ++ ys) b → IsInAny xs b ⊎ IsInAny ys b
in_either [] ys b there = inr there
in_either (x ∷ xs) ys b (inl here) = inl (inl here)
in_either (x ∷ xs) ys b (inr there) = ⊎_elim (λ (i : IsInAny xs b). inl (inr i)) (λ (i : IsInAny ys b). inr i) (in_either xs ys b there)

-- ---- two lists of extents that are apart

pub apart_left : (xs ys : List Extent) → AreApart (xs ++ ys) → AreApart xs
apart_left [] ys apart = tt
apart_left (x ∷ xs) ys apart = (λ b here there. apart.0 b here (in_left xs ys b there), apart_left xs ys apart.1)

pub apart_right : (xs ys : List Extent) → AreApart (xs ++ ys) → AreApart ys
apart_right [] ys apart = apart
apart_right (x ∷ xs) ys apart = apart_right xs ys apart.1

pub apart_between : (xs ys : List Extent) → AreApart (xs ++ ys) → (b : ℕ) → IsInAny xs b → IsInAny ys b → ⊥
apart_between [] ys apart b none there = none
apart_between (x ∷ xs) ys apart b (inl here) there = apart.0 b here (in_right xs ys b there)
apart_between (x ∷ xs) ys apart b (inr here) there = apart_between xs ys apart.1 b here there

pub apart_append : (xs ys : List Extent) → AreApart xs → AreApart ys → ((b : ℕ) → IsInAny xs b → IsInAny ys b → ⊥) → AreApart (xs ++ ys)
apart_append [] ys first second between = second
apart_append (x ∷ xs) ys first second between = (
  λ b here there. ⊎_elim (λ (i : IsInAny xs b). first.0 b here i) (λ (i : IsInAny ys b). between b (inl here) i) (in_either xs ys b there),
  apart_append xs ys first.1 second (λ b here there. between b (inr here) there),
)
