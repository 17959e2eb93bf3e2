-- The set of free blocks after runs of bits are changed.
use Rattle.std.proofs.Common.{◌≡◌, ◌⊎◌, inl, inr, ⊎_elim, ℕ, zero, suc, ◌+◌, ◌/◌, ◌%◌, ◌<◌, ◌≤◌, List, [], ◌∷◌, ◌++◌, length, take, get_or, replicate, refl, sym, ap, subst, ◌∙◌, arith}
use Rattle.std.specs.Prelude.{slice_index}
use Rattle.std.specs.Int.{bit_at}
use Rattle.std.proofs.lemmas.Bool.{cases_lt}
use Rattle.std.proofs.lemmas.List.{take_more}
use Rattle.std.proofs.lemmas.Nat.Bits.{bit_at-zero}
use Rattle.extent_map.specs.Words.{bit, IsOneIn}
use Rattle.extent_map.specs.Extents.{IsIn, IsInAny, IsFreeRun, IsExtentOf, IsFreeOf, AreApart, Takes, GivesBack}
use Rattle.extent_map.specs.declared.extent.Extent.{Extent}
use Rattle.extent_map.proofs.BitLemmas.{never_both}

pub is_in_one : (e : Extent) (b : ℕ) → IsInAny (e ∷ []) b → IsIn e b
is_in_one e b (inl here) = here
is_in_one e b (inr none) = absurd none

-- a block is in the extent or it is not
pub in_or_not : (e : Extent) (b : ℕ) → IsIn e b ⊎ (IsIn e b → ⊥)
in_or_not e b = ⊎_elim
    (λ (below : b < e.start). inr (λ h. let low = h.0 in omega arith))
    (λ (from : e.start ≤ b). ⊎_elim
    (λ (here : b < e.start + e.count). inl (from, here))
    (λ (past : e.start + e.count ≤ b). inr (λ h. let high = h.1 in omega arith))
    (cases_lt b (e.start + e.count)))
    (cases_lt b e.start)

-- no bit of words of 0 is 1
pub zero_words : (n b : ℕ) → bit (replicate n 0) b ≡ 0
zero_words n b = ap (λ word. bit_at word (b % 64)) (none n (b / 64)) ∙ bit_at-zero (b % 64)
  where
    none : (n w : ℕ) → slice_index (replicate n 0) w ≡ 0
    none zero w = refl
    none (suc n) zero = refl
    none (suc n) (suc w) = none n w

module _ (old new : List ℕ) (e : Extent) (below : (b : ℕ) → b < e.start → bit new b ≡ bit old b) (above : (b : ℕ) → e.start + e.count ≤ b → bit new b ≡ bit old b) where
  pub outside : (b : ℕ) → (IsIn e b → ⊥) → bit new b ≡ bit old b
  outside b out = ⊎_elim
      (λ (low : b < e.start). below b low)
      (λ (from : e.start ≤ b). ⊎_elim (λ (here : b < e.start + e.count). absurd (out (from, here))) (λ (past : e.start + e.count ≤ b). above b past) (cases_lt b (e.start + e.count)))
      (cases_lt b e.start)

  pub takes : ((b : ℕ) → e.start ≤ b → b < e.start + e.count → bit new b ≡ 0) → IsFreeRun (IsOneIn old) e.start e.count → Takes (IsOneIn old) (e ∷ []) (IsOneIn new)
  takes here were b = (
    λ is. ⊎_elim
        (λ (i : IsIn e b). absurd (never_both (here b i.0 i.1) is))
        (λ (out : IsIn e b → ⊥). (sym (outside b out) ∙ is, λ i. out (is_in_one e b i)))
        (in_or_not e b),
    λ was out. outside b (λ i. out (inl i)) ∙ was,
  )

  pub gives : ((b : ℕ) → e.start ≤ b → b < e.start + e.count → bit new b ≡ 1) → GivesBack (IsOneIn old) (e ∷ []) (IsOneIn new)
  gives here b = (
    λ is. ⊎_elim (λ (i : IsIn e b). inr (inl i)) (λ (out : IsIn e b → ⊥). inl (sym (outside b out) ∙ is)) (in_or_not e b),
    λ either. ⊎_elim
        (λ (i : IsIn e b). here b i.0 i.1)
        (λ (out : IsIn e b → ⊥). ⊎_elim (λ (was : IsOneIn old b). outside b out ∙ was) (λ (i : IsInAny (e ∷ []) b). absurd (out (is_in_one e b i))) either)
        (in_or_not e b),
  )

-- each free block lies in the volume, above block 0
abbrev pub AreInRange : ℕ → List ℕ → Type 0
AreInRange blocks words = (b : ℕ) → bit words b ≡ 1 → (1 ≤ b) × (b < blocks)

pub taken_in_range : (blocks : ℕ) (old new : List ℕ) (e : Extent) → AreInRange blocks old → Takes (IsOneIn old) (e ∷ []) (IsOneIn new) → AreInRange blocks new
taken_in_range blocks old new e were takes b is = were b ((takes b).0 is).0

pub given_in_range : (blocks : ℕ) (old new : List ℕ) (e : Extent) → AreInRange blocks old → IsExtentOf blocks e → GivesBack (IsOneIn old) (e ∷ []) (IsOneIn new) → AreInRange blocks new
given_in_range blocks old new e were within gives b is = ⊎_elim
    (λ (was : IsOneIn old b). were b was)
    (λ (i : IsInAny (e ∷ []) b). let here = is_in_one e b i in let low = here.0 in let high = here.1 in let first = within.0 in let last = within.2 in (omega arith, omega arith))
    ((gives b).0 is)

-- ---- extents of a list, one after the other

pub in_more : (xs : List Extent) (e : Extent) (b : ℕ) → IsInAny (xs ++ e ∷ []) b → IsInAny xs b ⊎ IsIn e b
in_more [] e b (inl here) = inr here
in_more [] e b (inr none) = absurd none
in_more (x ∷ xs) e b (inl here) = inl (inl here)
in_more (x ∷ xs) e b (inr there) = ⊎_elim (λ (i : IsInAny xs b). inl (inr i)) (λ (h : IsIn e b). inr h) (in_more xs e b there)

pub in_either : (xs : List Extent) (e : Extent) (b : ℕ) → IsInAny xs b ⊎ IsIn e b → IsInAny (xs ++ e ∷ []) b
in_either [] e b (inl none) = absurd none
in_either [] e b (inr here) = inl here
in_either (x ∷ xs) e b (inl (inl here)) = inl here
in_either (x ∷ xs) e b (inl (inr there)) = inr (in_either xs e b (inl there))
in_either (x ∷ xs) e b (inr here) = inr (in_either xs e b (inr here))

-- a block of one extent of a list is in the list
pub in_at : (es : List Extent) (i : ℕ) (d : Extent) (b : ℕ) → i < length es → IsIn (get_or es i d) b → IsInAny es b
in_at [] i d b lt here = absurd (omega arith)
in_at (e ∷ es) zero d b lt here = inl here
in_at (e ∷ es) (suc i) d b lt here = inr (in_at es i d b (omega arith) here)

pub apart_last : (xs : List Extent) (e : Extent) → AreApart xs → ((b : ℕ) → IsIn e b → ¬ IsInAny xs b) → AreApart (xs ++ e ∷ [])
apart_last [] e h new = (λ b i none. none, tt)
apart_last (x ∷ xs) e h new = (
  λ b i there. ⊎_elim (λ (j : IsInAny xs b). h.0 b i j) (λ (j : IsIn e b). new b j (inl i)) (in_more xs e b there),
  apart_last xs e h.1 (λ b i there. new b i (inr there)),
)

-- a block of an extent and of one before it
pub meet : (es : List Extent) (i : ℕ) (d : Extent) (b : ℕ) → i < length es → IsInAny (take i es) b → IsIn (get_or es i d) b → ¬ AreApart es
meet [] i d b lt before here h = absurd (omega arith)
meet (e ∷ es) zero d b lt before here h = before
meet (e ∷ es) (suc i) d b lt (inl first) here h = h.0 b first (in_at es i d b (omega arith) here)
meet (e ∷ es) (suc i) d b lt (inr there) here h = meet es i d b (omega arith) there here h.1

module _ (es : List Extent) (i : ℕ) (d : Extent) (lt : i < length es) where
  pub apart_next : AreApart (take i es) → ((b : ℕ) → IsIn (get_or es i d) b → ¬ IsInAny (take i es) b) → AreApart (take (i + 1) es)
  apart_next h new = subst AreApart (sym (take_more es i d lt)) (apart_last (take i es) (get_or es i d) h new)

  pub free_next : (size : ℕ) (old new : ℕ → Type 0) → IsFreeOf size (take i es) old → Takes old (get_or es i d ∷ []) new → IsFreeOf size (take (i + 1) es) new
  free_next size old new before takes =
      let next = take_more es i d lt in
      let e = get_or es i d in
      λ b. (
        λ is.
            let was = (takes b).0 is in
            let range = (before b).0 was.0 in
            (range.0, range.1, λ there. ⊎_elim (λ (j : IsInAny (take i es) b). range.2 j) (λ (j : IsIn e b). was.1 (inl j)) (in_more (take i es) e b (subst (λ l. IsInAny l b) next there))),
        λ low high out.
            let add = λ (j : IsInAny (take i es) b ⊎ IsIn e b). out (subst (λ l. IsInAny l b) (sym next) (in_either (take i es) e b j)) in
            (takes b).1 ((before b).1 low high (λ j. add (inl j))) (λ j. add (inr (is_in_one e b j))),
      )

  -- a block that is not free is block 0, or was taken
  pub was_taken : (size : ℕ) (free : ℕ → Type 0) → IsFreeOf size (take i es) free → IsExtentOf size (get_or es i d) → (b : ℕ) → IsIn (get_or es i d) b → ¬ free b → ¬ AreApart es
  was_taken size free before within b here used apart =
      let first = within.0 in
      let last = within.2 in
      let low = here.0 in
      let high = here.1 in
      used ((before b).1 (omega arith) (omega arith) (λ there. meet es i d b lt there here apart))
