-- How many blocks are in a set, and how many are left once extents are taken from it.
use Rattle.std.proofs.Common.{◌≡◌, inl, inr, ⊎_elim, ℕ, zero, suc, ◌+◌, ◌-◌, ◌<◌, ◌≤◌, min, List, [], ◌∷◌, refl, sym, subst, arith}
use Rattle.std.specs.Prelude.{All}
use Rattle.std.proofs.lemmas.Bool.{cases_lt}
use Rattle.std.proofs.lemmas.List.Elements.{All-head, All-tail}
use Rattle.std.proofs.lemmas.List.Sums.{sum_by-append}
use Rattle.extent_map.specs.Extents.{AllIn, AreApart, blocks_of, HasAtLeast, HasCount, IsExtentOf, IsIn, IsInAny}
use Rattle.extent_map.specs.declared.extent.Extent.{Extent}
use Rattle.extent_map.specs.Map.{IsFree, size_of}
use Rattle.extent_map.specs.declared.map.ExtentMap.{ExtentMap}
use Rattle.extent_map.proofs.BitLemmas.{has_count}
use Rattle.extent_map.proofs.RunLemmas.{count_over}

-- the blocks of a set that are not in an extent
abbrev pub Without : (ℕ → Type 0) → Extent → ℕ → Type 0
Without set e b = set b × (IsIn e b → ⊥)

-- how many blocks of an extent lie below n
abbrev below : Extent → ℕ → ℕ
below e n = min (n - e.start) e.count

-- so many blocks are left below n
abbrev Leaves : (ℕ → Type 0) → Extent → ℕ → ℕ → Type 0
Leaves set e n count = (left : ℕ) × HasCount (Without set e) n left × (left + below e n ≡ count)

module _ (set : ℕ → Type 0) (e : Extent) (n : ℕ) where
  taken : (count before : ℕ) → set n → count ≡ before + 1 → Leaves set e n before → Leaves set e (suc n) count
  taken count before here one rest = ⊎_elim
      (λ (low : n < e.start). (rest.0 + 1, inl ((here, λ i. let from = i.0 in omega (arith, low, from)), rest.0, refl, rest.1), let sum = rest.2 in omega (arith, sum, one, low)))
      (λ (from : e.start ≤ n). ⊎_elim
      (λ (within : n < e.start + e.count). (rest.0, inr (λ w. w.1 (from, within), rest.1), let sum = rest.2 in omega (arith, sum, one, from, within)))
      (λ (past : e.start + e.count ≤ n). (rest.0 + 1, inl ((here, λ i. let to = i.1 in omega (arith, past, to)), rest.0, refl, rest.1), let sum = rest.2 in omega (arith, sum, one, past)))
      (cases_lt n (e.start + e.count)))
      (cases_lt n e.start)

  kept : (count : ℕ) → (IsIn e n → set n) → (set n → ⊥) → Leaves set e n count → Leaves set e (suc n) count
  kept count all off rest = ⊎_elim
      (λ (low : n < e.start). (rest.0, inr (λ w. off w.0, rest.1), let sum = rest.2 in omega (arith, sum, low)))
      (λ (from : e.start ≤ n). ⊎_elim
      (λ (within : n < e.start + e.count). absurd (off (all (from, within))))
      (λ (past : e.start + e.count ≤ n). (rest.0, inr (λ w. off w.0, rest.1), let sum = rest.2 in omega (arith, sum, past)))
      (cases_lt n (e.start + e.count)))
      (cases_lt n e.start)

count_without : (set : ℕ → Type 0) (e : Extent) (n count : ℕ) → ((b : ℕ) → IsIn e b → set b) → HasCount set n count → Leaves set e n count
count_without set e zero count all none = (0, refl, omega (arith, none))
count_without set e (suc n) count all (inl h) = taken set e n count h.1 h.0 h.2 (count_without set e n h.1 all h.3)
count_without set e (suc n) count all (inr h) = kept set e n count (all n) h.0 (count_without set e n count all h.1)

-- the blocks of a set that are in none of the extents
abbrev pub Beside : (ℕ → Type 0) → List Extent → ℕ → Type 0
Beside set es b = set b × (IsInAny es b → ⊥)

pub count_beside : (es : List Extent) (set : ℕ → Type 0) (n count : ℕ) → All (IsExtentOf n) es → AllIn set es → AreApart es → HasCount set n count
    → (left : ℕ) × HasCount (Beside set es) n left × (left + blocks_of es ≡ count)
count_beside [] set n count within all apart h = (count, count_over set (Beside set []) (λ b. (λ is. (is, λ none. none), λ w. w.0)) n count h, omega arith)
count_beside (e ∷ es) set n count within all apart h =
    let first = count_without set e n count (λ b i. all b (inl i)) h in
    let rest = count_beside es (Without set e) n first.0 (All-tail (IsExtentOf n) e es within) (λ b i. (all b (inr i), λ here. apart.0 b here i)) apart.1 first.1 in
    let inside = (All-head (IsExtentOf n) e es within).2 in
    let sum = sum_by-append (λ (x : Extent). x.count) (e ∷ []) es in
    let one = first.2 in
    let more = rest.2 in (
      rest.0,
      count_over (Beside (Without set e) es) (Beside set (e ∷ es))
          (λ b. (λ w. (w.0.0, λ i. ⊎_elim (λ (x : IsIn e b). w.0.1 x) (λ (x : IsInAny es b). w.1 x) i), λ w. ((w.0, λ i. w.1 (inl i)), λ i. w.1 (inr i)))) n rest.0 rest.1,
      omega (arith, inside, sum, one, more),
    )

-- extents in a set that are apart have no more blocks than it
pub has_blocks : (es : List Extent) (set : ℕ → Type 0) (n count : ℕ) → All (IsExtentOf n) es → AllIn set es → AreApart es → HasCount set n count → HasAtLeast set n (blocks_of es)
has_blocks es set n count within all apart h = let rest = (count_beside es set n count within all apart h).2 in (count, h, omega (arith, rest))

-- the blocks of a volume but block 0
abbrev pub Above0 : ℕ → ℕ → Type 0
Above0 size b = (1 ≤ b) × (b < size)

count_below : (size n : ℕ) → n ≤ size → HasCount (Above0 size) n (n - 1)
count_below size zero le = omega arith
count_below size (suc n) le = ⊎_elim
    (λ (none : n < 1). inr (λ w. let some = w.0 in omega (arith, none, some), subst (HasCount (Above0 size) n) (let e : n - 1 ≡ suc n - 1 = omega (arith, none) in e) (count_below size n (omega (arith, le)))))
    (λ (some : 1 ≤ n). inl ((some, omega (arith, le)), n - 1, omega (arith, some), count_below size n (omega (arith, le))))
    (cases_lt n 1)

pub lie_above0 : (size : ℕ) (es : List Extent) → All (IsExtentOf size) es → AllIn (Above0 size) es
lie_above0 size [] within b none = absurd none
lie_above0 size (e ∷ es) within b (inl here) = let first = All-head (IsExtentOf size) e es within in let low = first.0 in let high = first.2 in let from = here.0 in let to = here.1 in (omega arith, omega arith)
lie_above0 size (e ∷ es) within b (inr there) = lie_above0 size es (All-tail (IsExtentOf size) e es within) b there

-- how many blocks of a volume are in none of the extents
pub count_free : (size : ℕ) (es : List Extent) → All (IsExtentOf size) es → AreApart es → HasCount (Beside (Above0 size) es) size (size - 1 - blocks_of es)
count_free size es within apart =
    let rest = count_beside es (Above0 size) size (size - 1) within (lie_above0 size es within) apart (count_below size size (omega arith)) in
    let sum = rest.2 in
    subst (HasCount (Beside (Above0 size) es) size) (let e : rest.0 ≡ size - 1 - blocks_of es = omega (arith, sum) in e) rest.1

-- ---- a map

-- how many blocks are free in a map
pub counted : (map : ExtentMap) → HasCount (IsFree map) (size_of map) map.free
unfolding IsFree
counted map = subst (HasCount (IsFree map) map.blocks) (sym map.counted) (has_count map.words.items map.blocks)
