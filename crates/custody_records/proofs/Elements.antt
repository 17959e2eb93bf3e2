-- The elements of lists and maps, and that those of a list differ.
use Rattle.std.proofs.Common.{◌≡◌, ◌≢◌, ℕ, zero, suc, ◌+◌, ◌<◌, ◌≤◌, List, [], ◌∷◌, ◌++◌, ◌⊎◌, inl, inr, length, map, Some, Bool, true, false, ◌&&◌, refl, sym, ◌∙◌, ap, subst, cond, arith, Contains, get_or, ◌==◌}
use Rattle.std.specs.Prelude.{T}
use Rattle.std.proofs.lemmas.Bool.Decides.{Decides-eqb}
use Rattle.std.specs.List.{filter, flat_map, range_with_len}
use Rattle.std.specs.Ordering.{is_eq, is_lt, ordering_reverse}
use Rattle.std.specs.Cmp.{IsTotalOrder, tied_itself, Equal-is}
use Rattle.std.specs.declared.cmp.Ordering.{Ordering}
use Rattle.std.specs.declared.cmp.Ordering.TheVariants.{Less, Equal, Greater}
use Rattle.std.specs.FinMap.{FinMap, IsAntisymmetric, entries, entries_sorted, get, get-entries, find, is_sorted}
use Rattle.std.specs.FinMap.Entries.{below_all}

-- an element of a list
abbrev pub IsIn : {X : Type 0} → List X → X → Type 0
IsIn [] x = ⊥
IsIn (y ∷ ys) x = (y ≡ x) ⊎ IsIn ys x

-- the elements of a list differ
abbrev pub Differ : {X : Type 0} → List X → Type 0
Differ [] = Unit {0}
Differ (x ∷ xs) = (IsIn xs x → ⊥) × Differ xs

module _ {X : Type 0} where
  pub is_in : (xs : List X) (x : X) → Contains xs x → IsIn xs x
  is_in [] x c = absurd (omega (arith, c.1))
  is_in (y ∷ ys) x c = by c.0 c.1 c.2 (is_in ys x)
    where
      by : (k : ℕ) → k < length (y ∷ ys) → get_or (y ∷ ys) k x ≡ x → (Contains ys x → IsIn ys x) → IsIn (y ∷ ys) x
      by zero lt e rest = inl e
      by (suc k) lt e rest = let less : k < length ys = omega (arith, lt) in inr (rest (k, less, e))

  pub contained : (xs : List X) (x : X) → IsIn xs x → Contains xs x
  contained [] x h = absurd h
  contained (y ∷ ys) x (inl e) = (0, omega arith, e)
  contained (y ∷ ys) x (inr h) = let c = contained ys x h in (suc c.0, omega (arith, c.1), c.2)

  pub joined_in : (xs ys : List X) (x : X) → IsIn (xs ++ ys) x → IsIn xs x ⊎ IsIn ys x
  joined_in [] ys x h = inr h
  joined_in (z ∷ xs) ys x (inl e) = inl (inl e)
  joined_in (z ∷ xs) ys x (inr h) = by (joined_in xs ys x h)
    where
      by : IsIn xs x ⊎ IsIn ys x → IsIn (z ∷ xs) x ⊎ IsIn ys x
      by (inl h) = inl (inr h)
      by (inr h) = inr h

  pub in_first : (xs ys : List X) (x : X) → IsIn xs x → IsIn (xs ++ ys) x
  in_first [] ys x h = absurd h
  in_first (z ∷ xs) ys x (inl e) = inl e
  in_first (z ∷ xs) ys x (inr h) = inr (in_first xs ys x h)

  pub in_second : (xs ys : List X) (x : X) → IsIn ys x → IsIn (xs ++ ys) x
  in_second [] ys x h = h
  in_second (z ∷ xs) ys x h = inr (in_second xs ys x h)

  pub filtered_in : (test : X → Bool) (xs : List X) (x : X) → IsIn (filter test xs) x → IsIn xs x × (test x ≡ true)
  filtered_in test [] x h = absurd h
  filtered_in test (y ∷ ys) x h = by (test y) refl h (filtered_in test ys x)
    where
      by : (b : Bool) → test y ≡ b → IsIn (cond b (y ∷ filter test ys) (filter test ys)) x → (IsIn (filter test ys) x → IsIn ys x × (test x ≡ true)) → IsIn (y ∷ ys) x × (test x ≡ true)
      by true is (inl e) rest = (inl e, ap test (sym e) ∙ is)
      by true is (inr h) rest = let r = rest h in (inr r.0, r.1)
      by false is h rest = let r = rest h in (inr r.0, r.1)

  pub in_filtered : (test : X → Bool) (xs : List X) (x : X) → IsIn xs x → test x ≡ true → IsIn (filter test xs) x
  in_filtered test [] x h is = absurd h
  in_filtered test (y ∷ ys) x h is = by (test y) refl h (λ h. in_filtered test ys x h is)
    where
      by : (b : Bool) → test y ≡ b → IsIn (y ∷ ys) x → (IsIn ys x → IsIn (filter test ys) x) → IsIn (cond b (y ∷ filter test ys) (filter test ys)) x
      by true on (inl e) rest = inl e
      by true on (inr h) rest = inr (rest h)
      by false on (inl e) rest = let no : false ≡ true = sym on ∙ ap test e ∙ is in cc
      by false on (inr h) rest = rest h

  -- ---- those of a list differ

  pub filtered_differ : (test : X → Bool) (xs : List X) → Differ xs → Differ (filter test xs)
  filtered_differ test [] d = tt
  filtered_differ test (y ∷ ys) d = by (test y) (filtered_differ test ys d.1)
    where
      by : (b : Bool) → Differ (filter test ys) → Differ (cond b (y ∷ filter test ys) (filter test ys))
      by true rest = (λ h. d.0 (filtered_in test ys y h).0, rest)
      by false rest = rest

  pub joined_differ : (xs ys : List X) → Differ xs → Differ ys → ((x : X) → IsIn xs x → IsIn ys x → ⊥) → Differ (xs ++ ys)
  joined_differ [] ys d e apart = e
  joined_differ (x ∷ xs) ys d e apart = (λ h. by (joined_in xs ys x h), joined_differ xs ys d.1 e (λ z a b. apart z (inr a) b))
    where
      by : IsIn xs x ⊎ IsIn ys x → ⊥
      by (inl h) = d.0 h
      by (inr h) = apart x (inl refl) h

-- ---- a list of each element of another

module _ {X Y : Type 0} (f : X → List Y) where
  pub flattened_in : (xs : List X) (y : Y) → IsIn (flat_map f xs) y → (x : X) × IsIn xs x × IsIn (f x) y
  flattened_in [] y h = absurd h
  flattened_in (x ∷ xs) y h = by (joined_in (f x) (flat_map f xs) y h) (flattened_in xs y)
    where
      by : IsIn (f x) y ⊎ IsIn (flat_map f xs) y → (IsIn (flat_map f xs) y → (z : X) × IsIn xs z × IsIn (f z) y) → (z : X) × IsIn (x ∷ xs) z × IsIn (f z) y
      by (inl h) rest = (x, inl refl, h)
      by (inr h) rest = let r = rest h in (r.0, inr r.1, r.2)

  pub in_flattened : (xs : List X) (x : X) (y : Y) → IsIn xs x → IsIn (f x) y → IsIn (flat_map f xs) y
  in_flattened [] x y h at = absurd h
  in_flattened (z ∷ xs) x y (inl e) at = in_first (f z) (flat_map f xs) y (subst (λ w. IsIn (f w) y) (sym e) at)
  in_flattened (z ∷ xs) x y (inr h) at = in_second (f z) (flat_map f xs) y (in_flattened xs x y h at)

-- ---- what a function gives for each element

module _ {X Y : Type 0} (f : X → Y) where
  pub mapped_in : (xs : List X) (y : Y) → IsIn (map f xs) y → (x : X) × IsIn xs x × (f x ≡ y)
  mapped_in [] y h = absurd h
  mapped_in (x ∷ xs) y (inl e) = (x, inl refl, e)
  mapped_in (x ∷ xs) y (inr h) = let r = mapped_in xs y h in (r.0, inr r.1, r.2)

  pub in_mapped : (xs : List X) (x : X) → IsIn xs x → IsIn (map f xs) (f x)
  in_mapped [] x h = absurd h
  in_mapped (y ∷ xs) x (inl e) = inl (ap f e)
  in_mapped (y ∷ xs) x (inr h) = inr (in_mapped xs x h)

-- ---- numbers in a row

pub differs : (a b : ℕ) → (a == b) ≡ false → a ≢ b
differs a b e same = let no : false ≡ true = sym e ∙ (Decides-eqb a b).1 same in cc

module _ {X : Type 0} (f : ℕ → X) where
  pub ranged_in : (a n : ℕ) (x : X) → IsIn (map f (range_with_len a n)) x → (d : ℕ) × (a ≤ d) × (d < a + n) × (f d ≡ x)
  ranged_in a zero x h = absurd h
  ranged_in a (suc n) x (inl e) = (a, omega arith, omega arith, e)
  ranged_in a (suc n) x (inr h) = let r = ranged_in (a + 1) n x h in (r.0, omega (arith, r.1), omega (arith, r.2), r.3)

  pub in_ranged : (a n d : ℕ) → a ≤ d → d < a + n → IsIn (map f (range_with_len a n)) (f d)
  in_ranged a zero d low high = absurd (omega (arith, low, high))
  in_ranged a (suc n) d low high = by (d == a) refl (in_ranged (a + 1) n d)
    where
      by : (b : Bool) → (d == a) ≡ b → (a + 1 ≤ d → d < a + 1 + n → IsIn (map f (range_with_len (a + 1) n)) (f d)) → IsIn (map f (range_with_len a (suc n))) (f d)
      by true e rest = inl (ap f (sym ((Decides-eqb d a).0 e)))
      by false e rest = let other : d ≢ a = differs d a e in inr (rest (omega (arith, low, other)) (omega (arith, high)))

  pub ranged_differ : ((c d : ℕ) → f c ≡ f d → c ≡ d) → (a n : ℕ) → Differ (map f (range_with_len a n))
  ranged_differ one a zero = tt
  ranged_differ one a (suc n) = (λ h. let r = ranged_in (a + 1) n (f a) h in let same : r.0 ≡ a = one r.0 a r.3 in absurd (omega (arith, r.1, same)), ranged_differ one (a + 1) n)

-- ---- the entries of a map

split : (a b : Bool) → T (a && b) → T a × T b
split true b h = (tt, h)
split false b h = absurd h

less_is : (r : Ordering) → T (is_lt r) → r ≡ Less
less_is Less h = refl
less_is Equal h = absurd h
less_is Greater h = absurd h

module _ {K X : Type 0} {R : K → K → Ordering} (o : IsTotalOrder R) where
  below_in : (k : K) (es : List (K × X)) (e : K × X) → T (below_all R k es) → IsIn es e → R k e.0 ≡ Less
  below_in k [] e h at = absurd at
  below_in k (x ∷ es) e h (inl is) = ap (λ (z : K × X). R k z.0) (sym is) ∙ less_is _ (split _ _ h).0
  below_in k (x ∷ es) e h (inr at) = below_in k es e (split _ _ h).1 at

  found_in : IsAntisymmetric R → (es : List (K × X)) (k : K) (v : X) → find R k es ≡ Some v → IsIn es (k, v)
  found_in exact [] k v h = cc
  found_in exact (e ∷ es) k v h = by (is_eq (R k e.0)) refl h (found_in exact es k v)
    where
      by : (b : Bool) → is_eq (R k e.0) ≡ b → cond b (Some e.1) (find R k es) ≡ Some v → (find R k es ≡ Some v → IsIn es (k, v)) → IsIn (e ∷ es) (k, v)
      by true is h rest =
          let key : k ≡ e.0 = exact k e.0 ((Equal-is (R k e.0)).0 is) in
          let value : e.1 ≡ v = cc in
          inl (λ i. (sym key i, value i))
      by false is h rest = inr (rest h)

  find_in : (es : List (K × X)) (k : K) (v : X) → T (is_sorted R es) → IsIn es (k, v) → find R k es ≡ Some v
  find_in [] k v h at = absurd at
  find_in (e ∷ es) k v h (inl is) = ap (λ (z : K × X). cond (is_eq (R k z.0)) (Some z.1) (find R k es)) is ∙ ap (λ r. cond (is_eq r) (Some v) (find R k es)) (tied_itself o k)
  find_in (e ∷ es) k v h (inr at) =
      let greater : R k e.0 ≡ Greater = o.antisymm k e.0 ∙ ap ordering_reverse (below_in e.0 es (k, v) (split _ _ h).0 at) in
      ap (λ r. cond (is_eq r) (Some e.1) (find R k es)) greater ∙ find_in es k v (split _ _ h).1 at

  module _ (m : FinMap R X) (k : K) (v : X) where
    pub got_in : IsAntisymmetric R → get m k ≡ Some v → IsIn (entries m) (k, v)
    got_in exact at = found_in exact (entries m) k v (sym (get-entries m k) ∙ at)

    pub get_in : IsIn (entries m) (k, v) → get m k ≡ Some v
    get_in at = get-entries m k ∙ find_in (entries m) k v (entries_sorted m) at

  -- lists of the entries' own keys have no element in common
  module _ {Y : Type 0} (f : K × X → List (K × Y)) (own : (e : K × X) (y : K × Y) → IsIn (f e) y → y.0 ≡ e.0) (each : (e : K × X) → Differ (f e)) where
    flattened_differ : (es : List (K × X)) → T (is_sorted R es) → Differ (flat_map f es)
    flattened_differ [] h = tt
    flattened_differ (e ∷ es) h = joined_differ (f e) (flat_map f es) (each e) (flattened_differ es (split _ _ h).1) (λ y a b.
        let later = flattened_in f es y b in
        let key : later.0.0 ≡ e.0 = sym (own later.0 y later.2) ∙ own e y a in
        let less : R e.0 e.0 ≡ Less = ap (R e.0) (sym key) ∙ below_in e.0 es later.0 (split _ _ h).0 later.1 in
        let tied : Less ≡ Equal = sym less ∙ tied_itself o e.0 in
        cc)

    pub entries_differ : (m : FinMap R X) → Differ (flat_map f (entries m))
    entries_differ m = flattened_differ (entries m) (entries_sorted m)
