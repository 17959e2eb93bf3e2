-- Lists on whose items two functions agree.
use Rattle.std.proofs.Common.{◌≡◌, List, [], ◌∷◌, Option, Some, None, Bool, true, false, ◌||◌, refl, sym, ◌∙◌, ap, cond, map, subst}
use Rattle.std.specs.List.{cons_option, filter, filter_map, last_or, list_any}

or_left : (a b : Bool) → a ≡ true → (a || b) ≡ true
or_left true b q = refl
or_left false b q = cc

or_right : (a b : Bool) → b ≡ true → (a || b) ≡ true
or_right true b q = refl
or_right false b q = q

-- what holds of each item
abbrev pub Each : {X : Type 0} → (X → Type 0) → List X → Type 0
Each P [] = Unit {0}
Each P (x ∷ xs) = P x × Each P xs

module _ {X : Type 0} where
  pub each_of : (P : X → Type 0) → ((x : X) → P x) → (xs : List X) → Each P xs
  each_of P all [] = tt
  each_of P all (x ∷ xs) = (all x, each_of P all xs)

  pub each_then : (P Q : X → Type 0) → ((x : X) → P x → Q x) → (xs : List X) → Each P xs → Each Q xs
  each_then P Q goes [] each = tt
  each_then P Q goes (x ∷ xs) each = (goes x each.0, each_then P Q goes xs each.1)

  -- each item that is left passes
  pub each_left : (test : X → Bool) (P : X → Type 0) → ((x : X) → test x ≡ true → P x) → (xs : List X) → Each P (filter test xs)
  each_left test P passes [] = tt
  each_left test P passes (x ∷ xs) = by (test x) refl (each_left test P passes xs)
    where
      by : (b : Bool) → test x ≡ b → Each P (filter test xs) → Each P (cond b (x ∷ filter test xs) (filter test xs))
      by true is rest = (passes x is, rest)
      by false is rest = rest

  -- what holds of each holds of each that is left
  pub each_kept : (test : X → Bool) (P : X → Type 0) (xs : List X) → Each P xs → Each P (filter test xs)
  each_kept test P [] each = tt
  each_kept test P (x ∷ xs) each = by (test x) (each_kept test P xs each.1)
    where
      by : (b : Bool) → Each P (filter test xs) → Each P (cond b (x ∷ filter test xs) (filter test xs))
      by true rest = (each.0, rest)
      by false rest = rest

  pub of_last : (P : X → Type 0) (o : Option X) (xs : List X) (x : X) → Each P xs → (o ≡ Some x → P x) → last_or o xs ≡ Some x → P x
  of_last P o [] x each first is = first is
  of_last P o (y ∷ xs) x each first is = of_last P (Some y) xs x each.1 (λ e. let same : y ≡ x = cc in subst P same each.0) is

  -- a test that an item passes finds one
  pub each_is_found : (xs : List X) → Each (λ x. (test : X → Bool) → test x ≡ true → list_any test xs ≡ true) xs
  each_is_found [] = tt
  each_is_found (x ∷ xs) = (
    λ test is. or_left (test x) (list_any test xs) is,
    each_then (λ y. (test : X → Bool) → test y ≡ true → list_any test xs ≡ true) (λ y. (test : X → Bool) → test y ≡ true → list_any test (x ∷ xs) ≡ true) (λ y found test is. or_right (test x) (list_any test xs) (found test is)) xs (each_is_found xs),
  )

  -- where none is found, none passes
  pub each_fails : (test : X → Bool) (xs : List X) → list_any test xs ≡ false → Each (λ x. test x ≡ false) xs
  each_fails test [] none = tt
  each_fails test (x ∷ xs) none = by (test x) refl none (each_fails test xs)
    where
      by : (b : Bool) → test x ≡ b → (b || list_any test xs) ≡ false → (list_any test xs ≡ false → Each (λ x. test x ≡ false) xs) → (test x ≡ false) × Each (λ x. test x ≡ false) xs
      by true is none rest = cc
      by false is none rest = (is, rest none)

  pub filter_alike : (p q : X → Bool) (xs : List X) → Each (λ x. p x ≡ q x) xs → filter p xs ≡ filter q xs
  filter_alike p q [] each = refl
  filter_alike p q (x ∷ xs) each = λ i. cond (each.0 i) (x ∷ filter_alike p q xs each.1 i) (filter_alike p q xs each.1 i)

  -- what a test passes is among what a wider one passes
  pub any_wider : (p q : X → Bool) → ((x : X) → p x ≡ true → q x ≡ true) → (xs : List X) → list_any p xs ≡ true → list_any q xs ≡ true
  any_wider p q wider [] some = cc
  any_wider p q wider (x ∷ xs) some = by (p x) refl some (any_wider p q wider xs)
    where
      by : (b : Bool) → p x ≡ b → (b || list_any p xs) ≡ true → (list_any p xs ≡ true → list_any q xs ≡ true) → list_any q (x ∷ xs) ≡ true
      by true is some rest = or_left (q x) (list_any q xs) (wider x is)
      by false is some rest = or_right (q x) (list_any q xs) (rest some)

  -- what is found among those that are left is found among all
  pub any_of_left : (kept test : X → Bool) (xs : List X) → list_any test (filter kept xs) ≡ true → list_any test xs ≡ true
  any_of_left kept test [] some = some
  any_of_left kept test (x ∷ xs) some = by (kept x) some (any_of_left kept test xs)
    where
      by : (b : Bool) → list_any test (cond b (x ∷ filter kept xs) (filter kept xs)) ≡ true → (list_any test (filter kept xs) ≡ true → list_any test xs ≡ true) → (test x || list_any test xs) ≡ true
      by true some rest = first (test x) some rest
        where
          first : (b : Bool) → (b || list_any test (filter kept xs)) ≡ true → (list_any test (filter kept xs) ≡ true → list_any test xs ≡ true) → (b || list_any test xs) ≡ true
          first true some rest = refl
          first false some rest = rest some
      by false some rest = or_right (test x) (list_any test xs) (rest some)

  module _ {Y : Type 0} (f : X → Y) where
    pub each_mapped : (P : Y → Type 0) (xs : List X) → Each (λ x. P (f x)) xs → Each P (map f xs)
    each_mapped P [] each = tt
    each_mapped P (x ∷ xs) each = (each.0, each_mapped P xs each.1)

  module _ (kept : X → Bool) where
    -- items that a test does not pass are not missed by a narrower one
    pub any_of_kept : (test : X → Bool) → ((x : X) → kept x ≡ false → test x ≡ false) → (xs : List X) → list_any test (filter kept xs) ≡ list_any test xs
    any_of_kept test missed [] = refl
    any_of_kept test missed (x ∷ xs) = by (kept x) refl (any_of_kept test missed xs)
      where
        by : (b : Bool) → kept x ≡ b → list_any test (filter kept xs) ≡ list_any test xs → list_any test (cond b (x ∷ filter kept xs) (filter kept xs)) ≡ (test x || list_any test xs)
        by true is rest = ap (λ b. test x || b) rest
        by false is rest = rest ∙ sym (ap (λ b. b || list_any test xs) (missed x is))

    module _ {Y : Type 0} (h : X → Option Y) (missed : (x : X) → kept x ≡ false → h x ≡ None) where
      pub some_of_kept : (xs : List X) → filter_map h (filter kept xs) ≡ filter_map h xs
      some_of_kept [] = refl
      some_of_kept (x ∷ xs) = by (kept x) refl (some_of_kept xs)
        where
          by : (b : Bool) → kept x ≡ b → filter_map h (filter kept xs) ≡ filter_map h xs → filter_map h (cond b (x ∷ filter kept xs) (filter kept xs)) ≡ filter_map h (x ∷ xs)
          by true is rest = ap (cons_option (h x)) rest
          by false is rest = rest ∙ sym (ap (λ o. cons_option o (filter_map h xs)) (missed x is))

      pub some_that_pass : (test : X → Bool) (xs : List X) → filter_map h (filter test (filter kept xs)) ≡ filter_map h (filter test xs)
      some_that_pass test [] = refl
      some_that_pass test (x ∷ xs) = by (kept x) refl (test x) refl (some_that_pass test xs)
        where
          by : (b : Bool) → kept x ≡ b → (c : Bool) → test x ≡ c → filter_map h (filter test (filter kept xs)) ≡ filter_map h (filter test xs)
              → filter_map h (filter test (cond b (x ∷ filter kept xs) (filter kept xs))) ≡ filter_map h (cond c (x ∷ filter test xs) (filter test xs))
          by true is true passes rest = ap (λ c. filter_map h (cond c (x ∷ filter test (filter kept xs)) (filter test (filter kept xs)))) passes ∙ ap (cons_option (h x)) rest
          by true is false passes rest = ap (λ c. filter_map h (cond c (x ∷ filter test (filter kept xs)) (filter test (filter kept xs)))) passes ∙ rest
          by false is true passes rest = rest ∙ sym (ap (λ o. cons_option o (filter_map h (filter test xs))) (missed x is))
          by false is false passes rest = rest
