-- What is known of an optional value.
use Rattle.std.proofs.Common.{◌≡◌, Option, Some, None, Bool, true, false, ◌&&◌, refl, sym, ◌∙◌, ap, cond, is_some, is_none}
use Rattle.std.specs.Prelude.{option_map}
use Rattle.std.specs.Option.{option_and_then}
use Rattle.std.proofs.lemmas.Option.{cond_some, same_Some}

pub mapped : {A B : Type 0} (f : A → B) (o : Option A) (y : B) → option_map f o ≡ Some y → (x : A) × (o ≡ Some x) × (f x ≡ y)
mapped f None y e = cc
mapped f (Some x) y e = (x, refl, same_Some (f x) y e)

pub unmapped : {A B : Type 0} (f : A → B) (o : Option A) → option_map f o ≡ None → o ≡ None
unmapped f None e = refl
unmapped f (Some x) e = cc

-- the value, where it passes a test
pub passing : {A : Type 0} (test : A → Bool) (o : Option A) (x : A) → option_and_then (λ a. cond (test a) (Some a) None) o ≡ Some x → (o ≡ Some x) × (test x ≡ true)
passing test None x e = cc
passing test (Some a) x e = let h = cond_some (test a) a x e in (ap Some h.1, ap test (sym h.1) ∙ h.0)

pub passing_of : {A : Type 0} (test : A → Bool) (o : Option A) (x : A) → o ≡ Some x → test x ≡ true → option_and_then (λ a. cond (test a) (Some a) None) o ≡ Some x
passing_of test o x at on = ap (option_and_then (λ a. cond (test a) (Some a) None)) at ∙ ap (λ b. cond b (Some x) None) on

-- where only a value that is kept may be there, and none is kept, none is there
pub unused : {A B : Type 0} (o : Option A) (kept : Option B) → (is_some o && is_none kept) ≡ false → kept ≡ None → o ≡ None
unused None kept e none = refl
unused (Some x) kept e none = let clash : true ≡ false = ap is_none (sym none) ∙ e in cc

-- and one that is there is the one kept
pub kept_there : {A : Type 0} (test : A → Bool) (o : Option A) (x : A) → o ≡ Some x → (is_some o && is_none (option_and_then (λ a. cond (test a) (Some a) None) o)) ≡ false → option_and_then (λ a. cond (test a) (Some a) None) o ≡ Some x
kept_there test None x at e = cc
kept_there test (Some a) x at e = by (test a) e
  where
    by : (b : Bool) → is_none (cond b (Some a) None) ≡ false → cond b (Some a) None ≡ Some x
    by true e = at
    by false e = cc

pub is_there : {A : Type 0} (o : Option A) → is_none o ≡ false → is_some o ≡ true
is_there None e = cc
is_there (Some x) e = refl

pub some_is : {A : Type 0} (o : Option A) → is_some o ≡ true → (x : A) × (o ≡ Some x)
some_is None e = cc
some_is (Some x) e = (x, refl)

pub none_is : {A : Type 0} (o : Option A) → is_some o ≡ false → o ≡ None
none_is None e = refl
none_is (Some x) e = cc
