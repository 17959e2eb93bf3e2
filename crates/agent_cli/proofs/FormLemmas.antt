-- Texts in form show one value.
use Rattle.std.proofs.Common.{◌≡◌, ℕ, sym, ◌∙◌, ap, subst, Option, Some, None}
use Rattle.clap.specs.Words.{Text}
use Rattle.agent_cli.specs.Forms.{ShowsIfGiven, ShowsMoment}

pub if_given_one : {X : Type 0} (Shows : Text → X → Type 0) → ((t : Text) (x y : X) → Shows t x → Shows t y → x ≡ y)
    → (o : Option Text) (a b : Option X) → ShowsIfGiven Shows o a → ShowsIfGiven Shows o b → a ≡ b
if_given_one Shows one None a b h k = h ∙ sym k
if_given_one Shows one (Some t) (Some x) (Some y) h k = ap (λ z. Some z) (one t x y h k)
if_given_one Shows one (Some t) (Some x) None h k = absurd k
if_given_one Shows one (Some t) None b h k = absurd h

-- where the text that is given shows nothing, no value is shown
pub not_given : (text : Text) (given : Option Text) → Some text ≡ given → ((s : ℕ) → ShowsMoment text s → ⊥)
    → (value : Option ℕ) → ShowsIfGiven ShowsMoment given value → ⊥
not_given text given e never value h = at value (subst (λ (o : Option Text). ShowsIfGiven ShowsMoment o value) (sym e) h)
  where
    at : (v : Option ℕ) → ShowsIfGiven ShowsMoment (Some text) v → ⊥
    at (Some s) k = never s k
    at None k = k
