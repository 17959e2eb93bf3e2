-- What acceptance of a hold and of its lifting tells, and what of a hold is kept.
use Rattle.std.proofs.Common.{◌≡◌, ◌⊎◌, inl, inr, ℕ, List, Option, Some, None, Bool, true, false, ◌&&◌, refl, sym, ◌∙◌, ap, cond, is_none, is_some}
use Rattle.std.specs.Prelude.{option_map}
use Rattle.std.specs.FinMap.{get, get-insert}
use Rattle.std.specs.Cmp.{Equal-is}
use Rattle.std.specs.Option.{option_and_then}
use Rattle.std.specs.Ordering.{eq_by_cmp}
use Rattle.std.proofs.lemmas.Option.{option_and_then_some}
use Rattle.custody_records.specs.Keys.{text_cmp}
use Rattle.custody_records.specs.inside.Orders.{text_exact, text_total}
use Rattle.custody_records.specs.Records as records
use Rattle.custody_records.specs.Records.{lifted_at, new_hold}
use Rattle.custody_machine.specs.State.{State}
use Rattle.custody_machine.specs.Machine.{OfHold, OfLifting, Refusal, RegistryUnknown, DateOutOfRange, HoldReferenceUsed, Step, is_tld_unregistered, is_day_outside, hold_of, is_held_day, kept_hold, lifting_of, hold_tests, first_refusal, unless_kept, hold_step, lift_step, state_with_hold}
use Rattle.custody_machine.specs.Retries.{IsKeptAs, StillHas}
use Rattle.custody_machine.proofs.Options.{passing, passing_of, unused}
use Rattle.custody_machine.proofs.Accepting.{insert_new, all_fail}

-- ---- acceptance

-- none of the refusals of a hold stands
pub record NoneStandsTo (s : State) (reference tld : List ℕ) (day now : ℕ) : Type 0 where
  pub registry : is_tld_unregistered s tld ≡ false
  pub date : (is_none (kept_hold s reference tld day) && is_day_outside s tld day now) ≡ false
  pub used : (is_some (hold_of s reference) && is_none (kept_hold s reference tld day)) ≡ false

module _ (s : State) (reference tld : List ℕ) (day now : ℕ) where
  pub none_stand_to : first_refusal (hold_tests s reference tld day now) ≡ None → NoneStandsTo s reference tld day now
  none_stand_to e = let f = all_fail (hold_tests s reference tld day now) e in record { registry = f.0; date = f.1.0; used = f.1.1.0 }

-- the refusals of a hold, in their order
abbrev pub hold_refusals : (RegistryUnknown DateOutOfRange HoldReferenceUsed : Bool) → Option Refusal
hold_refusals a b c = cond a (Some RegistryUnknown) (cond b (Some DateOutOfRange) (cond c (Some HoldReferenceUsed) None))

-- the step of a hold, by the one that is kept
abbrev pub held_by : State → List ℕ → List ℕ → ℕ → ℕ → Option records.Hold → Step
held_by s reference tld day now o = unless_kept s (option_map (OfHold reference) o) (hold_step s reference (new_hold tld day now))

-- the step of a lifting of a hold, by when it was lifted
abbrev pub lifted_by : State → List ℕ → ℕ → records.Hold → Option ℕ → Step
lifted_by s reference now hold o = unless_kept s (option_map (OfLifting reference) o) (lift_step s reference now (Some hold))

-- ---- the hold that is kept

-- it is the one of the reference, of the registry and the day
pub kept_hold_is : (s : State) (reference tld : List ℕ) (day : ℕ) (kept : records.Hold) → kept_hold s reference tld day ≡ Some kept → (get s.holds reference ≡ Some kept) × (is_held_day tld day kept ≡ true)
kept_hold_is s reference tld day = passing (is_held_day tld day) (hold_of s reference)

pub kept_hold_of : (s : State) (reference tld : List ℕ) (day : ℕ) (kept : records.Hold) → get s.holds reference ≡ Some kept → is_held_day tld day kept ≡ true → kept_hold s reference tld day ≡ Some kept
kept_hold_of s reference tld day = passing_of (is_held_day tld day) (hold_of s reference)

-- where no hold is kept and none of the refusals stands, the reference is new
pub unheld_of : (s : State) (reference tld : List ℕ) (day now : ℕ) → NoneStandsTo s reference tld day now → kept_hold s reference tld day ≡ None → get s.holds reference ≡ None
unheld_of s reference tld day now none = unused (hold_of s reference) (kept_hold s reference tld day) none.used

-- the moment of a lifting is that of the hold
pub lifting_is : (s : State) (reference : List ℕ) (hold : records.Hold) → get s.holds reference ≡ Some hold → lifting_of s reference ≡ hold.lifted
lifting_is s reference hold at = ap (option_and_then (λ (h : records.Hold). h.lifted)) at

pub lifting_has : (s : State) (reference : List ℕ) (at : ℕ) → lifting_of s reference ≡ Some at → (hold : records.Hold) × (get s.holds reference ≡ Some hold) × (hold.lifted ≡ Some at)
lifting_has s reference at e = option_and_then_some (λ (h : records.Hold). h.lifted) (hold_of s reference) at e (λ hold is lifted. (hold, is, lifted))

-- ---- what is kept of a hold

-- as it was, or with its lifting
abbrev pub IsKeptHold : records.Hold → records.Hold → Type 0
IsKeptHold old new = (new ≡ old) ⊎ ((old.lifted ≡ None) × (at : ℕ) × (new ≡ lifted_at at old))

pub still_on_hold : (a b c : records.Hold) → IsKeptHold a b → IsKeptHold b c → IsKeptHold a c
still_on_hold a b c (inl p) (inl q) = inl (q ∙ p)
still_on_hold a b c (inl p) (inr q) = inr (ap (λ (h : records.Hold). h.lifted) (sym p) ∙ q.0, q.1, q.2 ∙ ap (lifted_at q.1) p)
still_on_hold a b c (inr p) (inl q) = inr (p.0, p.1, q ∙ p.2)
still_on_hold a b c (inr p) (inr q) = let clash : Some p.1 ≡ None = ap (λ (h : records.Hold). h.lifted) (sym p.2) ∙ q.0 in cc

-- its registry and its day stay
pub held_day_stays : (tld : List ℕ) (day : ℕ) (a b : records.Hold) → IsKeptHold a b → is_held_day tld day b ≡ is_held_day tld day a
held_day_stays tld day a b (inl p) = ap (is_held_day tld day) p
held_day_stays tld day a b (inr p) = ap (is_held_day tld day) p.2

pub as_hold : (reference : List ℕ) (a b : records.Hold) → IsKeptHold a b → IsKeptAs (OfHold reference a) (OfHold reference b)
as_hold reference a b (inl p) = inl (ap (OfHold reference) p)
as_hold reference a b (inr p) = inr (p.0, p.1, ap (OfHold reference) p.2)

-- ---- one hold more

module _ (s : State) (reference : List ℕ) (hold : records.Hold) (none : get s.holds reference ≡ None) where
  pub hold_stays : (q : List ℕ) (x : records.Hold) → get s.holds q ≡ Some x → StillHas (state_with_hold s reference hold) (OfHold q x)
  hold_stays q x e = (OfHold q x, insert_new text_total s.holds reference hold q x none e, inl refl)

  pub lifting_stays : (q : List ℕ) (at : ℕ) → lifting_of s q ≡ Some at → StillHas (state_with_hold s reference hold) (OfLifting q at)
  lifting_stays q at e =
      let h = lifting_has s q at e in
      (OfLifting q at, lifting_is (state_with_hold s reference hold) q h.0 (insert_new text_total s.holds reference hold q h.0 none h.1) ∙ h.2, refl)

-- ---- a hold that is lifted

module _ (s : State) (reference : List ℕ) (hold : records.Hold) (now : ℕ) (there : get s.holds reference ≡ Some hold) (standing : hold.lifted ≡ None) where
  abbrev then : State
  then = state_with_hold s reference (lifted_at now hold)

  got : (q : List ℕ) → get then.holds q ≡ cond (eq_by_cmp text_cmp q reference) (Some (lifted_at now hold)) (get s.holds q)
  got q = get-insert text_total s.holds reference (lifted_at now hold) q

  -- a hold of the reference is this one
  one : (q : List ℕ) (x : records.Hold) → eq_by_cmp text_cmp q reference ≡ true → get s.holds q ≡ Some x → x ≡ hold
  one q x t e = some_same x hold (sym e ∙ ap (get s.holds) (text_exact q reference ((Equal-is (text_cmp q reference)).0 t)) ∙ there)
    where
      some_same : (a b : records.Hold) → Some a ≡ Some b → a ≡ b
      some_same a b e = cc

  pub held_stays : (q : List ℕ) (x : records.Hold) → get s.holds q ≡ Some x → StillHas then (OfHold q x)
  held_stays q x e = by (eq_by_cmp text_cmp q reference) refl
    where
      by : (b : Bool) → eq_by_cmp text_cmp q reference ≡ b → StillHas then (OfHold q x)
      by true t =
          let is = one q x t e in
          (OfHold q (lifted_at now x), got q ∙ ap (λ b. cond b (Some (lifted_at now hold)) (get s.holds q)) t ∙ ap (λ h. Some (lifted_at now h)) (sym is), inr (ap (λ (h : records.Hold). h.lifted) is ∙ standing, now, refl))
      by false t = (OfHold q x, got q ∙ ap (λ b. cond b (Some (lifted_at now hold)) (get s.holds q)) t ∙ e, inl refl)

  pub lifted_stays : (q : List ℕ) (at : ℕ) → lifting_of s q ≡ Some at → StillHas then (OfLifting q at)
  lifted_stays q at e = by (eq_by_cmp text_cmp q reference) refl (lifting_has s q at e)
    where
      by : (b : Bool) → eq_by_cmp text_cmp q reference ≡ b → (h : records.Hold) × (get s.holds q ≡ Some h) × (h.lifted ≡ Some at) → StillHas then (OfLifting q at)
      by true t h = let clash : Some at ≡ None = sym h.2 ∙ ap (λ (x : records.Hold). x.lifted) (one q h.0 t h.1) ∙ standing in cc
      by false t h = (OfLifting q at, lifting_is then q h.0 (got q ∙ ap (λ b. cond b (Some (lifted_at now hold)) (get s.holds q)) t ∙ h.1) ∙ h.2, refl)
