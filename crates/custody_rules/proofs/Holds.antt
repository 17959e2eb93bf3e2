-- What the records tell of a hold and of its lifting is what the machine decides of it, in their state with any image.
use Rattle.std.proofs.Common.{◌≡◌, inl, ℕ, List, Option, Some, None, Bool, true, false, ◌&&◌, ◌||◌, nat_lt, cond, refl, sym, ◌∙◌, ap, is_none, is_some}
use Rattle.std.specs.Prelude.{option_map, unwrap_or}
use Rattle.std.specs.FinMap.{get}
use Rattle.std.specs.Option.{option_and_then}
use Rattle.schedule.specs.Schedule.{day_of}
use Rattle.custody_records.specs.Records.{Hold, Records}
use Rattle.custody_machine.specs.StoredState.{state_in}
use Rattle.custody_machine.specs.declared.answers.Refusal.TheVariants.{DateOutOfRange, HoldReferenceUsed, HoldUnknown}
use Rattle.custody_machine.specs.Machine.{Lift, OfHold, OfLifting, first_refusal, hold_of, hold_tests, is_held_day, if_held_day, lift_step, unless_kept}
use Rattle.custody_machine.specs.Machine as machine
use Rattle.custody_machine.specs.Rulings.{RefuseRuling, KeptRuling, Decides, GoRuling, LiftsHold}
use Rattle.custody_rules.proofs.Ruled.{refuses, repeats}
use Rattle.custody_machine.proofs.Accepting.{step_none}
use Rattle.custody_machine.proofs.Holding.{held_by, hold_refusals, kept_hold_of, lifting_is}
use Rattle.custody_rules.specs.inside.Holds.{new_hold_ruling, used_refusal}

module _ (records : Records) (reference tld : List ℕ) (day now : ℕ) where
  module _ (first : ℕ) (known : get records.registries tld ≡ Some first) where
    abbrev is_out : Bool
    is_out = nat_lt day first || nat_lt (day_of now) day

    -- the refusals of a reference that is recorded, or new
    tests_are : (image : List ℕ) (o : Option Hold) → get records.holds reference ≡ o → first_refusal (hold_tests (state_in records image) reference tld day now)
        ≡ hold_refusals false (is_none (option_and_then (if_held_day tld day) o) && is_out) (is_some o && is_none (option_and_then (if_held_day tld day) o))
    tests_are image o at = λ i. hold_refusals (is_none (known i)) (is_none (option_and_then (if_held_day tld day) (at i)) && (nat_lt day (unwrap_or (known i) 0) || nat_lt (day_of now) day))
        (is_some (at i) && is_none (option_and_then (if_held_day tld day) (at i)))

    pub repeats_hold : (kept : Hold) → get records.holds reference ≡ Some kept → is_held_day tld day kept ≡ true → Decides (KeptRuling (OfHold reference kept)) records (machine.Hold reference tld day) now
    repeats_hold kept at on =
        repeats records (machine.Hold reference tld day) now (OfHold reference kept) refl (λ s none. none)
        (λ image. record { told = kept; kept = kept; found = kept_hold_of (state_in records image) reference tld day kept at on; made = refl; same = inl refl; registry = ap is_none known }) (λ image. at)

    pub refuses_used : (kept : Hold) → get records.holds reference ≡ Some kept → is_held_day tld day kept ≡ false → (b : Bool) → b ≡ is_out → Decides (RefuseRuling (used_refusal b)) records (machine.Hold reference tld day) now
    refuses_used kept at off b out = by b (λ image. tests_are image (Some kept) at ∙ (λ i. hold_refusals false (is_none (cond (off i) (Some kept) None) && sym out i) (is_none (cond (off i) (Some kept) None))))
      where
        by : (b : Bool) → ((image : List ℕ) → first_refusal (hold_tests (state_in records image) reference tld day now) ≡ hold_refusals false b true) → Decides (RefuseRuling (used_refusal b)) records (machine.Hold reference tld day) now
        by true first = refuses records (machine.Hold reference tld day) now DateOutOfRange (λ e. cc) (λ e. cc) first
        by false first = refuses records (machine.Hold reference tld day) now HoldReferenceUsed (λ e. cc) (λ e. cc) first

    pub rules_new : get records.holds reference ≡ None → (b : Bool) → b ≡ is_out → Decides (new_hold_ruling reference tld day b) records (machine.Hold reference tld day) now
    rules_new new true out = refuses records (machine.Hold reference tld day) now DateOutOfRange (λ e. cc) (λ e. cc) (λ image. tests_are image None new ∙ ap (λ b. hold_refusals false b false) (sym out))
    rules_new new false out = (
      (refl, new),
      λ image. step_none (state_in records image) (machine.Hold reference tld day) now (tests_are image None new ∙ ap (λ b. hold_refusals false b false) (sym out))
          ∙ ap (λ (o : Option Hold). held_by (state_in records image) reference tld day now (option_and_then (if_held_day tld day) o)) new,
    )

-- ---- a lifting

module _ (records : Records) (reference : List ℕ) (now : ℕ) where
  pub refuses_no_hold : get records.holds reference ≡ None → Decides (RefuseRuling HoldUnknown) records (Lift reference) now
  refuses_no_hold none = refuses records (Lift reference) now HoldUnknown (λ e. cc) (λ e. cc) (λ image. ap (λ (o : Option Hold). cond (is_none o) (Some HoldUnknown) None) none)

  module _ (kept : Hold) (at : get records.holds reference ≡ Some kept) where
    pub repeats_lifting : (moment : ℕ) → kept.lifted ≡ Some moment → Decides (KeptRuling (OfLifting reference moment)) records (Lift reference) now
    repeats_lifting moment was =
        repeats records (Lift reference) now (OfLifting reference moment) refl (λ s none. none) (λ image. (moment, lifting_is (state_in records image) reference kept at ∙ was, refl)) (λ image. tt)

    pub makes_lifting : kept.lifted ≡ None → Decides (GoRuling (LiftsHold reference)) records (Lift reference) now
    makes_lifting standing = (
      (refl, kept, at, standing),
      λ image. step_none (state_in records image) (Lift reference) now (ap (λ (o : Option Hold). cond (is_none o) (Some HoldUnknown) None) at)
          ∙ ap (λ (o : Option ℕ). unless_kept (state_in records image) (option_map (OfLifting reference) o) (lift_step (state_in records image) reference now (hold_of (state_in records image) reference))) (lifting_is (state_in records image) reference kept at ∙ standing),
    )
