-- What the plain program does of a hold and of its lifting is the machine's.
use Rattle.std.proofs.Common.{◌≡◌, ℕ, List, Option, Some, None, true, false, cond, refl, sym, ◌∙◌, ap, is_none}
use Rattle.std.specs.Prelude.{option_map}
use Rattle.custody_records.specs.declared.holds.Hold as given
use Rattle.custody_records.specs.Records.{Hold, lifted_at, new_hold}
use Rattle.custody_records.specs.TypedRecords.{hold_key, hold_value}
use Rattle.custody_machine.specs.State.{State}
use Rattle.custody_machine.specs.declared.answers.Refusal.{Refusal}
use Rattle.custody_machine.specs.declared.answers.Refusal.TheVariants.{HoldUnknown}
use Rattle.custody_machine.specs.Machine as machine
use Rattle.custody_machine.specs.Machine.{Lift, OfHold, OfLifting, Accept, first_refusal, hold_of, hold_tests, kept_hold, lift_step, step, unless_kept, state_with_hold}
use Rattle.custody_machine.proofs.Accepting.{step_none, step_refuses}
use Rattle.custody_machine.proofs.Holding.{held_by, lifted_by, lifting_is}
use Rattle.plain_machine.specs.declared.state.PlainAnswer.TheVariants as answer
use Rattle.plain_machine.specs.Plain.{IsPlainStep}

module _ (s : State) (reference tld : List ℕ) (day now : ℕ) where
  pub refuses_hold : (q : Refusal) → first_refusal (hold_tests s reference tld day now) ≡ Some q → IsPlainStep (answer.Refused q) s s (step s (machine.Hold reference tld day) now)
  refuses_hold q e = (step_refuses s (machine.Hold reference tld day) now q e, refl)

  ruled_hold : (o : Option Hold) → first_refusal (hold_tests s reference tld day now) ≡ None → kept_hold s reference tld day ≡ o → step s (machine.Hold reference tld day) now ≡ held_by s reference tld day now o
  ruled_hold o none e = step_none s (machine.Hold reference tld day) now none ∙ ap (held_by s reference tld day now) e

  pub repeats_hold : (h : given.Hold) → first_refusal (hold_tests s reference tld day now) ≡ None → kept_hold s reference tld day ≡ Some (hold_value h) → hold_key h ≡ reference
      → IsPlainStep (answer.Hold h.reference h.tld h.day h.at h.lifted true) s s (step s (machine.Hold reference tld day) now)
  repeats_hold h none e is = ruled_hold (Some (hold_value h)) none e ∙ ap (λ r. Accept (record { entry = OfHold r (hold_value h); is_repeat = true }) s) (sym is)

  pub holds_new : (new : State) → first_refusal (hold_tests s reference tld day now) ≡ None → kept_hold s reference tld day ≡ None → new ≡ state_with_hold s reference (new_hold tld day now)
      → IsPlainStep (answer.Hold reference tld day now None false) s new (step s (machine.Hold reference tld day) now)
  holds_new new none e is = ruled_hold None none e ∙ ap (Accept (record { entry = OfHold reference (new_hold tld day now); is_repeat = false })) (sym is)

module _ (s : State) (reference : List ℕ) (now : ℕ) where
  pub refuses_lift : hold_of s reference ≡ None → IsPlainStep (answer.Refused HoldUnknown) s s (step s (Lift reference) now)
  refuses_lift none = (step_refuses s (Lift reference) now HoldUnknown (ap (λ (o : Option Hold). cond (is_none o) (Some HoldUnknown) None) none), refl)

  module _ (kept : Hold) (there : hold_of s reference ≡ Some kept) where
    ruled_lift : (o : Option ℕ) → kept.lifted ≡ o → step s (Lift reference) now ≡ lifted_by s reference now kept o
    ruled_lift o e = step_none s (Lift reference) now (ap (λ (o : Option Hold). cond (is_none o) (Some HoldUnknown) None) there)
        ∙ (λ i. unless_kept s (option_map (OfLifting reference) ((lifting_is s reference kept there ∙ e) i)) (lift_step s reference now (there i)))

    pub repeats_lift : (at : ℕ) → kept.lifted ≡ Some at → IsPlainStep (answer.Lifting reference at true) s s (step s (Lift reference) now)
    repeats_lift at e = ruled_lift (Some at) e

    pub lifts : (new : State) → kept.lifted ≡ None → new ≡ state_with_hold s reference (lifted_at now kept) → IsPlainStep (answer.Lifting reference now false) s new (step s (Lift reference) now)
    lifts new e is = ruled_lift None e ∙ ap (Accept (record { entry = OfLifting reference now; is_repeat = false })) (sym is)
