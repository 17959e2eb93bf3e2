-- Histories of each kind.
use Rattle.std.proofs.Common.{◌≡◌, ◌≢◌, ℕ, [], ◌∷◌, Some, None, Bool, true, false, if◌then◌else◌, inl, inr, refl, sym, ◌∙◌, ap, subst}
use Rattle.custody_machine.specs.State.{State}
use Rattle.custody_machine.specs.Machine.{Command, TimedCommand, Reply, Accept, step, state_of, state_after, deciding_keys, VolumeFailed, StoreFailed, MayFail}
use Rattle.custody_machine.specs.SameValues.{is_same_state}
use Rattle.custody_machine.specs.History.{Running, Halted, Stopped, is_step_to}
use Rattle.custody_machine.specs.Examples.{pair_of, HasExamples, HistoriesHappen}
use Rattle.custody_machine.proofs.SameValues.{state_decides}

module _ (first new : State) (command : Command) (now : ℕ) (reply : Reply) (is : step first command now ≡ Accept reply new) where
  goes : new ≡ state_after first command now
  goes = sym (ap (state_of first) is)

  taken : is_step_to (step first command now) (Some new) ≡ true
  taken = ap (λ r. is_step_to r (Some new)) is ∙ (state_decides new new).1 refl

  left_out : new ≢ first → is_step_to (step first command now) (Some first) ≡ false
  left_out other = ap (λ r. is_step_to r (Some first)) is ∙ by (is_same_state first new) refl
    where
      by : (b : Bool) → is_same_state first new ≡ b → b ≡ false
      by true same = absurd (other (sym ((state_decides first new).0 same)))
      by false same = refl

  abbrev entry : TimedCommand
  entry = (command, now)

  found_one : (if is_step_to (step first command now) (Some new) then entry ∷ [] else []) ≡ entry ∷ []
  found_one = ap (λ b. if b then entry ∷ [] else []) taken

  found_none : new ≢ first → (if is_step_to (step first command now) (Some first) then entry ∷ [] else []) ≡ []
  found_none other = ap (λ b. if b then entry ∷ [] else []) (left_out other)

  store_failed : reply.is_repeat ≡ false → MayFail (step first command now) (deciding_keys first command now) StoreFailed
  store_failed e = subst (λ r. MayFail r (deciding_keys first command now) StoreFailed) (sym is) e

  volume_failed : MayFail (step first command now) (deciding_keys first command now) VolumeFailed
  volume_failed = subst (λ r. MayFail r (deciding_keys first command now) VolumeFailed) (sym is) tt

  pub has_examples : HasExamples first new command now reply
  has_examples = record {
    acknowledged = ((Running first, Running new, refl, (Running new, (new, is, refl), (Stopped (pair_of new), ((new, refl, refl, refl), refl), (Running new, (refl, refl, refl), refl)))), refl);
    within_found = ((Running first, Running new, refl, (Stopped (pair_of new), ((new, refl, inr goes, refl), refl), (Running new, (refl, refl, refl), refl))), found_one);
    within_lost = λ other. ((Running first, Running first, refl, (Stopped (pair_of first), ((first, refl, inl refl, refl), refl), (Running first, (refl, refl, refl), refl))), found_none other);
    in_doubt_found = λ e. ((Running first, Running new, refl, (Halted first (Some (command, now)), (first, (store_failed e, refl), refl), (Stopped (pair_of new), ((new, refl, inr goes, refl), refl), (Running new, (refl, refl, refl), refl)))), found_one);
    in_doubt_lost = λ e other. ((Running first, Running first, refl, (Halted first (Some (command, now)), (first, (store_failed e, refl), refl), (Stopped (pair_of first), ((first, refl, inl refl, refl), refl), (Running first, (refl, refl, refl), refl)))), found_none other);
    volume_failed = ((Running first, Running first, refl, (Halted first None, (first, (volume_failed, refl), refl), (Halted first None, (refl, refl), (Stopped (pair_of first), ((first, refl, refl, refl), refl), (Running first, (refl, refl, refl), refl))))), refl);
    repeated = λ later again e. ((Running first, Running new, refl, (Running new, (new, is, refl), (Running new, (new, e, refl), (Stopped (pair_of new), ((new, refl, refl, refl), refl), (Running new, (refl, refl, refl), refl))))), refl);
    opened_again = ((Running first, Running first, refl, (Stopped (pair_of first), ((first, refl, refl, refl), refl), (Stopped (pair_of first), (refl, tt, refl), (Stopped (pair_of first), (refl, refl), (Running first, (refl, refl, refl), refl))))), refl);
    rested = ((Running first, Running new, refl, (Running first, refl, (Running new, (new, is, refl), (Stopped (pair_of new), ((new, refl, refl, refl), refl), (Running new, (refl, refl, refl), refl))))), refl);
    shut_down = ((Running first, Running first, refl, (Halted first None, refl, (Stopped (pair_of first), ((first, refl, refl, refl), refl), (Running first, (refl, refl, refl), refl)))), refl);
  }

pub histories_happen : HistoriesHappen
histories_happen = has_examples
