-- What the records decide of a command, by what the machine does of it in their state with any image.
use Rattle.std.proofs.Common.{◌≡◌, ◌≢◌, inl, inr, ℕ, List, Option, Some, None, true, cond, ap, is_none, is_some}
use Rattle.custody_records.specs.Records.{Records}
use Rattle.custody_machine.specs.State.{State}
use Rattle.custody_machine.specs.StoredState.{state_in}
use Rattle.custody_machine.specs.declared.answers.Refusal.{Refusal}
use Rattle.custody_machine.specs.declared.answers.Refusal.TheVariants.{RegistryUnknown, OtherBytes, VolumeFull}
use Rattle.custody_machine.specs.Machine.{Command, Record, Accept, refusal_of, step}
use Rattle.custody_machine.specs.Retries.{IsDroppedSince, command_key}
use Rattle.custody_machine.specs.Rulings.{RefuseRuling, KeptRuling, Decides}
use Rattle.custody_machine.proofs.Accepting.{step_refuses}
use Rattle.custody_machine.proofs.Keeping.{Again, IsAsNow, Keeps, asked_again}

-- a registry that is not known refuses first
pub unknown_first : (o : Option ℕ) (others : Option Refusal) → o ≡ None → cond (is_none o) (Some RegistryUnknown) others ≡ Some RegistryUnknown
unknown_first o others unknown = ap (λ (p : Option ℕ). cond (is_none p) (Some RegistryUnknown) others) unknown

module _ (records : Records) (command : Command) (now : ℕ) where
  pub refuses : (q : Refusal) → q ≢ OtherBytes → q ≢ VolumeFull → ((image : List ℕ) → refusal_of (state_in records image) command now ≡ Some q) → Decides (RefuseRuling q) records command now
  refuses q other full first = (other, full, λ image. step_refuses (state_in records image) command now q (first image))

  -- a command that brings no part is answered by what is kept
  pub repeats : (entry : Record) → is_some (command_key command) ≡ true → ((s : State) → ¬ IsDroppedSince s command) → ((image : List ℕ) → Keeps (state_in records image) command entry) → ((image : List ℕ) → IsAsNow (state_in records image) entry)
      → Decides (KeptRuling entry) records command now
  repeats entry keyed held kept as_now = λ image. by image (asked_again (state_in records image) command entry now keyed (kept image) (as_now image)).0
    where
      by : (image : List ℕ) → Again (state_in records image) command entry now → step (state_in records image) command now ≡ Accept (record { entry = entry; is_repeat = true }) (state_in records image)
      by image (inl answered) = answered
      by image (inr dropped) = absurd (held (state_in records image) dropped.1)
