-- What acceptance of a release tells.
use Rattle.std.proofs.Common.{◌≡◌, ℕ, List, Option, Some, None, Bool, true, false, not, ◌&&◌, cond, is_none, is_some}
use Rattle.std.specs.Prelude.{option_map}
use Rattle.std.specs.FinMap.{get}
use Rattle.desk.specs.declared.grounds.Ground.{Ground}
use Rattle.custody_records.specs.Records as records
use Rattle.custody_machine.specs.State.{State}
use Rattle.custody_machine.specs.Machine.{OfRelease, Refusal, RegistryUnknown, GroundDoesNotStand, ReferenceUsed, Step, is_tld_unregistered, release_of, is_on_ground, kept_release, has_ground, release_tests, first_refusal, unless_kept, new_release, release_step}
use Rattle.custody_machine.proofs.Options.{passing, passing_of, unused}
use Rattle.custody_machine.proofs.Accepting.{all_fail}

-- none of the refusals of a release stands
pub record NoneStandsFor (s : State) (reference tld : List ℕ) (reason : Ground) (now : ℕ) : Type 0 where
  pub registry : is_tld_unregistered s tld ≡ false
  pub stands : (is_none (release_of s reference) && not (has_ground s tld reason now)) ≡ false
  pub used : (is_some (release_of s reference) && is_none (kept_release s reference tld reason)) ≡ false

module _ (s : State) (reference tld : List ℕ) (reason : Ground) (now : ℕ) where
  pub none_stand_for : first_refusal (release_tests s reference tld reason now) ≡ None → NoneStandsFor s reference tld reason now
  none_stand_for e = let f = all_fail (release_tests s reference tld reason now) e in record { registry = f.0; stands = f.1.0; used = f.1.1.0 }

-- the refusals of a release, in their order
abbrev pub release_refusals : (RegistryUnknown GroundDoesNotStand ReferenceUsed : Bool) → Option Refusal
release_refusals a b c = cond a (Some RegistryUnknown) (cond b (Some GroundDoesNotStand) (cond c (Some ReferenceUsed) None))

-- the step of a release, by the one that is kept
abbrev pub released_by : State → List ℕ → List ℕ → Ground → ℕ → Option records.Release → Step
released_by s reference tld reason now o = unless_kept s (option_map (OfRelease reference) o) (release_step s reference (new_release s tld reason now))

-- the release that is kept is the one of the reference, of the registry and on the ground
pub kept_release_is : (s : State) (reference tld : List ℕ) (reason : Ground) (kept : records.Release) → kept_release s reference tld reason ≡ Some kept → (get s.releases reference ≡ Some kept) × (is_on_ground tld reason kept ≡ true)
kept_release_is s reference tld reason = passing (is_on_ground tld reason) (release_of s reference)

pub kept_release_of : (s : State) (reference tld : List ℕ) (reason : Ground) (kept : records.Release) → get s.releases reference ≡ Some kept → is_on_ground tld reason kept ≡ true → kept_release s reference tld reason ≡ Some kept
kept_release_of s reference tld reason = passing_of (is_on_ground tld reason) (release_of s reference)

-- where no release is kept and none of the refusals stands, the reference is new
pub unused_of : (s : State) (reference tld : List ℕ) (reason : Ground) (now : ℕ) → NoneStandsFor s reference tld reason now → kept_release s reference tld reason ≡ None → get s.releases reference ≡ None
unused_of s reference tld reason now none = unused (release_of s reference) (kept_release s reference tld reason) none.used
