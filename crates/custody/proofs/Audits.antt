-- What an audit does to a custody.
use Rattle.std.proofs.Common.{◌≡◌, ◌⊎◌, inl, inr, ◌+◌, ◌<◌, List, true, false, refl, sym, ◌∙◌, subst, arith, Vec, Global, Result, Ok, Err, Option, None, Some, ap}
use Rattle.std.specs.Prelude.{IfOk, IfErr, is_none}
use Rattle.deposit_name.specs.Name.{Name}
use Rattle.sqlite.specs.Store.{Ghosts}
use Rattle.vault_volume.specs.declared.errors.ReadError.{ReadError}
use Rattle.vault_volume.specs.declared.errors.ReadError.TheVariants as read_error
use Rattle.vault_volume.specs.declared.volume.Volume as volume
use Rattle.custody_machine.specs.declared.answers.Failure.{Failure}
use Rattle.custody_machine.specs.declared.answers.Failure.TheVariants.{NoMemory, VolumeFailed}
use Rattle.custody.specs.declared.custody.Custody.{Custody}
use Rattle.custody.specs.Answers.{closing_failure}
use Rattle.custody.specs.Auditing.{AreHeld, AreDamaged, HasAudited, as_refused}
use Rattle.custody.specs.Custody.{failure_of, open_custody_of, is_open}
use Rattle.custody.specs.OpenCustody.{current_records, image_of, failures_of}
use Rattle.custody.specs.Reading.{ReadsVault, CountsReadFailure}
use Rattle.custody.proofs.Rested.{reads_rested}

no_failure : (failure : Option Failure) → is_none failure ≡ true → failure ≡ None
no_failure None none = refl
no_failure (Some failure) none = cc

module _ {V S : Type 0} {g : volume.Ghosts V} {database : Ghosts S} (old new : Custody V S g database) (serving : is_open old ≡ true) (same : current_records (open_custody_of new) ≡ current_records (open_custody_of old)) (store_same : (open_custody_of new).store ≡ (open_custody_of old).store)
    (read : ReadsVault (open_custody_of old).vault (open_custody_of new).vault) where
  -- each answer of an open custody is told in the same words
  answers : (answer : Result (List Name) Failure) → IfErr answer (λ failure. (failure ≡ NoMemory) ⊎ (failure ≡ VolumeFailed)) → failure_of new ≡ closing_failure (as_refused answer)
      → IfOk answer (AreHeld (current_records (open_custody_of old))) → (g.tells → IfOk answer (AreDamaged (current_records (open_custody_of old)) (image_of (open_custody_of old))))
      → (is_open new ≡ false → failures_of (open_custody_of old) < failures_of (open_custody_of new)) → (is_open new ≡ true → failures_of (open_custody_of new) ≡ failures_of (open_custody_of old)) → HasAudited old answer new
  answers answer fails closes held damaged failed not_failed = record {
    closed = λ shut. let clash : true ≡ false = sym serving ∙ shut in cc;
    fails = λ _. fails;
    closes = λ _. closes;
    held = λ _. held;
    damaged = λ _. damaged;
    rested = λ _. reads_rested database (open_custody_of old) (open_custody_of new) (old.order serving) same store_same read.free read.size (λ tells. (read.image tells, read.any_moment tells)) (is_open new) failed not_failed;
    unwritten = λ _ tells. (read.image tells, read.any_moment tells);
  }

  stays : is_open new ≡ true → is_open new ≡ false → failures_of (open_custody_of old) < failures_of (open_custody_of new)
  stays still shut = let clash : true ≡ false = sym still ∙ shut in cc

  pub audited : (names : List Name) → is_open new ≡ true → AreHeld (current_records (open_custody_of old)) names → (g.tells → AreDamaged (current_records (open_custody_of old)) (image_of (open_custody_of old)) names)
      → failures_of (open_custody_of new) ≡ failures_of (open_custody_of old) → HasAudited old (Ok names) new
  audited names still held damaged failures = answers (Ok names) tt (no_failure (failure_of new) still) held damaged (stays still) (λ _. failures)

  pub audit_unnamed : (e : ReadError) → e ≡ read_error.NoMemory → CountsReadFailure {T = Vec Name Global} (Err e) (failures_of (open_custody_of old)) (failures_of (open_custody_of new)) → is_open new ≡ true → HasAudited old (Err NoMemory) new
  audit_unnamed e is failures still =
      let none : failures_of (open_custody_of new) ≡ failures_of (open_custody_of old) = subst (λ (e : ReadError). CountsReadFailure {T = Vec Name Global} (Err e) (failures_of (open_custody_of old)) (failures_of (open_custody_of new))) is failures in
      answers (Err NoMemory) (inl refl) (no_failure (failure_of new) still) tt (λ _. tt) (stays still) (λ _. none)

  pub audit_failed : (e : ReadError) → e ≡ read_error.VolumeFailed → CountsReadFailure {T = Vec Name Global} (Err e) (failures_of (open_custody_of old)) (failures_of (open_custody_of new)) → failure_of new ≡ Some VolumeFailed → HasAudited old (Err VolumeFailed) new
  audit_failed e is failures shut =
      let one : failures_of (open_custody_of new) ≡ failures_of (open_custody_of old) + 1 = subst (λ (e : ReadError). CountsReadFailure {T = Vec Name Global} (Err e) (failures_of (open_custody_of old)) (failures_of (open_custody_of new))) is failures in
      answers (Err VolumeFailed) (inr refl) shut tt (λ _. tt) (λ _. omega (arith, one)) (λ still. let clash : true ≡ false = sym still ∙ ap is_none shut in cc)
