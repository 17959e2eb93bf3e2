-- A part that was not staged.
use Rattle.std.proofs.Common.{◌≡◌, ◌≢◌, ℕ, ◌+◌, List, length, true, false, refl, sym, ap, subst, arith, inl, inr, Result, Err}
use Rattle.sqlite.specs.Store.{Ghosts}
use Rattle.deposit_name.specs.Name.{Name}
use Rattle.vault_volume.specs.declared.errors.StageError.{StageError}
use Rattle.vault_volume.specs.declared.errors.StageError.TheVariants.{Full, NoMemory, VolumeFailed}
use Rattle.vault_volume.specs.declared.volume.Volume as volume
use Rattle.vault_volume.specs.Disk.{LeavesOnly}
use Rattle.vault_volume.specs.Image.{DiffersOnlyIn}
use Rattle.vault_volume.specs.Extents.{HasFewer, SameFree, block_count}
use Rattle.vault_volume.specs.Vault.{volume_of, IsFree}
use Rattle.custody_records.specs.Records.{key_of}
use Rattle.custody_machine.specs.Machine.{Receive, OfPart, Accept, MayRefuse, MayFail, MayAnswer, step, deciding_keys, received_part, state_with_part}
use Rattle.custody_machine.specs.Moves.{DependsOnBytes}
use Rattle.custody_machine.specs.StoredState.{state_in}
use Rattle.custody_store.specs.StoreState.{store_state}
use Rattle.custody_machine.specs.Rulings.{AddsPart, GoRuling, Decides}
use Rattle.custody_machine.specs.declared.answers.Failure.TheVariants as failure
use Rattle.custody_machine.specs.declared.answers.Refusal.TheVariants.{VolumeFull}
use Rattle.custody_machine.proofs.Composed.{nothing_in, reads_nothing}
use Rattle.custody_machine.proofs.Compared.{each_of, now_of}
use Rattle.custody_machine.proofs.Room.{no_room}
use Rattle.custody.specs.declared.answers.Reply.{Reply}
use Rattle.custody.specs.declared.answers.Refused as not_accepted
use Rattle.custody.specs.declared.answers.Refused.TheVariants as refused
use Rattle.custody.specs.declared.open_custody.OpenCustody.{OpenCustody}
use Rattle.custody.specs.Answers.{answer_of, stays_open, may_call, refused_of_stage_error}
use Rattle.custody.specs.RulingAnswers.{RecordsPart}
use Rattle.custody.specs.OpenCustody.{current_records, image_of, failures_of, MayLeaveImage, KeepsOrder, KeepsImage, KeepsRows, IsSafe, HasAnsweredCommand, HasExecuted}
use Rattle.custody.proofs.Done.{opens_alike}
use Rattle.custody.proofs.Ended.{rows_same}
use Rattle.custody.proofs.OpenCustodyLemmas.{stays_still, order_same, image_same, safe_undone, does_nothing}

module _ {V S : Type 0} {g : volume.Ghosts V} (old new : OpenCustody V S g) (same : current_records new ≡ current_records old) (store_same : new.store ≡ old.store) (text bytes : List ℕ) (now : ℕ) (n : Name) (order : KeepsOrder old) (ruled : Decides (GoRuling (AddsPart n)) (current_records old) (Receive text bytes) now)
    (e : StageError) (free : SameFree (IsFree old.vault) (IsFree new.vault)) (full_same : e ≡ Full → volume_of new.vault ≡ volume_of old.vault) (memory_same : e ≡ NoMemory → volume_of new.vault ≡ volume_of old.vault) where
  -- while it stays open, the volume was not called
  volume_same : stays_open {T = Reply} (Err (refused_of_stage_error e)) ≡ true → volume_of new.vault ≡ volume_of old.vault
  volume_same stays = by e refl stays
    where
      by : (d : StageError) → e ≡ d → stays_open {T = Reply} (Err (refused_of_stage_error d)) ≡ true → volume_of new.vault ≡ volume_of old.vault
      by Full is stays = full_same is
      by NoMemory is stays = memory_same is
      by VolumeFailed is stays = cc

  unstaged_safe : (e ≡ VolumeFailed → failures_of new ≡ failures_of old + 1) → (e ≡ Full → HasFewer (IsFree old.vault) (g.size (volume_of old.vault)) (block_count (length bytes)))
      → IsSafe old (Receive text bytes) (Err (refused_of_stage_error e)) new
  unstaged_safe failed full =
      safe_undone old new same free (Receive text bytes) (Err (refused_of_stage_error e)) (answers e) (λ h. let one = failed (failing e h) in omega (arith, one)) (λ other. ap g.failures (volume_same (still_open e other))) (λ h. no_room (current_records old) (g.size (volume_of old.vault)) (failures_of old) (IsFree old.vault) order (length bytes) (full (filling e h))) (λ none. volume_same (uncalled e none)) store_same
      (λ stays. order_same old new same free (ap g.size (volume_same stays)) (ap g.failures (volume_same stays)) order)
    where
      answers : (d : StageError) → ◌≢◌ {A = Result Reply not_accepted.Refused} (Err (refused_of_stage_error d)) (Err (refused.Failure failure.Closed))
      answers Full h = cc
      answers _ h = cc

      uncalled : (d : StageError) → may_call (Receive text bytes) (Err (refused_of_stage_error d)) ≡ false → stays_open {T = Reply} (Err (refused_of_stage_error d)) ≡ true
      uncalled VolumeFailed none = cc
      uncalled _ none = refl

      still_open : (d : StageError) → ◌≢◌ {A = Result Reply not_accepted.Refused} (Err (refused_of_stage_error d)) (Err (refused.Failure failure.VolumeFailed)) → stays_open {T = Reply} (Err (refused_of_stage_error d)) ≡ true
      still_open VolumeFailed other = absurd (other refl)
      still_open _ other = refl

      failing : (d : StageError) → ◌≡◌ {A = Result Reply not_accepted.Refused} (Err (refused_of_stage_error d)) (Err (refused.Failure failure.VolumeFailed)) → d ≡ VolumeFailed
      failing VolumeFailed h = refl
      failing _ h = cc

      filling : (d : StageError) → ◌≡◌ {A = Result Reply not_accepted.Refused} (Err (refused_of_stage_error d)) (Err (refused.Refusal VolumeFull)) → d ≡ Full
      filling Full h = refl
      filling _ h = cc

  module _ (volume : KeepsImage old) (leaves : LeavesOnly g.moment g.left_at (volume_of old.vault) (volume_of new.vault) (DiffersOnlyIn (IsFree old.vault) (image_of old))) where
    unstaged_serves : (database : Ghosts S) → KeepsRows database old → HasAnsweredCommand database old (Receive text bytes) now (Err (refused_of_stage_error e)) new
    unstaged_serves database store =
        does_nothing database old new order volume store (Receive text bytes) now (Err (refused_of_stage_error e)) (may e) (rests e) (opens_alike (Receive text bytes) (Err (refused_of_stage_error e))) same (λ stays. ap g.image (volume_same stays))
        (each_of g.moment g.left_at (volume_of old.vault) (volume_of new.vault) _ leaves) (λ r w. subst (λ s. (store_state database s).may_leave r) store_same w) (now_of g.moment g.left_at (volume_of old.vault) (volume_of new.vault) _ leaves)
      where
        accepted : step (state_in (current_records old) (image_of old)) (Receive text bytes) now ≡ Accept (record { entry = OfPart (key_of n) (received_part n bytes now); is_repeat = false }) (state_with_part (state_in (current_records old) (image_of old)) (key_of n) (received_part n bytes now))
        accepted = ruled.1 (image_of old)

        may : (d : StageError) → MayAnswer (state_in (current_records old) (image_of old)) (Receive text bytes) now (answer_of (Receive text bytes) (Err (refused_of_stage_error d))) (state_in (current_records old) (image_of old))
        may Full = (subst (λ r. MayRefuse (Receive text bytes) r VolumeFull) (sym accepted) (refl, refl, refl), refl)
        may NoMemory = (subst (λ r. MayFail r (deciding_keys (state_in (current_records old) (image_of old)) (Receive text bytes) now) failure.NoMemory) (sym accepted) tt, refl)
        may VolumeFailed = (subst (λ r. MayFail r (deciding_keys (state_in (current_records old) (image_of old)) (Receive text bytes) now) failure.VolumeFailed) (sym accepted) tt, refl)

        rests : (d : StageError) → DependsOnBytes (current_records old) (image_of old) (Receive text bytes) now (answer_of (Receive text bytes) (Err (refused_of_stage_error d)))
        rests Full = λ key within. absurd (nothing_in _ key (reads_nothing (current_records old) (image_of old) order.whole text bytes now n ruled.0.0 ruled.0.1 accepted) within)
        rests _ = tt

  -- it did no command
  pub unstaged_done : (database : Ghosts S) → (e ≡ VolumeFailed → failures_of new ≡ failures_of old + 1) → (e ≡ Full → HasFewer (IsFree old.vault) (g.size (volume_of old.vault)) (block_count (length bytes)))
      → (g.tells → DiffersOnlyIn (IsFree old.vault) (image_of old) (image_of new)) → (g.tells → KeepsImage old → LeavesOnly g.moment g.left_at (volume_of old.vault) (volume_of new.vault) (DiffersOnlyIn (IsFree old.vault) (image_of old)))
      → (answer : Result Reply not_accepted.Refused) → answer ≡ Err (refused_of_stage_error e) → HasExecuted database old (Receive text bytes) now answer new
  unstaged_done database failed full written leaves answer is = subst (λ a. HasExecuted database old (Receive text bytes) now a new) (sym is) (record {
    safe = unstaged_safe failed full;
    ruled = (GoRuling (AddsPart n), ruled, received e);
    shown = tt;
    holds = λ _. tt;
    written = written;
    unwritten = λ _ stays tells. subst (λ v. (g.image v ≡ image_of old) × LeavesOnly g.moment g.left_at (volume_of old.vault) v (MayLeaveImage old)) (sym (volume_same stays)) (refl, stays_still g.moment g.left_at (volume_of old.vault));
    reads_only = λ e. cc;
    any_moment = leaves;
    mode = λ _ store. subst (λ s. (store_state database s).in_transaction ≡ false) (sym store_same) store.ready.rest.autocommit;
    trust = subst (λ s. (store_state database s).IsHonest) store_same;
    serves = λ tells honest volume store. unstaged_serves volume (leaves tells volume) database store;
    image = λ stays tells volume. image_same old new same free (ap g.image (volume_same stays)) (now_of g.moment g.left_at (volume_of old.vault) (volume_of new.vault) _ (leaves tells volume)) volume;
    rows = λ _ honest. rows_same database old new same store_same;
  })
    where
      received : (d : StageError) → RecordsPart (current_records old) n now bytes (Err (refused_of_stage_error d)) (current_records new)
      received Full = refl
      received NoMemory = inl refl
      received VolumeFailed = inr (inl refl)
