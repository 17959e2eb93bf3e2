-- A call that ends before there is a command.
use Rattle.std.proofs.Common.{◌≡◌, ◌≢◌, ℕ, ◌<◌, List, Bool, true, false, refl, sym, ap, subst, Result, Ok, Err}
use Rattle.std.specs.Prelude.{IfSome}
use Rattle.sqlite.specs.Store.{Ghosts}
use Rattle.vault_volume.specs.declared.volume.Volume as volume
use Rattle.vault_volume.specs.Disk.{LeavesOnly}
use Rattle.vault_volume.specs.Extents.{SameFree}
use Rattle.vault_volume.specs.Image.{DiffersOnlyIn}
use Rattle.vault_volume.specs.Vault.{volume_of, IsFree}
use Rattle.vault_volume.proofs.ImageLemmas.{in_both, in_more}
use Rattle.custody_store.specs.StoreState.{store_state}
use Rattle.custody_machine.specs.Machine.{Command}
use Rattle.custody_machine.specs.StoredState.{IsVolumeOf}
use Rattle.custody_machine.specs.Custody.{IsInStore}
use Rattle.custody_machine.specs.declared.answers.Failure.TheVariants as failure
use Rattle.custody_machine.proofs.Compared.{each_of, now_of}
use Rattle.custody_machine.proofs.Composed.{named_used, head_used}
use Rattle.custody_machine.proofs.Rested.{rests}
use Rattle.custody_machine.proofs.Stored.{good-elsewhere}
use Rattle.custody.specs.declared.answers.Reply.{Reply}
use Rattle.custody.specs.declared.answers.Refused.{Refused}
use Rattle.custody.specs.declared.answers.Refused.TheVariants as refused
use Rattle.custody.specs.declared.open_custody.OpenCustody.{OpenCustody}
use Rattle.custody.specs.Answers.{closing_failure, stays_open, may_change}
use Rattle.custody.specs.OpenCustody.{current_records, store_state_of, image_of, failures_of, MayLeaveImage, MayLeaveImageSince, KeepsOrder, KeepsImage, KeepsRows, HasExecuted}
use Rattle.custody.specs.OtherCalls.{RecordsNothing}
use Rattle.custody.proofs.OpenCustodyLemmas.{order_same}

-- records and database that are the same are in each other as before
pub rows_same : {V S : Type 0} {g : volume.Ghosts V} (database : Ghosts S) (old new : OpenCustody V S g) → current_records new ≡ current_records old → new.store ≡ old.store → KeepsRows database old → KeepsRows database new
rows_same database old new same store_same store =
    subst (λ s. IsInStore (current_records new) (store_state database s).rows (store_state database s).IsReady (store_state database s).may_leave) (sym store_same)
    (subst (λ k. IsInStore k (store_state_of database old).rows (store_state_of database old).IsReady (store_state_of database old).may_leave) (sym same) store)

module _ {V S : Type 0} {g : volume.Ghosts V} (database : Ghosts S) (old new : OpenCustody V S g) (order : KeepsOrder old) (same : current_records new ≡ current_records old) (store_same : new.store ≡ old.store)
    (moved : g.tells → DiffersOnlyIn (IsFree old.vault) (image_of old) (image_of new)) (leaves : g.tells → KeepsImage old → LeavesOnly g.moment g.left_at (volume_of old.vault) (volume_of new.vault) (DiffersOnlyIn (IsFree old.vault) (image_of old))) where
  during : g.tells → KeepsImage old → (j : List ℕ) → MayLeaveImageSince old new j → DiffersOnlyIn (IsFree old.vault) (image_of old) j
  during tells volume = each_of g.moment g.left_at (volume_of old.vault) (volume_of new.vault) _ (leaves tells volume)

  after : g.tells → KeepsImage old → (j : List ℕ) → MayLeaveImage new j → DiffersOnlyIn (IsFree old.vault) (image_of old) j
  after tells volume = now_of g.moment g.left_at (volume_of old.vault) (volume_of new.vault) _ (leaves tells volume)

  -- it recorded nothing, and wrote free blocks at most
  pub rested : (is_open : Bool) → (is_open ≡ false → failures_of old < failures_of new) → (is_open ≡ true → failures_of new ≡ failures_of old) → (is_open ≡ true → KeepsOrder new) → (is_open ≡ true → g.tells → KeepsImage old → KeepsImage new)
      → RecordsNothing database old is_open new
  rested is_open failed not_failed ordered image = record {
    records = same;
    store = store_same;
    failed = failed;
    not_failed = not_failed;
    order = ordered;
    written = moved;
    any_moment = leaves;
    rests = λ tells volume store.
        rests (current_records old) (store_state_of database old).rows (image_of old) _ _ (IsFree old.vault) (store_state_of database old).IsReady (store_state_of database old).may_leave (MayLeaveImage old) order volume store
        (image_of new) (moved tells) is_open (current_records new) (MayLeaveImageSince old new) (store_state_of database new).may_leave (MayLeaveImage new) (λ _. same) (during tells volume) (λ r w. subst (λ s. (store_state database s).may_leave r) store_same w) (after tells volume);
    image = image;
    rows = rows_same database old new same store_same;
  }

  -- and its blocks are free as before
  pub freed_rested : SameFree (IsFree old.vault) (IsFree new.vault) → g.size (volume_of new.vault) ≡ g.size (volume_of old.vault) → failures_of new ≡ failures_of old → RecordsNothing database old true new
  freed_rested free size failures = rested true (λ e. cc) (λ _. failures) (λ _. order_same old new same free size failures order) (λ _ tells volume. record {
    volume = subst (λ r. IsVolumeOf r (image_of new)) (sym same)
        (good-elsewhere (IsFree old.vault) (current_records old) (image_of old) (image_of new) (moved tells) (named_used (current_records old) _ _ (IsFree old.vault) order) (head_used (current_records old) _ _ (IsFree old.vault) order) (record { whole = order.whole; volume = volume.volume })).volume;
    elsewhere = λ c left. in_more (IsFree old.vault) (IsFree new.vault) (image_of new) c (λ b f. (free b).1 f) (in_both (IsFree old.vault) (image_of new) (image_of old) c (back (moved tells)) (after tells volume c left));
  })
    where
      back : {i j : List ℕ} → DiffersOnlyIn (IsFree old.vault) i j → DiffersOnlyIn (IsFree old.vault) j i
      back d = record { same_length = sym d.same_length; elsewhere = λ k outside. sym (d.elsewhere k outside) }

-- a command that recorded nothing closes a custody by a failure of the volume, or not
pub undone_closes : {V S : Type 0} {g : volume.Ghosts V} (database : Ghosts S) (old new : OpenCustody V S g) (command : Command) (now : ℕ) (answer : Result Reply Refused) → may_change answer ≡ false → HasExecuted database old command now answer new → IfSome (closing_failure answer) (λ why. why ≡ failure.VolumeFailed)
undone_closes database old new command now answer nothing done = by answer nothing done.safe.answers
  where
    by : (a : Result Reply Refused) → may_change a ≡ false → a ≢ Err (refused.Failure failure.Closed) → IfSome (closing_failure a) (λ why. why ≡ failure.VolumeFailed)
    by (Ok reply) n other = tt
    by (Err (refused.Refusal refusal)) n other = tt
    by (Err (refused.Failure failure.NoMemory)) n other = tt
    by (Err (refused.Failure failure.VolumeFailed)) n other = refl
    by (Err (refused.Failure failure.StoreFailed)) n other = cc
    by (Err (refused.Failure failure.Closed)) n other = absurd (other refl)
    by (Err (refused.Failure (failure.Damaged damage))) n other = tt

-- a command that recorded nothing was no more than that
pub undone_rested : {V S : Type 0} {g : volume.Ghosts V} (database : Ghosts S) (old new : OpenCustody V S g) (command : Command) (now : ℕ) (answer : Result Reply Refused) → KeepsOrder old → may_change answer ≡ false → HasExecuted database old command now answer new → RecordsNothing database old (stays_open answer) new
undone_rested {V} {S} {g} database old new command now answer order nothing done =
    rested database old new order (done.safe.unchanged nothing).0 (done.safe.unchanged nothing).1 done.written done.any_moment (stays_open answer)
    (λ shut. done.safe.failed (closed answer nothing shut done.safe.answers)) (λ opened. done.safe.not_failed (λ e. stays answer opened e)) done.safe.order done.image
  where
    closed : (a : Result Reply Refused) → may_change a ≡ false → stays_open a ≡ false → a ≢ Err (refused.Failure failure.Closed) → a ≡ Err (refused.Failure failure.VolumeFailed)
    closed (Err (refused.Failure failure.VolumeFailed)) n s other = refl
    closed (Err (refused.Failure failure.Closed)) n s other = absurd (other refl)
    closed _ n s other = cc

    stays : (a : Result Reply Refused) → stays_open a ≡ true → a ≡ Err (refused.Failure failure.VolumeFailed) → ⊥
    stays a s e = let shut : stays_open a ≡ false = ap stays_open e in cc
