-- What a command does to an open custody, once for all commands: for those that do nothing, and for those that are one commit.
use Rattle.std.proofs.Common.{◌≡◌, ◌≢◌, ℕ, List, [], true, false, refl, sym, ◌∙◌, ap, subst, Result, Ok, Err}
use Rattle.std.specs.Prelude.{Bool, not, is_err, IfOk, IsErrAnd}
use Rattle.sqlite.specs.Store.{Ghosts}
use Rattle.sqlite.specs.Held as database_of
use Rattle.vault_volume.specs.declared.volume.Volume as volume
use Rattle.vault_volume.specs.Vault.{volume_of, IsFree}
use Rattle.vault_volume.specs.Disk.{LeavesOnly}
use Rattle.vault_volume.specs.Extents.{SameFree}
use Rattle.vault_volume.specs.Image.{DiffersOnlyIn}
use Rattle.vault_volume.proofs.ImageLemmas.{same_in, in_more}
use Rattle.custody_records.specs.declared.records.Records as held
use Rattle.custody_records.specs.MemoryRecords.{records_of}
use Rattle.custody_records.specs.Records.{Records}
use Rattle.custody_records.specs.Rows.{Rows}
use Rattle.custody_store.specs.StoreState.{Commits, store_state}
use Rattle.custody_store.specs.declared.faults.StoreFault.{StoreFault}
use Rattle.custody_store.specs.declared.faults.StoreFault.TheVariants as fault
use Rattle.custody_machine.specs.Machine as machine
use Rattle.custody_machine.specs.Machine.{Command, Refuse, Accept, step, deciding_keys, Accepted, MayAnswer, MayRefuse, MayFail}
use Rattle.custody_machine.specs.State.{State}
use Rattle.custody_machine.specs.History.{is_open_after}
use Rattle.custody_machine.specs.StoredState.{IsVolumeOf, AreWholeOnVolume, state_in}
use Rattle.custody_machine.specs.Moves.{DependsOnBytes}
use Rattle.custody_machine.specs.Rulings.{command_bytes}
use Rattle.custody_machine.specs.Custody.{IsInOrder}
use Rattle.custody_machine.specs.declared.answers.Failure.{Failure}
use Rattle.custody_machine.specs.declared.answers.Refusal.{Refusal}
use Rattle.custody_machine.specs.declared.answers.Failure.TheVariants.{NoMemory, StoreFailed, Damaged}
use Rattle.custody_machine.specs.declared.answers.Refusal.TheVariants.{VolumeFull}
use Rattle.custody_machine.proofs.Compared.{each_of, now_of}
use Rattle.custody_machine.proofs.Composed.{IsChange, nothing_in}
use Rattle.custody.specs.declared.answers.Reply.{Reply}
use Rattle.custody.specs.declared.answers.Refused as not_accepted
use Rattle.custody.specs.declared.answers.Refused.TheVariants as refused
use Rattle.custody.specs.declared.open_custody.OpenCustody.{OpenCustody}
use Rattle.custody.specs.Answers.{answer_of, stays_open, uses_volume, writes_volume}
use Rattle.custody.specs.Opening.{failure_of}
use Rattle.custody.specs.RulingAnswers.{FollowsRecords}
use Rattle.custody.specs.ReplyRecords.{IsRecorded, HoldsBytes}
use Rattle.custody.specs.OpenCustody.{current_records, store_state_of, image_of, failures_of, MayLeaveImage, MayLeaveImageSince, KeepsOrder, KeepsImage, KeepsRows, IsSafe, IsUnwritten, HasExecuted}
use Rattle.custody.proofs.Ended.{rows_same}
use Rattle.custody.proofs.OpenCustodyLemmas.{err_is, on_ok, stays_still, leaves_more, StandFor, either_form, form_then, rows_then, safe_done, safe_undone, image_same, order_same, good_before, does_nothing, does_change, is_in_doubt}

-- the machine closes where the code does
pub opens_alike : (command : Command) (answer : Result Reply not_accepted.Refused) → stays_open answer ≡ is_open_after (answer_of command answer)
opens_alike command (Err (refused.Failure (Damaged damage))) = refl
opens_alike command _ = refl

-- what is no want of room
pub ok_not_full : (reply : Reply) → ◌≢◌ {A = Result Reply not_accepted.Refused} (Ok reply) (Err (refused.Refusal VolumeFull))
ok_not_full reply e = cc

pub fault_not_full : (failure : Failure) → ◌≢◌ {A = Result Reply not_accepted.Refused} (Err (refused.Failure failure)) (Err (refused.Refusal VolumeFull))
fault_not_full failure e = cc

pub refusal_not_full : (refusal : Refusal) → refusal ≢ VolumeFull → ◌≢◌ {A = Result Reply not_accepted.Refused} (Err (refused.Refusal refusal)) (Err (refused.Refusal VolumeFull))
refusal_not_full refusal other e = let same : refusal ≡ VolumeFull = cc in other same

-- an error that came through a `?`
pub failed_as : {V S : Type 0} {g : volume.Ghosts V} {database : Ghosts S} {old new : OpenCustody V S g} {command : Command} {now : ℕ} {failed : not_accepted.Refused} {answer : Result Reply not_accepted.Refused}
    → IsErrAnd answer (λ e. e ≡ failed) → HasExecuted database old command now (Err failed) new → HasExecuted database old command now answer new
failed_as {database = database} {old = old} {new = new} {command = command} {now = now} {answer = answer} is done = subst (λ answer. HasExecuted database old command now answer new) (sym (err_is answer _ is)) done

module _ {V S : Type 0} {g : volume.Ghosts V} (database : Ghosts S) (old : OpenCustody V S g) (order : KeepsOrder old) (command : Command) (now : ℕ) where
  -- ---- nothing was written: it is refused, it is a repeat, or it failed before the commit and is open still

  module _ (new : OpenCustody V S g) (same : current_records new ≡ current_records old) (store_same : new.store ≡ old.store) (free : SameFree (IsFree old.vault) (IsFree new.vault)) (unwritten : g.tells → IsUnwritten old new) where
    pub reads_done : (answer : Result Reply not_accepted.Refused) → IsSafe old command answer new → FollowsRecords (current_records old) command now answer (current_records new)
        → IfOk answer (λ reply. IsRecorded (current_records new) reply.record) → (g.tells → IfOk answer (λ reply. HoldsBytes (image_of new) reply.record (command_bytes command)))
        → (g.tells → MayAnswer (state_in (current_records old) (image_of old)) command now (answer_of command answer) (state_in (current_records old) (image_of old)) × DependsOnBytes (current_records old) (image_of old) command now (answer_of command answer))
        → HasExecuted database old command now answer new
    reads_done answer safe ruled shown holds told = record {
      safe = safe;
      ruled = ruled;
      shown = shown;
      holds = holds;
      written = λ tells. subst (DiffersOnlyIn (IsFree old.vault) (image_of old)) (sym (unwritten tells).0) (same_in (IsFree old.vault) (image_of old));
      unwritten = λ _ _. unwritten;
      reads_only = λ _. unwritten;
      any_moment = λ tells volume. leaves_more g.moment g.left_at (volume_of old.vault) (volume_of new.vault) _ _ volume.elsewhere (unwritten tells).1;
      mode = λ _ store. subst (λ s. (store_state database s).in_transaction ≡ false) (sym store_same) store.ready.rest.autocommit;
      trust = subst (λ s. (store_state database s).IsHonest) store_same;
      serves = λ tells honest volume store. let allowed = told tells in let still = unwritten tells in
          does_nothing database old new order volume store command now answer allowed.0 allowed.1 (opens_alike command answer) same (λ _. still.0)
          (λ j w. volume.elsewhere j (each_of g.moment g.left_at (volume_of old.vault) (volume_of new.vault) _ still.1 j w)) (λ r w. subst (λ s. (store_state database s).may_leave r) store_same w)
          (λ j w. volume.elsewhere j (now_of g.moment g.left_at (volume_of old.vault) (volume_of new.vault) _ still.1 j w));
      image = λ _ tells volume. let still = unwritten tells in image_same old new same free still.0 (λ c w. volume.elsewhere c (now_of g.moment g.left_at (volume_of old.vault) (volume_of new.vault) _ still.1 c w)) volume;
      rows = λ _ honest. rows_same database old new same store_same;
    }

  -- ---- nothing was called

  module _ (r : held.Records) (same : records_of r ≡ current_records old) (answer : Result Reply not_accepted.Refused) (stays : stays_open answer ≡ true) where
    abbrev resting : OpenCustody V S g
    resting = record { vault = old.vault; store = old.store; records = r }

    pub rests_done : answer ≢ Err (refused.Refusal VolumeFull) → FollowsRecords (current_records old) command now answer (records_of r)
        → IfOk answer (λ reply. IsRecorded (records_of r) reply.record) → (g.tells → IfOk answer (λ reply. HoldsBytes (image_of old) reply.record (command_bytes command)))
        → (g.tells → MayAnswer (state_in (current_records old) (image_of old)) command now (answer_of command answer) (state_in (current_records old) (image_of old)) × DependsOnBytes (current_records old) (image_of old) command now (answer_of command answer))
        → HasExecuted database old command now answer (record { vault = old.vault; store = old.store; records = r })
    rests_done full ruled shown holds told =
        reads_done resting same refl (λ b. (λ f. f, λ f. f)) (λ _. (refl, stays_still g.moment g.left_at (volume_of old.vault))) answer
        (safe_undone old resting same (λ b. (λ f. f, λ f. f)) command answer (λ e. shut (ap stays_open e)) (λ e. shut (ap stays_open e)) (λ _. refl) (λ e. absurd (full e)) (λ _. refl) refl (λ _. order_same old resting same (λ b. (λ f. f, λ f. f)) refl refl order))
        ruled shown holds told
      where
        shut : {P : Type 0} → stays_open answer ≡ false → P
        shut closed = let clash : true ≡ false = sym stays ∙ closed in cc

  -- the three that every command has, each from what the machine answers
  module _ (r : held.Records) (same : records_of r ≡ current_records old) where
    -- refused, and no bytes decided it
    pub refuses_done : (refusal : Refusal) → refusal ≢ VolumeFull → step (state_in (current_records old) (image_of old)) command now ≡ Refuse refusal → deciding_keys (state_in (current_records old) (image_of old)) command now ≡ []
        → FollowsRecords (current_records old) command now (Err (refused.Refusal refusal)) (records_of r) → HasExecuted database old command now (Err (refused.Refusal refusal)) (record { vault = old.vault; store = old.store; records = r })
    refuses_done refusal other is none ruled = rests_done r same (Err (refused.Refusal refusal)) refl (refusal_not_full refusal other) ruled tt (λ _. tt)
        (λ _. ((subst (λ x. MayRefuse command x refusal) (sym is) refl, refl), λ key within. absurd (nothing_in _ key none within)))

    -- a repeat, and no bytes decided it
    pub repeats_done : (answer : Reply) (reply : machine.Reply) → answer_of command (Ok answer) ≡ Accepted reply → step (state_in (current_records old) (image_of old)) command now ≡ Accept reply (state_in (current_records old) (image_of old)) → deciding_keys (state_in (current_records old) (image_of old)) command now ≡ []
        → FollowsRecords (current_records old) command now (Ok answer) (records_of r) → IsRecorded (records_of r) answer.record → (g.tells → HoldsBytes (image_of old) answer.record (command_bytes command)) → HasExecuted database old command now (Ok answer) (record { vault = old.vault; store = old.store; records = r })
    repeats_done answer reply told is none ruled shown holds = rests_done r same (Ok answer) refl (ok_not_full answer) ruled shown holds
        (λ _. (
          subst (λ a. MayAnswer (state_in (current_records old) (image_of old)) command now a (state_in (current_records old) (image_of old))) (sym told) is,
          subst (λ a. DependsOnBytes (current_records old) (image_of old) command now a) (sym told) (λ key within. absurd (nothing_in _ key none within)),
        ))

    -- it would be accepted, and there is no memory
    pub no_memory_done : (reply : machine.Reply) (later : State) → step (state_in (current_records old) (image_of old)) command now ≡ Accept reply later
        → FollowsRecords (current_records old) command now (Err (refused.Failure NoMemory)) (records_of r) → HasExecuted database old command now (Err (refused.Failure NoMemory)) (record { vault = old.vault; store = old.store; records = r })
    no_memory_done reply later is ruled = rests_done r same (Err (refused.Failure NoMemory)) refl (fault_not_full NoMemory) ruled tt (λ _. tt)
        (λ _. ((subst (λ x. MayFail x (deciding_keys (state_in (current_records old) (image_of old)) command now) NoMemory) (sym is) tt, refl), tt))

  -- ---- a command that is one commit

  -- Its records and its reply are the machine's. What it wrote before lies in free blocks, and a stop after it leaves all but some of the blocks that are free then.
  pub record IsOneChange (new : OpenCustody V S g) (changed : Records) (reply : machine.Reply) (unsettled : ℕ → Type 0) : Type 0 where
    pub uncalled : uses_volume command ≡ false → volume_of new.vault ≡ volume_of old.vault
    pub reads_only : writes_volume command ≡ false → g.tells → IsUnwritten old new
    pub failures : failures_of new ≡ failures_of old
    pub first : reply.is_repeat ≡ false
    pub written : g.tells → DiffersOnlyIn (IsFree old.vault) (image_of old) (image_of new)
    pub accepted : g.tells → KeepsImage old → step (state_in (current_records old) (image_of old)) command now ≡ Accept reply (state_in changed (image_of new))
    pub rests : g.tells → KeepsImage old → DependsOnBytes (current_records old) (image_of old) command now (Accepted reply)
    pub change : g.tells → KeepsImage old → AreWholeOnVolume (current_records old) (image_of old) → IsChange (current_records old) (image_of old) (IsFree old.vault) changed (image_of new) unsettled
    pub volume : g.tells → KeepsImage old → IsVolumeOf changed (image_of new)
    pub any_moment : g.tells → KeepsImage old → LeavesOnly g.moment g.left_at (volume_of old.vault) (volume_of new.vault) (DiffersOnlyIn (IsFree old.vault) (image_of old))
    pub after : g.tells → KeepsImage old → (j : List ℕ) → MayLeaveImage new j → DiffersOnlyIn unsettled (image_of new) j

  -- And what is known in memory goes on after it.
  pub record GoesOn (new : OpenCustody V S g) (changed : Records) (reply : machine.Reply) (unsettled : ℕ → Type 0) : Type 0 where
    pub change : IsOneChange new changed reply unsettled
    pub in_order : IsInOrder changed (g.size (volume_of new.vault)) (failures_of new) (IsFree new.vault)
    pub fewer : (b : ℕ) → unsettled b → IsFree new.vault b

  -- one that does not call the volume
  pub volume_stays : (store : database_of.Held S) (r : held.Records) (changed : Records) (reply : machine.Reply) → IsInOrder changed (g.size (volume_of old.vault)) (failures_of old) (IsFree old.vault) → reply.is_repeat ≡ false
      → deciding_keys (state_in (current_records old) (image_of old)) command now ≡ [] → step (state_in (current_records old) (image_of old)) command now ≡ Accept reply (state_in changed (image_of old))
      → (AreWholeOnVolume (current_records old) (image_of old) → IsChange (current_records old) (image_of old) (IsFree old.vault) changed (image_of old) (IsFree old.vault)) → (IsVolumeOf (current_records old) (image_of old) → IsVolumeOf changed (image_of old))
      → GoesOn (record { vault = old.vault; store = store; records = r }) changed reply (IsFree old.vault)
  volume_stays store r changed reply in_order first none accepted change volume = record {
    change = record {
      uncalled = λ _. refl;
      reads_only = λ _ _. (refl, stays_still g.moment g.left_at (volume_of old.vault));
      failures = refl;
      first = first;
      written = λ _. same_in (IsFree old.vault) (image_of old);
      accepted = λ _ _. accepted;
      rests = λ _ _ key within. absurd (nothing_in _ key none within);
      change = λ _ _. change;
      volume = λ _ kept. volume kept.volume;
      any_moment = λ _ kept. leaves_more g.moment g.left_at (volume_of old.vault) (volume_of old.vault) _ _ kept.elsewhere (stays_still g.moment g.left_at (volume_of old.vault));
      after = λ _ kept. kept.elsewhere;
    };
    in_order = in_order;
    fewer = λ b f. f;
  }

  module _ (new : OpenCustody V S g) (changed : Records) (reply : machine.Reply) {unsettled : ℕ → Type 0} (is : IsOneChange new changed reply unsettled) {A E : Type 0} (result : Result A E) (after : Rows)
      (commits : Commits (store_state_of database old) (store_state_of database new) after result) (means : StandFor (store_state_of database old).rows (current_records old) → StandFor after changed) where
    during : g.tells → KeepsImage old → (j : List ℕ) → MayLeaveImageSince old new j → DiffersOnlyIn (IsFree old.vault) (image_of old) j
    during tells volume = each_of g.moment g.left_at (volume_of old.vault) (volume_of new.vault) _ (is.any_moment tells volume)

    ended : (store_state_of database new).IsHonest → KeepsRows database old → (store_state_of database new).in_transaction ≡ false
    ended honest store = (commits.effect honest store.ready).ended

    -- the database failed: it is committed or not
    pub commits_in_doubt : {found : StoreFault} → found ≡ fault.Failed → {answer : Result Reply not_accepted.Refused} → IsErrAnd answer (λ e. e ≡ refused.Failure (failure_of found))
        → FollowsRecords (current_records old) command now (Err (refused.Failure StoreFailed)) (current_records new) → HasExecuted database old command now answer new
    commits_in_doubt kind {answer = answer} failed ruled = failed_as (subst (λ found. IsErrAnd answer (λ e. e ≡ refused.Failure (failure_of found))) kind failed) (record {
      safe = record { answers = λ e. cc; failed = λ e. cc; not_failed = λ _. is.failures; full = λ e. cc; uncalled = is.uncalled; unchanged = λ e. cc; order = λ e. cc };
      ruled = ruled;
      shown = tt;
      holds = λ _. tt;
      written = is.written;
      unwritten = λ e. cc;
      reads_only = is.reads_only;
      any_moment = is.any_moment;
      mode = ended;
      trust = commits.trust;
      serves = λ tells honest volume store.
          is_in_doubt database old new order volume store command now changed unsettled (is.change tells volume (good_before database old new order volume store command now)) reply (is.accepted tells volume) is.first
          (during tells volume) (either_form _ _ (current_records old) changed _ store (means (store.in_form, store.current)) result (commits.effect honest store.ready)) (is.after tells volume);
      image = λ e. cc;
      rows = λ e. cc;
    })

  -- it is committed, and answered
  module _ (new : OpenCustody V S g) (changed : Records) (reply : machine.Reply) {unsettled : ℕ → Type 0} (goes : GoesOn new changed reply unsettled) {A E : Type 0} (result : Result A E) (after : Rows)
      (commits : Commits (store_state_of database old) (store_state_of database new) after result) (means : StandFor (store_state_of database old).rows (current_records old) → StandFor after changed) where
    abbrev is : IsOneChange new changed reply unsettled
    is = goes.change

    pub commits_done : is_err result ≡ false → current_records new ≡ changed → (answer : Reply) → answer.is_repeat ≡ false → answer_of command (Ok answer) ≡ Accepted reply → FollowsRecords (current_records old) command now (Ok answer) (current_records new)
        → IsRecorded (current_records new) answer.record → (g.tells → HoldsBytes (image_of new) answer.record (command_bytes command)) → HasExecuted database old command now (Ok answer) new
    commits_done good same answer first told ruled shown holds = record {
      safe = safe_done old new command answer first is.uncalled is.failures (subst (λ r. IsInOrder r (g.size (volume_of new.vault)) (failures_of new) (IsFree new.vault)) (sym same) goes.in_order);
      ruled = ruled;
      shown = shown;
      holds = holds;
      written = is.written;
      unwritten = λ e. repeated answer.is_repeat first e;
      reads_only = is.reads_only;
      any_moment = is.any_moment;
      mode = ended new changed reply is result after commits means;
      trust = commits.trust;
      serves = λ tells honest volume store. let done = on_ok _ result _ refl good (commits.effect honest store.ready).done in
          does_change database old new order volume store command now changed unsettled (is.change tells volume (good_before database old new order volume store command now)) answer reply told (is.accepted tells volume) (is.rests tells volume) same
          (during new changed reply is result after commits means tells volume) (form_then _ _ (current_records old) changed _ store (means (store.in_form, store.current)) done.0 done.1) (is.after tells volume);
      image = λ _ tells volume. record { volume = subst (λ r. IsVolumeOf r (image_of new)) (sym same) (is.volume tells volume); elsewhere = λ c w. in_more unsettled (IsFree new.vault) (image_of new) c goes.fewer (is.after tells volume c w) };
      rows = λ _ honest store. let done = on_ok _ result _ refl good (commits.effect honest store.ready).done in rows_then _ _ (current_records old) changed _ store (means (store.in_form, store.current)) done.0 done.1 _ same;
    }
      where
        repeated : {P : Type 0} (b : Bool) → b ≡ false → not b ≡ false → P
        repeated true p q = cc
        repeated false p q = cc
