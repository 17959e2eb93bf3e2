-- What a custody holds: its records, and what its volume and its database have and may leave at a stop.
use Rattle.std.specs.Prelude.{◌≡◌, ◌≢◌, ◌<◌, ◌≤◌, ◌↔◌, ℕ, List, true, false, Result, Err, IfOk}
use Rattle.vault_volume.specs.declared.volume.Volume as volume
use Rattle.vault_volume.specs.Disk.{LeavesOnly}
use Rattle.vault_volume.specs.Image.{DiffersOnlyIn}
use Rattle.vault_volume.specs.Vault.{volume_of, IsFree, IsFree-prop}
use Rattle.sqlite.specs.Store.{Ghosts}
use Rattle.custody_records.specs.MemoryRecords.{records_of}
use Rattle.custody_records.specs.Records.{Records}
use Rattle.custody_store.specs.StoreState.{StoreState, store_state}
use Rattle.custody_machine.specs.Machine.{Command}
use Rattle.custody_machine.specs.declared.answers.Refusal.TheVariants.{VolumeFull}
use Rattle.custody_machine.specs.declared.answers.Failure.TheVariants.{VolumeFailed, Closed}
use Rattle.custody_machine.specs.Rulings.{command_bytes}
use Rattle.custody_machine.specs.Custody.{IsInOrder, IsOnVolume, IsInStore, LeftSince, HasRoomForCommand, RecordsAndImage, LeftByCall, AnswersCommand}
use Rattle.custody.specs.declared.answers.Reply.{Reply}
use Rattle.custody.specs.declared.answers.Refused.{Refused}
use Rattle.custody.specs.declared.answers.Refused.TheVariants as refused
use Rattle.custody.specs.declared.open_custody.OpenCustody.{OpenCustody}
use Rattle.custody.specs.Answers.{answer_of, stays_open, may_change, may_call, writes_volume}
use Rattle.custody.specs.Propositions.{IsInOrder-prop}
use Rattle.custody.specs.RulingAnswers.{FollowsRecords}
use Rattle.custody.specs.ReplyRecords.{IsRecorded, HoldsBytes}

module _ {V S : Type 0} {g : volume.Ghosts V} where
  abbrev pub current_records : OpenCustody V S g → Records
  current_records h = records_of h.records

  -- what the database shows
  abbrev pub store_state_of : Ghosts S → OpenCustody V S g → StoreState
  store_state_of database h = store_state database h.store

  -- the bytes of the volume, as a read gives them
  abbrev pub image_of : OpenCustody V S g → List ℕ
  image_of h = g.image (volume_of h.vault)

  abbrev pub failures_of : OpenCustody V S g → ℕ
  failures_of h = g.failures (volume_of h.vault)

  -- the images that a stop may leave now
  abbrev pub MayLeaveImage : OpenCustody V S g → List ℕ → Type 0
  MayLeaveImage h = g.left_at (volume_of h.vault) (g.moment (volume_of h.vault))

  -- and those that a stop may leave at a moment from the old ones to the new ones
  abbrev pub MayLeaveImageSince : OpenCustody V S g → OpenCustody V S g → List ℕ → Type 0
  MayLeaveImageSince old new = LeftSince g.moment g.left_at (volume_of old.vault) (volume_of new.vault)

  -- the clock of the volume does not go back, and what a stop could leave at each moment up to then stays
  abbrev pub KeepsPast : OpenCustody V S g → OpenCustody V S g → Type 0
  KeepsPast old new = (g.moment (volume_of old.vault) ≤ g.moment (volume_of new.vault))
      × ((t : ℕ) (c : List ℕ) → t ≤ g.moment (volume_of old.vault) → g.left_at (volume_of new.vault) t c ↔ g.left_at (volume_of old.vault) t c)

  -- ---- what holds while a custody is open

  -- in memory, whatever volume and database are
  abbrev pub KeepsOrder : OpenCustody V S g → Type 0
  KeepsOrder h = IsInOrder (current_records h) (g.size (volume_of h.vault)) (failures_of h) (IsFree h.vault)

  pub KeepsOrder-prop : (h : OpenCustody V S g) → IsProp (KeepsOrder h)
  KeepsOrder-prop h = IsInOrder-prop (current_records h) (g.size (volume_of h.vault)) (failures_of h) (IsFree h.vault) (IsFree-prop h.vault)

  -- on a volume that tells its images
  abbrev pub KeepsImage : OpenCustody V S g → Type 0
  KeepsImage h = IsOnVolume (current_records h) (image_of h) (IsFree h.vault) (MayLeaveImage h)

  -- in a database that is honest
  abbrev pub KeepsRows : Ghosts S → OpenCustody V S g → Type 0
  KeepsRows database h = IsInStore (current_records h) (store_state_of database h).rows (store_state_of database h).IsReady (store_state_of database h).may_leave

  -- ---- what a command does

  -- What is known of a command that an open custody does, whatever volume and database are.
  pub record IsSafe (old : OpenCustody V S g) (command : Command) (answer : Result Reply Refused) (new : OpenCustody V S g) : Type 0 where
    -- it is open, and does not say that it is closed
    pub answers : answer ≢ Err (refused.Failure Closed)
    -- the volume has failed where it says so
    pub failed : answer ≡ Err (refused.Failure VolumeFailed) → failures_of old < failures_of new
    -- and has not where it says anything else
    pub not_failed : answer ≢ Err (refused.Failure VolumeFailed) → failures_of new ≡ failures_of old
    -- there is no room where it says so
    pub full : answer ≡ Err (refused.Refusal VolumeFull) → ¬ HasRoomForCommand (current_records old) command
    -- the volume was not called where no part is kept, compared or verified: so C1 and Q11 come before any write
    pub uncalled : may_call command answer ≡ false → volume_of new.vault ≡ volume_of old.vault
    -- where nothing was done, nothing is recorded, and the database was not called
    pub unchanged : may_change answer ≡ false → (current_records new ≡ current_records old) × (new.store ≡ old.store)
    -- what is known in memory goes on
    pub order : stays_open answer ≡ true → KeepsOrder new

  -- what it has
  abbrev pub contents_of : OpenCustody V S g → RecordsAndImage
  contents_of h = record { records = current_records h; image = image_of h }

  -- what a stop may leave of a call from the old one to the new one
  abbrev pub left_by_call : Ghosts S → OpenCustody V S g → OpenCustody V S g → LeftByCall
  left_by_call database old new = record {
    rows_before = (store_state_of database old).may_leave;
    images_since = MayLeaveImageSince old new;
    rows_then = (store_state_of database new).may_leave;
    images_then = MayLeaveImage new;
  }

  -- What a command does and leaves, where the volume tells its images and the database was honest to the end.
  abbrev pub HasAnsweredCommand : Ghosts S → OpenCustody V S g → Command → ℕ → Result Reply Refused → OpenCustody V S g → Type 0
  HasAnsweredCommand database old command now answer new =
      AnswersCommand (contents_of old) command now (answer_of command answer) (stays_open answer) (contents_of new) (left_by_call database old new)

  -- nothing was written: the volume is read as before, and a stop leaves at each moment what it left before
  abbrev pub IsUnwritten : OpenCustody V S g → OpenCustody V S g → Type 0
  IsUnwritten old new = (image_of new ≡ image_of old) × LeavesOnly g.moment g.left_at (volume_of old.vault) (volume_of new.vault) (MayLeaveImage old)

  -- What a command does to an open custody.
  pub record HasExecuted (database : Ghosts S) (old : OpenCustody V S g) (command : Command) (now : ℕ) (answer : Result Reply Refused) (new : OpenCustody V S g) : Type 0 where
    -- whatever volume and database are
    pub safe : IsSafe old command answer new
    -- what the records decide is answered
    pub ruled : FollowsRecords (current_records old) command now answer (current_records new)
    -- a record is answered that is one of the records then
    pub shown : IfOk answer (λ reply. IsRecorded (current_records new) reply.record)
    -- and a part lies there, with the bytes of the command
    pub holds : g.tells → IfOk answer (λ reply. HoldsBytes (image_of new) reply.record (command_bytes command))
    -- only free blocks are written
    pub written : g.tells → DiffersOnlyIn (IsFree old.vault) (image_of old) (image_of new)
    -- and none at all where nothing is recorded and it stays open
    pub unwritten : may_change answer ≡ false → stays_open answer ≡ true → g.tells → IsUnwritten old new
    -- nor, whatever is answered, by a command that receives no part
    pub reads_only : writes_volume command ≡ false → g.tells → IsUnwritten old new
    -- the clock does not go back, the past stays, and a stop leaves at each moment since all but the free blocks as they were
    pub any_moment : g.tells → KeepsImage old → LeavesOnly g.moment g.left_at (volume_of old.vault) (volume_of new.vault) (DiffersOnlyIn (IsFree old.vault) (image_of old))
    -- no transaction is open, whatever is answered
    pub mode : (store_state_of database new).IsHonest → KeepsRows database old → (store_state_of database new).in_transaction ≡ false
    -- a database that is honest was so before
    pub trust : (store_state_of database new).IsHonest → (store_state_of database old).IsHonest
    -- what it answers, does and leaves
    pub serves : g.tells → (store_state_of database new).IsHonest → KeepsImage old → KeepsRows database old → HasAnsweredCommand database old command now answer new
    -- what holds of image and rows while a custody is open goes on
    pub image : stays_open answer ≡ true → g.tells → KeepsImage old → KeepsImage new
    pub rows : stays_open answer ≡ true → (store_state_of database new).IsHonest → KeepsRows database old → KeepsRows database new
