-- What a call does that is no command: one that reads, or that ends before there is a command.
use Rattle.std.specs.Prelude.{◌≡◌, ◌<◌, Bool, true, false}
use Rattle.vault_volume.specs.declared.volume.Volume as volume
use Rattle.vault_volume.specs.Disk.{LeavesOnly}
use Rattle.vault_volume.specs.Image.{DiffersOnlyIn}
use Rattle.vault_volume.specs.Vault.{volume_of, IsFree}
use Rattle.sqlite.specs.Store.{Ghosts}
use Rattle.custody_machine.specs.Custody.{AnswersOtherCall}
use Rattle.custody.specs.declared.open_custody.OpenCustody.{OpenCustody}
use Rattle.custody.specs.OpenCustody.{current_records, image_of, failures_of, contents_of, left_by_call, KeepsOrder, KeepsImage, KeepsRows}

module _ {V S : Type 0} {g : volume.Ghosts V} where
  -- A call that is no command, to an open custody; after it the custody is open or not.
  pub record RecordsNothing (database : Ghosts S) (old : OpenCustody V S g) (is_open : Bool) (new : OpenCustody V S g) : Type 0 where
    -- nothing is recorded, and the database was not called
    pub records : current_records new ≡ current_records old
    pub store : new.store ≡ old.store
    -- it is closed where the volume has failed
    pub failed : is_open ≡ false → failures_of old < failures_of new
    -- and nowhere else
    pub not_failed : is_open ≡ true → failures_of new ≡ failures_of old
    -- what is known in memory goes on
    pub order : is_open ≡ true → KeepsOrder new
    -- only free blocks are written
    pub written : g.tells → DiffersOnlyIn (IsFree old.vault) (image_of old) (image_of new)
    -- the clock does not go back, the past stays, and a stop leaves at each moment since all but the free blocks as they were
    pub any_moment : g.tells → KeepsImage old → LeavesOnly g.moment g.left_at (volume_of old.vault) (volume_of new.vault) (DiffersOnlyIn (IsFree old.vault) (image_of old))
    -- it stays as it was or is closed, and a stop leaves at each moment what it could leave at the start
    pub rests : g.tells → KeepsImage old → KeepsRows database old → AnswersOtherCall (contents_of old) is_open (contents_of new) (left_by_call database old new)
    -- what holds of image and rows while a custody is open goes on
    pub image : is_open ≡ true → g.tells → KeepsImage old → KeepsImage new
    pub rows : KeepsRows database old → KeepsRows database new
