-- What a host holds of a vault's folder. `held` gives the bytes of the file of a path, where there is one that is not open, and `later` does so at a later moment.
use Rattle.std.specs.Prelude.{◌≡◌, ◌≢◌, ◌++◌, ℕ, List, [], Option, None, Some, codes, IfSome}
use Rattle.sqlite_disk.specs.declared.Disk as disk
use Rattle.sqlite_disk.specs.declared.Files.{Files}
use Rattle.sqlite_disk.specs.Disk.{Only}
use Rattle.sqlite_store.specs.declared.store.FileStore.{FileStore}
use Rattle.sqlite_store.specs.FileStore.{files as store_files}
use Rattle.sqlite.specs.Files.{Finds, IsClosed, file_state}
use Rattle.sqlite.specs.Held.{Held}
use Rattle.sqlite.specs.State.{HasCleanDisk}
use Rattle.vault_volume.specs.declared.volume.Volume as volume
use Rattle.vault_volume.specs.Disk.{LeavesOneImage}

-- the paths of the volume and of the database in a folder, and that of a database's log
abbrev pub volume_path : List ℕ → List ℕ
volume_path folder = folder ++ codes "/vault.vol"

abbrev pub database_path : List ℕ → List ℕ
database_path folder = folder ++ codes "/custody.db"

abbrev pub log_path : List ℕ → List ℕ
log_path database = database ++ codes "-wal"

-- the path is not that of a database or of its log
abbrev pub IsOtherPath : (database other : List ℕ) → Type 0
IsOtherPath database other = (other ≢ database) × (other ≢ log_path database)

-- the path is not that of a file of a folder's vault
abbrev pub IsOutside : (folder other : List ℕ) → Type 0
IsOutside folder other = (other ≢ volume_path folder) × IsOtherPath (database_path folder) other

-- the bytes of a file, and of a missing one none
abbrev pub bytes_or_none : Option (List ℕ) → List ℕ
bytes_or_none None = []
bytes_or_none (Some bytes) = bytes

-- the files of a database that was closed
pub record AreFilesLeft {D : Type 0} {d : disk.Ghosts D} (db : Held (FileStore D d)) (files : Files D) : Type 0 where
  pub last : FileStore D d
  pub closed : IsClosed db last
  pub files_are : store_files last ≡ (files.log, files.db)

module _ (held : List ℕ → Option (List ℕ)) where
  module _ {D : Type 0} (d : disk.Ghosts D) (path : List ℕ) where
    -- A database file and its log have the bytes that are held at the path and at that of its log, settled.
    pub record AreFilesHeld (files : Files D) : Type 0 where
      pub db : d.seen files.db ≡ bytes_or_none (held path)
      pub log : d.seen files.log ≡ bytes_or_none (held (log_path path))
      pub db_settled : Only (d.seen files.db) (d.may_leave files.db)
      pub log_settled : Only (d.seen files.log) (d.may_leave files.log)

    -- the database is the one that is found in such files
    abbrev pub IsDatabaseHeld : Held (FileStore D d) → Type 0
    IsDatabaseHeld db = HasCleanDisk (file_state db) → (files : Files D) × AreFilesHeld files × Finds files db

    -- a database that was closed left in its files what is held at the path and at that of its log
    pub record IsDatabaseLeft (db : Held (FileStore D d)) : Type 0 where
      pub files : Files D
      pub left : AreFilesLeft db files
      pub db_held : held path ≡ Some (d.seen files.db)
      pub log_held : held (log_path path) ≡ Some (d.seen files.log)

  module _ {V : Type 0} (g : volume.Ghosts V) (path : List ℕ) where
    -- the volume has the bytes that are held at the path, settled
    abbrev pub IsVolumeHeld : V → Type 0
    IsVolumeHeld volume = (held path ≡ Some (g.image volume)) × LeavesOneImage (g.image volume) (g.left_at volume (g.moment volume))

module _ (held later : List ℕ → Option (List ℕ)) where
  -- each file is as it was
  abbrev pub AreSameFiles : Type 0
  AreSameFiles = (path : List ℕ) → later path ≡ held path

  -- each file that is none of a folder's vault is as it was
  abbrev pub AreSameOutside : (folder : List ℕ) → Type 0
  AreSameOutside folder = (path : List ℕ) → IsOutside folder path → later path ≡ held path

-- the moment of an order is the one that it names, or else the one that the clock shows, where that is known
abbrev pub IsOrderMoment : (shown named : Option ℕ) → ℕ → Type 0
IsOrderMoment shown None now = IfSome shown (λ moment. now ≡ moment)
IsOrderMoment shown (Some named) now = now ≡ named
