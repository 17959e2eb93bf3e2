-- What an order does over the two files of a folder.
use Rattle.std.specs.Prelude.{◌≡◌, ◌≢◌, ◌*◌, ℕ, Bool, List, [], Option, Some, Result, true, false, replicate, IsSome, MatchBool}
use Rattle.clap.specs.Words.{Text}
use Rattle.vault_volume.specs.declared.volume.Volume as volume
use Rattle.vault_volume.specs.declared.block_file.BlockFile as block_file
use Rattle.vault_volume.specs.declared.file_volume.FileVolume.{FileVolume}
use Rattle.vault_volume.specs.Disk.{LeavesOneImage}
use Rattle.vault_volume.specs.File.{is_new_file}
use Rattle.sqlite_disk.specs.declared.Disk as disk
use Rattle.sqlite_disk.specs.declared.memory.Memory.{Memory}
use Rattle.sqlite_disk.specs.contracts.memory.MemoryDisk.TheImpl.{ghosts as memory}
use Rattle.sqlite_store.specs.declared.store.FileStore.{FileStore}
use Rattle.sqlite.specs.Files.{over_files}
use Rattle.sqlite.specs.Store.{Ghosts}
use Rattle.sqlite.specs.Held.{Held}
use Rattle.custody_records.specs.Rows.{Rows}
use Rattle.custody_store.specs.StoreState.{ChangesNothing, StoreState, store_state, has_any_table, HasMetaOrNone}
use Rattle.custody_machine.specs.declared.damage.Damage.TheVariants.{NoRecord}
use Rattle.custody_machine.specs.Damage.{IsDamaged}
use Rattle.custody_machine.specs.declared.answers.Failure.{Failure}
use Rattle.custody.specs.Opening.{HasNoRecord}
use Rattle.answer_lines.specs.Printing.{Writer}
use Rattle.agent_cli.specs.declared.order.Deed.{Deed}
use Rattle.agent_cli.specs.declared.order.Deed.TheVariants as deed
use Rattle.agent_cli.specs.declared.order.Order.{Order}
use Rattle.agent_cli.specs.Reads.{only_reads}
use Rattle.agent_program.specs.declared.folder.FolderCallEnd.{FolderCallEnd}
use Rattle.agent_program.specs.declared.folder.FolderCallEnd.TheVariants as end
use Rattle.agent_program.specs.declared.folder.OpenFolder.{OpenFolder}
use Rattle.agent_program.specs.declared.folder.ReadOnlyFolder.{ReadOnlyFolder}
use Rattle.agent_program.specs.Host.{AreSameOutside, IsDatabaseHeld, IsDatabaseLeft, IsOrderMoment, IsVolumeHeld, database_path, log_path, volume_path}
use Rattle.agent_program.specs.Copies.{IsCopyFound}
use Rattle.agent_program.specs.Parts.{IsOrderRead}
use Rattle.agent_program.specs.VaultCalls.{HasDoneBatch, HasServedConnections, HasPrintedReady, IsCarriedOut, HasPrintedInitError, HasPrintedOpenFailure}

-- a database has no table, no index and no view; and none of the six tables is there, which is not among its tables where an index on it is none that can be read
abbrev pub ListsNothing : StoreState → Type 0
ListsNothing s = (has_any_table s ≡ false) × (s.schema.tables ≡ []) × (s.schema.indexes ≡ []) × (s.schema.views ≡ [])

-- a database has only been asked something
abbrev pub IsAsked : (old new : StoreState) → Type 0
IsAsked old new = (answer : Result Bool Failure) × ChangesNothing old new answer

-- Of the two files of a folder: what was opened is what the host held.
module _ (held : List ℕ → Option (List ℕ)) {F : Type 0} {f : block_file.Ghosts F} (g : volume.Ghosts (FileVolume F f)) where
  -- both were there
  pub record IsFolderHeld {D : Type 0} (d : disk.Ghosts D) (folder : Text) (volume : FileVolume F f) (db : Held (FileStore D d)) : Type 0 where
    pub volume_is : IsVolumeHeld held g (volume_path folder) volume
    pub database_is : IsDatabaseHeld held d (database_path folder) db
    pub there : IsSome (held (database_path folder))

  -- they were opened only to be read
  pub record IsFolderRead (folder : Text) (volume : FileVolume F f) (db : Held (FileStore Memory memory)) : Type 0 where
    pub volume_is : IsVolumeHeld held g (volume_path folder) volume
    pub database_is : IsCopyFound held (database_path folder) db

  -- the volume was there, or was made anew of zero bytes
  abbrev pub IsVolumeMade : (folder : Text) → (blocks : ℕ) → FileVolume F f → Type 0
  IsVolumeMade folder blocks volume = MatchBool (is_new_file volume)
      ((g.image volume ≡ replicate (4096 * blocks) 0) × LeavesOneImage (g.image volume) (g.left_at volume (g.moment volume)))
      (IsVolumeHeld held g (volume_path folder) volume)

  -- the database was there, or was made, and has only been asked since
  pub record IsFolderMade {D : Type 0} (d : disk.Ghosts D) (folder : Text) (blocks : ℕ) (volume : FileVolume F f) (db : Held (FileStore D d)) : Type 0 where
    pub volume_is : IsVolumeMade folder blocks volume
    pub database_is : (found : Held (FileStore D d)) × IsDatabaseHeld held d (database_path folder) found × IsAsked (store_state over_files found) (store_state over_files db)

-- Over the volume and the database of a folder: the status of an order, whether there is a vault, volume and database as
-- they are handed back, and what is printed.
module _ {F S : Type 0} {f : block_file.Ghosts F} (g : volume.Ghosts (FileVolume F f)) (database : Ghosts S) (volume : FileVolume F f) (db : Held S) (status : ℕ) (has_vault : Bool) (later : FileVolume F f) (then : Held S) (output errors : Writer) where
  -- the files were made, and an agent with this number was begun over them, or none
  pub record InitsFolder (blocks number : ℕ) : Type 0 where
    -- a new volume has so many blocks
    pub size : is_new_file volume ≡ true → g.size volume ≡ blocks
    -- one is made only where nothing is listed
    pub bare : is_new_file volume ≡ true → ListsNothing (store_state database db)
    -- so there was no record
    pub unrecorded : is_new_file volume ≡ true → HasMetaOrNone (store_state database db) → (store_state database db).IsHonest → HasNoRecord (store_state database db).rows
    -- where there was none, a stop before the commit leaves none
    pub within : (store_state database db).IsAtRest → HasNoRecord (store_state database db).rows → (rows : Rows) (image : List ℕ) → (store_state database db).may_leave rows → IsDamaged NoRecord rows image
    pub ends : MatchBool has_vault (HasPrintedReady g database volume db blocks number status later then output errors) (HasPrintedInitError g database volume db number status later then output errors)

  -- the files were found, and the order was carried out over them at its moment, or no agent was opened
  pub record ActsInFolder (shown : Option ℕ) (order : Order) (bytes : List ℕ) : Type 0 where
    pub now : ℕ
    pub found : is_new_file volume ≡ false
    pub moment : IsOrderMoment shown order.now now
    pub ends : MatchBool has_vault (IsCarriedOut g database volume db order.deed bytes now status later then output errors) (HasPrintedOpenFailure g database volume db status later then output errors)

  -- the files were found, and the orders of these lines were done over them, or no agent was opened
  pub record BatchesFolder (reveals : Type 0) (held : List ℕ → Option (List ℕ)) (shown : Option ℕ) (folder : Text) (lines : Option (List ℕ)) : Type 0 where
    pub found : is_new_file volume ≡ false
    -- what the host holds then; outside the folder's vault that is what it held
    pub held_then : List ℕ → Option (List ℕ)
    pub others : reveals → AreSameOutside held held_then folder
    pub ends : MatchBool has_vault (HasDoneBatch g database volume db held_then shown folder lines status later then output errors) (HasPrintedOpenFailure g database volume db status later then output errors)

  -- the files were found, and so many connections at most were answered at this port, or no agent was opened
  pub record ServesFolder (port requests : ℕ) (until_closed : Bool) (given : Option ℕ) : Type 0 where
    pub found : is_new_file volume ≡ false
    pub ends : MatchBool has_vault (HasServedConnections g database volume db port given requests until_closed status later then output) (HasPrintedOpenFailure g database volume db status later then output errors)

  -- each order does its own; the bytes of a `put` are those of its file, and the lines of a batch those of these bytes
  abbrev pub IsOrderDone : (reveals : Type 0) → (held : List ℕ → Option (List ℕ)) → (shown : Option ℕ) → (lines : Option (List ℕ)) → Order → Type 0
  IsOrderDone reveals held shown lines order = by order.deed
    where
      by : Deed → Type 0
      by (deed.Init blocks number) = InitsFolder blocks number
      by deed.Batch = BatchesFolder reveals held shown order.folder.now lines
      by (deed.Serve port requests until_closed) = ServesFolder port requests until_closed order.now
      by other = (bytes : List ℕ) × IsOrderRead held other bytes × ActsInFolder shown order bytes

-- Of what is held at the paths of a database and its log before an order and after it: a database that was only copied is as it was.
abbrev pub IsCopiedAlone : (held later : List ℕ → Option (List ℕ)) → (database : Text) → Type 0
IsCopiedAlone held later database = (later database ≡ held database) × (later (log_path database) ≡ held (log_path database))

module _ {F D : Type 0} {f : block_file.Ghosts F} {d : disk.Ghosts D} where
  -- the status with which an order over a folder ended
  abbrev pub end_status : FolderCallEnd F D f d → ℕ
  end_status (end.Open ended) = ended.status
  end_status (end.ReadOnly ended) = ended.status

  -- the volume as it was handed back then
  abbrev pub end_volume : FolderCallEnd F D f d → FileVolume F f
  end_volume (end.Open ended) = ended.volume
  end_volume (end.ReadOnly ended) = ended.volume

  -- once an order has ended, its files are open by their paths
  abbrev pub AreOpen : (IsOpen IsDatabaseOpen : List ℕ → Type 0) → (volume database : Text) → FolderCallEnd F D f d → Type 0
  AreOpen IsOpen IsDatabaseOpen volume database (end.Open ended) = IsOpen volume × IsDatabaseOpen database
  AreOpen IsOpen IsDatabaseOpen volume database (end.ReadOnly ended) = IsOpen volume

  -- until then a database that was only copied is as it was
  abbrev pub IsCopySpared : (held later : List ℕ → Option (List ℕ)) → (database : Text) → FolderCallEnd F D f d → Type 0
  IsCopySpared held later database (end.Open ended) = Unit {0}
  IsCopySpared held later database (end.ReadOnly ended) = IsCopiedAlone held later database

  -- once they are closed, both files hold what the order left
  abbrev pub IsFolderLeft : (g : volume.Ghosts (FileVolume F f)) → (held later : List ℕ → Option (List ℕ)) → (volume database : Text) → FolderCallEnd F D f d → Type 0
  IsFolderLeft g held later volume database (end.Open ended) = (later volume ≡ Some (g.image ended.volume)) × IsDatabaseLeft later d database ended.db
  IsFolderLeft g held later volume database (end.ReadOnly ended) = (later volume ≡ Some (g.image ended.volume)) × IsCopiedAlone held later database

  -- What is said of a volume and a database, and of how a call over them ended, holds of the files of a folder: of those that were opened, or, for an order that only reads, of the volume that may not be written and a copy of the database.
  abbrev pub IsOverFolder : (OpenFolder F D f d → Type 0) → (ReadOnlyFolder F f → Type 0) → ((S : Type 0) → Ghosts S → FileVolume F f → Held S → ℕ → Bool → FileVolume F f → Held S → Type 0) → Order → FolderCallEnd F D f d → Type 0
  IsOverFolder IsOpen IsRead P order (end.Open ended) = (files : OpenFolder F D f d) × IsOpen files × P _ over_files files.volume files.db ended.status ended.has_vault ended.volume ended.db
  IsOverFolder IsOpen IsRead P order (end.ReadOnly ended) = (only_reads order.deed ≡ true) × ((files : ReadOnlyFolder F f) × IsRead files × P _ over_files files.volume files.db ended.status ended.has_vault ended.volume ended.db)

-- Over a host: whether it reveals its files, what it holds, and the moment that its clock shows.
module _ {F : Type 0} {f : block_file.Ghosts F} (g : volume.Ghosts (FileVolume F f)) (reveals : Type 0) (held : List ℕ → Option (List ℕ)) where
  -- the files that were opened only to be read are those of the folder
  abbrev pub IsReadOf : Order → ReadOnlyFolder F f → Type 0
  IsReadOf order files = reveals → IsFolderRead held g order.folder.now files.volume files.db

module _ {F D : Type 0} {f : block_file.Ghosts F} (g : volume.Ghosts (FileVolume F f)) (d : disk.Ghosts D) (reveals : Type 0) (held : List ℕ → Option (List ℕ)) where
  -- those that were opened are those of the folder
  abbrev pub IsHeldOf : Order → OpenFolder F D f d → Type 0
  IsHeldOf order files = reveals → IsFolderHeld held g d order.folder.now files.volume files.db

  -- an `init` may have made them
  abbrev pub IsMadeOf : Order → (blocks : ℕ) → OpenFolder F D f d → Type 0
  IsMadeOf order blocks files = reveals → IsFolderMade held g d order.folder.now blocks files.volume files.db

  abbrev pub IsOpenOf : Order → OpenFolder F D f d → Type 0
  IsOpenOf order files = by order.deed
    where
      by : Deed → Type 0
      by (deed.Init blocks number) = IsMadeOf order blocks files
      by other = IsHeldOf order files

module _ {F D : Type 0} {f : block_file.Ghosts F} (g : volume.Ghosts (FileVolume F f)) (d : disk.Ghosts D) (reveals : Type 0) (held : List ℕ → Option (List ℕ)) (shown : Option ℕ) (output errors : Writer) where
  -- an order that acts was done over a folder
  abbrev pub HasActed : Order → List ℕ → FolderCallEnd F D f d → Type 0
  HasActed order bytes = IsOverFolder (IsHeldOf g d reveals held order) (IsReadOf g reveals held order)
      (λ S database volume db status has_vault later then. ActsInFolder g database volume db status has_vault later then output errors shown order bytes) order

  -- an agent was begun over a folder
  abbrev pub HasBegunInFolder : Order → (blocks number : ℕ) → FolderCallEnd F D f d → Type 0
  HasBegunInFolder order blocks number = IsOverFolder (IsMadeOf g d reveals held order blocks) (IsReadOf g reveals held order)
      (λ S database volume db status has_vault later then. InitsFolder g database volume db status has_vault later then output errors blocks number) order

  -- the orders of lines were done over a folder
  abbrev pub HasBatchedInFolder : Order → (lines : Option (List ℕ)) → FolderCallEnd F D f d → Type 0
  HasBatchedInFolder order lines = IsOverFolder (IsHeldOf g d reveals held order) (IsReadOf g reveals held order)
      (λ S database volume db status has_vault later then. BatchesFolder g database volume db status has_vault later then output errors reveals held shown order.folder.now lines) order

  -- connections were answered over a folder
  abbrev pub HasServedInFolder : Order → (port requests : ℕ) → (until_closed : Bool) → FolderCallEnd F D f d → Type 0
  HasServedInFolder order port requests until_closed = IsOverFolder (IsHeldOf g d reveals held order) (IsReadOf g reveals held order)
      (λ S database volume db status has_vault later then. ServesFolder g database volume db status has_vault later then output errors port requests until_closed order.now) order

  -- an order was done over a folder
  abbrev pub HasEnded : (lines : Option (List ℕ)) → Order → FolderCallEnd F D f d → Type 0
  HasEnded lines order = IsOverFolder (IsOpenOf g d reveals held order) (IsReadOf g reveals held order)
      (λ S database volume db status has_vault later then. IsOrderDone g database volume db status has_vault later then output errors reveals held shown lines order) order

-- an order that was not done leaves all other files as they are, and the volume too, unless it was to make that
pub record IsSpared (held later : List ℕ → Option (List ℕ)) (order : Order) : Type 0 where
  pub others : AreSameOutside held later order.folder.now
  pub volume_is : ((blocks number : ℕ) → order.deed ≢ deed.Init blocks number) → later (volume_path order.folder.now) ≡ held (volume_path order.folder.now)
