-- What a beginning and an opening give, at `Ok` and at an error.
use Rattle.std.specs.Prelude.{◌≡◌, ◌≢◌, ◌⊎◌, ℕ, ◌≤◌, List, codes, pos, true, false}
use Rattle.vault_volume.specs.declared.volume.Volume as volume
use Rattle.vault_volume.specs.Disk.{LeavesOneImage}
use Rattle.sqlite.specs.Store.{Ghosts}
use Rattle.sqlite.specs.Held.{Held}
use Rattle.custody_records.specs.Records.{new_records}
use Rattle.custody_records.specs.Rows.{Rows, initial_rows}
use Rattle.custody_records.specs.Form.{form_of, InForm}
use Rattle.custody_records.specs.RowsOfRecords.{digits_of}
use Rattle.custody_store.specs.StoreState.{store_state, has_any_table, has_all_tables, HasMetaOrNone}
use Rattle.custody_machine.specs.declared.answers.Failure.{Failure}
use Rattle.custody_machine.specs.declared.answers.Failure.TheVariants as failure
use Rattle.custody_machine.specs.declared.damage.Damage.{Damage}
use Rattle.custody_machine.specs.declared.damage.Damage.TheVariants.{NoRecord, Digest}
use Rattle.custody_machine.specs.State.{empty}
use Rattle.custody_machine.specs.Damage.{damage_number}
use Rattle.custody_machine.specs.StoredState.{AreWholeOnVolume}
use Rattle.custody_machine.specs.Moves.{Serving, Left, IsBegun}
use Rattle.custody_machine.specs.Custody.{MayInitialise}
use Rattle.custody.specs.declared.answers.InitError.{InitError}
use Rattle.custody.specs.declared.answers.InitError.TheVariants as init_error
use Rattle.custody.specs.declared.custody.Custody.{Custody}
use Rattle.custody.specs.OpenCustody.{current_records, store_state_of, image_of, failures_of, MayLeaveImage, KeepsImage, KeepsRows}
use Rattle.custody.specs.Custody.{open_custody_of, is_open}
use Rattle.custody.specs.Opening.{HasAllTables, HasAllTablesOrNone, HasNoRecord, WritesNothing, IsVolumeSize, CountsToldFailure}

module _ {V S : Type 0} (g : volume.Ghosts V) (database : Ghosts S) (volume : V) (db : Held S) where
  -- ---- a beginning

  -- A custody that was begun, whatever volume and database are.
  pub record HasBegun (number : ℕ) (custody : Custody V S g database) : Type 0 where
    -- it is open
    pub opened : is_open custody ≡ true
    -- it has no records but the number and the size of the volume
    pub records : current_records (open_custody_of custody) ≡ new_records number (g.size volume)
    -- it serves the empty state
    pub begun : IsBegun empty (Serving (current_records (open_custody_of custody)) (image_of (open_custody_of custody)))
    -- the size of the volume is in range
    pub size : IsVolumeSize (g.size volume)
    -- no call of the volume failed
    pub failures : failures_of (open_custody_of custody) ≡ g.failures volume
    -- none of the six tables was there
    pub tables : has_any_table (store_state database db) ≡ false
    -- so it was no database with those of a schema
    pub not_all : ¬ HasAllTables (store_state database db)
    -- no transaction is open where none was
    pub mode : (store_state database db).in_transaction ≡ false → (store_state_of database (open_custody_of custody)).in_transaction ≡ false
    -- a database that is honest was so before
    pub trust : (store_state_of database (open_custody_of custody)).IsHonest → (store_state database db).IsHonest

  -- What volume and database hold of it, each where it tells.
  pub record IsBegunDurably (custody : Custody V S g database) : Type 0 where
    -- the volume is as a command needs it
    pub image : g.tells → KeepsImage (open_custody_of custody)
    -- the database is, too
    pub rows : HasAllTablesOrNone (store_state database db) → (store_state_of database (open_custody_of custody)).IsHonest → KeepsRows database (open_custody_of custody)
    -- there was no record
    pub not_taken : HasAllTablesOrNone (store_state database db) → (store_state_of database (open_custody_of custody)).IsHonest → HasNoRecord (store_state database db).rows
    -- a stop leaves what stands for an empty custody
    pub begins : g.tells → HasAllTablesOrNone (store_state database db) → (store_state_of database (open_custody_of custody)).IsHonest
        → (rows : Rows) (image : List ℕ) → (store_state_of database (open_custody_of custody)).may_leave rows → MayLeaveImage (open_custody_of custody) image → IsBegun empty (Left rows image)

  -- Why none was begun, whatever volume and database are.
  pub record IsNotBegun (error : InitError) (later : V) (then : Held S) : Type 0 where
    -- a size out of range is refused, and no other
    pub size : error ≡ init_error.Size → ¬ IsVolumeSize (g.size volume)
    -- the volume counted a failure exactly where that is told
    pub failures : CountsToldFailure (error ≡ init_error.Failure failure.VolumeFailed) (g.failures volume) (g.failures later)
    -- what else is no refusal is want of memory, or a failed volume or database
    pub kind : (why : Failure) → error ≡ init_error.Failure why → (why ≡ failure.NoMemory) ⊎ ((why ≡ failure.VolumeFailed) ⊎ (why ≡ failure.StoreFailed))
    -- the volume is as it was after a refusal and a want of memory
    pub unwritten : WritesNothing error → later ≡ volume
    -- and where one of the six tables is there
    pub tables : has_any_table (store_state database db) ≡ true → later ≡ volume
    -- and where those of a schema are
    pub all : HasAllTables (store_state database db) → later ≡ volume
    -- it has its size in any case
    pub same_size : g.size later ≡ g.size volume
    -- where tables are there, and not `meta`: the size is refused, or the database said to have failed, and it was not called
    pub missing : has_any_table (store_state database db) ≡ true → (store_state database db).has_table (codes "meta") ≡ false
        → ((error ≡ init_error.Size) ⊎ (error ≡ init_error.Failure failure.StoreFailed)) × (then ≡ db)
    -- no transaction is open where none was
    pub mode : (store_state database db).in_transaction ≡ false → (store_state database then).in_transaction ≡ false
    -- a database that is honest was so before
    pub trust : (store_state database then).IsHonest → (store_state database db).IsHonest

  -- What is left where none was begun, of a database that is honest.
  pub record LeavesNone (number : ℕ) (error : InitError) (later : V) (then : Held S) : Type 0 where
    -- a database is refused as begun already where it has a record
    pub taken : HasMetaOrNone (store_state database db) → error ≡ init_error.AlreadyInitialised → ¬ HasNoRecord (store_state database db).rows
    -- and a size only where it has none
    pub not_taken : HasMetaOrNone (store_state database db) → error ≡ init_error.Size → HasNoRecord (store_state database db).rows
    -- no row changes where one of the six tables is there, whatever tables there are
    pub untouched : has_any_table (store_state database db) ≡ true → (rows : Rows) → (store_state database then).may_leave rows → (store_state database db).may_leave rows
    -- and after a refusal and a want of memory
    pub unwritten : WritesNothing error → (rows : Rows) → (store_state database then).may_leave rows → (store_state database db).may_leave rows
    -- where there was no record, a stop leaves none, or the rows of a new custody, whatever the volume is
    pub rows : HasAllTablesOrNone (store_state database db) → HasNoRecord (store_state database db).rows
        → (rows : Rows) → (store_state database then).may_leave rows → HasNoRecord rows ⊎ (rows ≡ initial_rows (digits_of number) (pos (g.size volume)))
    -- and these with an image that stands for an empty custody
    pub fails : g.tells → HasAllTablesOrNone (store_state database db) → HasNoRecord (store_state database db).rows
        → (rows : Rows) (image : List ℕ) → (store_state database then).may_leave rows → g.left_at later (g.moment later) image → MayInitialise rows image

  -- ---- an opening

  -- A custody that was opened, whatever volume and database are.
  pub record IsOpened (custody : Custody V S g database) : Type 0 where
    -- it is open
    pub opened : is_open custody ≡ true
    -- all five tables are there that both schemas have
    pub tables : has_all_tables (store_state database db) ≡ true
    -- no call of the volume failed
    pub failures : failures_of (open_custody_of custody) ≡ g.failures volume

  -- What it has of volume and database, each where it tells.
  pub record IsLoaded (custody : Custody V S g database) : Type 0 where
    -- the records for which the rows stood, whatever tables there are behind those of the schema
    pub in_form : (store_state database db).HasSchemaTablesFirst → (store_state_of database (open_custody_of custody)).IsHonest → form_of (store_state database db).rows ≡ InForm (current_records (open_custody_of custody))
    -- they are good with the image
    pub good : g.tells → AreWholeOnVolume (current_records (open_custody_of custody)) (g.image volume)
    -- which is as it was
    pub same_image : g.tells → image_of (open_custody_of custody) ≡ g.image volume
    -- the volume is as a command needs it, where a stop left what a read gives
    pub image : g.tells → LeavesOneImage (g.image volume) (g.left_at volume (g.moment volume)) → KeepsImage (open_custody_of custody)
    -- the database is, too, with a table of holds
    pub rows : HasAllTables (store_state database db) → (store_state_of database (open_custody_of custody)).IsHonest → KeepsRows database (open_custody_of custody)

  -- Why none was opened, whatever volume and database are.
  pub record IsNotOpenedFor (why : Failure) (later : V) (then : Held S) : Type 0 where
    -- the volume counted a failure exactly where that is told
    pub failures : CountsToldFailure (why ≡ failure.VolumeFailed) (g.failures volume) (g.failures later)
    -- nothing was closed
    pub not_closed : why ≢ failure.Closed
    -- no part is read
    pub no_digest : why ≢ failure.Damaged Digest
    -- where a table is missing, damage that is told is one of H0 to H4
    pub tables : has_all_tables (store_state database db) ≡ false → (found : Damage) → why ≡ failure.Damaged found → damage_number found ≤ 4
    -- where that is `meta`, H0 is told, and neither volume nor database was called
    pub missing : (store_state database db).has_table (codes "meta") ≡ false → (why ≡ failure.Damaged NoRecord) × (later ≡ volume) × (then ≡ db)
