-- What an opening and a beginning find, and what their steps give.
use Rattle.std.specs.Prelude.{◌≡◌, ◌≢◌, ◌⊎◌, ℕ, ◌-◌, ◌<◌, ◌≤◌, List, Option, Some, None, Bool, true, false, sum_by, Result, IfErr}
use Rattle.std.specs.FinMap.{entries}
use Rattle.extent_map.specs.declared.extent.Extent.{Extent}
use Rattle.vault_volume.specs.declared.volume.Volume as volume
use Rattle.vault_volume.specs.Disk.{LeavesOneImage, LeavesOnly}
use Rattle.vault_volume.specs.Extents.{block_count}
use Rattle.vault_volume.specs.Head.{head_of}
use Rattle.vault_volume.specs.Image.{bytes_at}
use Rattle.sqlite.specs.Store.{Ghosts}
use Rattle.sqlite.specs.Held.{Held}
use Rattle.custody_records.specs.Keys.{PartKey}
use Rattle.custody_records.specs.Records.{PartRecord, Records}
use Rattle.custody_records.specs.declared.damage.RowDamage.TheVariants as rows_damage
use Rattle.custody_records.specs.Form.{is_known}
use Rattle.custody_records.specs.Rows.{MetaRow, Rows, first_meta}
use Rattle.custody_store.specs.StoreState.{StoreState, store_state, ChangesNothing, Migrates}
use Rattle.custody_store.specs.declared.faults.StoreFault.{StoreFault}
use Rattle.custody_store.specs.declared.faults.StoreFault.TheVariants as store
use Rattle.custody_machine.specs.declared.answers.Failure.{Failure}
use Rattle.custody_machine.specs.declared.answers.Failure.TheVariants.{NoMemory, StoreFailed, Closed, Damaged}
use Rattle.custody_machine.specs.declared.damage.Damage as machine
use Rattle.custody_machine.specs.declared.damage.Damage.TheVariants.{NoRecord, Head, Volume, Schema, Form}
use Rattle.custody_machine.specs.Damage.{damage_number, IsDamaged, NoDamageBefore, IsFirstDamage}
use Rattle.custody_machine.specs.StoredState.{AreWhole}
use Rattle.custody_machine.specs.Moves.{Left, MayLeave}
use Rattle.custody_machine.specs.Custody.{LeftSince, LeftByCall, Leaves}
use Rattle.extent_map.specs.Limits.{fewest_blocks, most_blocks}
use Rattle.custody.specs.declared.answers.InitError.{InitError}
use Rattle.custody.specs.declared.answers.InitError.TheVariants as init_error

-- a database begins with the tables of schema 2, whatever others it has, or has those of schema 1 and no others
abbrev pub HasAllTables : StoreState → Type 0
HasAllTables s = s.IsReady ⊎ s.IsEarlier

-- or none at all
abbrev pub HasAllTablesOrNone : StoreState → Type 0
HasAllTablesOrNone s = HasAllTables s ⊎ s.IsBare

-- the database has no record of a vault
abbrev pub HasNoRecord : Rows → Type 0
HasNoRecord rows = first_meta rows ≡ None

-- why there is no custody where the records were not loaded
abbrev pub failure_of : StoreFault → Failure
failure_of store.Failed = StoreFailed
failure_of (store.Damaged rows_damage.Schema) = Damaged Schema
failure_of (store.Damaged rows_damage.Form) = Damaged Form

-- a beginning is refused, or has no memory: nothing was written
abbrev pub WritesNothing : InitError → Type 0
WritesNothing e = (e ≡ init_error.AlreadyInitialised) ⊎ ((e ≡ init_error.Size) ⊎ (e ≡ init_error.Failure NoMemory))

-- the blocks of a part: none where its bytes are dropped
abbrev pub held_block_count : ℕ → Option (List Extent) → ℕ
held_block_count len None = 0
held_block_count len (Some extents) = block_count len

-- all blocks but block 0 and those of the parts that are held
abbrev pub free_blocks : Records → ℕ
free_blocks records = records.blocks - 1 - sum_by (λ (entry : PartKey × PartRecord). held_block_count entry.1.len entry.1.extents) (entries records.parts)

-- ---- what a step does

-- how many blocks a volume may have
abbrev pub IsVolumeSize : ℕ → Type 0
IsVolumeSize blocks = (fewest_blocks ≤ blocks) × (blocks ≤ most_blocks)

-- The volume counted a failure where that is told, and none where it is not.
pub record CountsToldFailure (IsFailure : Type 0) (before after : ℕ) : Type 0 where
  pub failed : IsFailure → before < after
  pub not_failed : ¬ IsFailure → after ≡ before

-- The volume is read, and not written.
pub record ReadsVolume {V : Type 0} (device : volume.Ghosts V) (old new : V) : Type 0 where
  -- it has its size
  pub size : device.size new ≡ device.size old
  -- a read gives what it gave
  pub image : device.tells → device.image new ≡ device.image old
  -- the clock does not go back, what a stop could leave before stays, and since then it leaves what it could leave at the start
  pub any_moment : device.tells → LeavesOnly device.moment device.left_at old new (device.left_at old (device.moment old))

module _ {V S : Type 0} (device : volume.Ghosts V) (database : Ghosts S) where
  -- what a stop may leave of a call that went from volume and database to later ones
  abbrev pub left_by_reading : V → Held S → V → Held S → LeftByCall
  left_by_reading volume db later then = record {
    rows_before = (store_state database db).may_leave;
    images_since = LeftSince device.moment device.left_at volume later;
    rows_then = (store_state database then).may_leave;
    images_then = device.left_at later (device.moment later);
  }

  -- Volume and database are read, and not written.
  pub record OnlyReads {A E : Type 0} (volume : V) (db : Held S) (later : V) (then : Held S) (result : Result A E) : Type 0 where
    -- of the volume
    pub image : ReadsVolume device volume later
    -- of the database
    pub rows : ChangesNothing (store_state database db) (store_state database then) result
    -- what a stop within it or after it may leave is what the start may leave, whatever the tables are
    pub leaves : device.tells → LeavesOneImage (device.image volume) (device.left_at volume (device.moment volume)) → (store_state database db).IsAtRest → (store_state database then).IsHonest
        → let start = MayLeave (Left (store_state database db).rows (device.image volume)) in
        Leaves (left_by_reading volume db later then) start start

  -- The volume is read, and not written; and the tables of schema 1 are made those of schema 2, or the database is only read, too.
  pub record OnlyMigrates {A E : Type 0} (volume : V) (db : Held S) (later : V) (then : Held S) (result : Result A E) : Type 0 where
    -- of the volume
    pub image : ReadsVolume device volume later
    -- of the database
    pub rows : Migrates (store_state database db) (store_state database then) result
    -- what a stop within it or after it may leave is what the start may leave: the same state, in one schema or the other
    pub leaves : device.tells → LeavesOneImage (device.image volume) (device.left_at volume (device.moment volume)) → (store_state database db).IsEarlier → (store_state database then).IsHonest
        → let start = MayLeave (Left (store_state database db).rows (device.image volume)) in
        Leaves (left_by_reading volume db later then) start start

-- What an opening does to a database: tables of schema 1 are made those of schema 2, and others are only read.
pub record OpensTables {A : Type 0} (is_earlier : Bool) (old new : StoreState) (result : Result A Failure) : Type 0 where
  pub reads : is_earlier ≡ false → ChangesNothing old new result
  pub migrates : is_earlier ≡ true → Migrates old new result
  -- where it fails, they are only read, unless the database failed
  pub unchanged : IfErr result (λ failure. failure ≢ StoreFailed → ChangesNothing old new result)

-- ---- damage that is told

-- Damage that is told of rows, and of an image where the volume tells it.
pub record IsReportedDamage (tells : Type 0) (rows : Rows) (image : List ℕ) (damage : machine.Damage) : Type 0 where
  -- it is true, and none with a lower number is
  pub is_first : tells → IsFirstDamage damage rows image
  -- no record is told before anything else, whatever the volume is
  pub not_before : damage ≢ NoRecord → ¬ HasNoRecord rows
  -- what is told of the rows alone is true, whatever the volume is
  pub of_rows : damage ≢ Head → damage ≢ Volume → (any : List ℕ) → IsDamaged damage rows any

-- where a failure is damage, it is damage so told
abbrev pub ReportsDamage : Type 0 → Rows → List ℕ → Failure → Type 0
ReportsDamage tells rows image failure = (damage : machine.Damage) → failure ≡ Damaged damage → IsReportedDamage tells rows image damage

-- Why the volume of a record was not found.
pub record IsNotIdentified (failure : Failure) : Type 0 where
  -- nothing was closed
  pub not_closed : failure ≢ Closed
  -- it is one of H0 to H4
  pub told : (damage : machine.Damage) → failure ≡ Damaged damage → damage_number damage ≤ 4

-- The number and the blocks of a volume that was found.
pub record NamesVolume {V : Type 0} (device : volume.Ghosts V) (volume : V) (found : ℕ × ℕ) : Type 0 where
  -- the blocks are its size
  pub blocks : found.1 ≡ device.size volume
  -- block 0 has the number
  pub head : device.tells → bytes_at (device.image volume) 0 4096 ≡ head_of found.0

-- It is that of the record, whose schema is known.
pub record IsIdentified (tells : Type 0) (rows : Rows) (image : List ℕ) : Type 0 where
  -- there is a record
  pub row : ¬ HasNoRecord rows
  -- and none of H0 to H2 is true
  pub undamaged : tells → NoDamageBefore Schema rows image
  -- nor H3
  pub known : (meta : MetaRow) → first_meta rows ≡ Some meta → is_known meta ≡ true

-- Why a beginning over these rows is refused.
pub record IsRefusedBy (rows : Rows) (error : InitError) : Type 0 where
  -- as begun already only where they have a record
  pub taken : error ≡ init_error.AlreadyInitialised → ¬ HasNoRecord rows
  -- for its size only where they have none
  pub not_taken : error ≡ init_error.Size → HasNoRecord rows

-- Whole records, of a volume with this number and so many blocks.
pub record AreWholeOf (number blocks : ℕ) (records : Records) : Type 0 where
  -- no rule among them is broken
  pub whole : AreWhole records
  -- they are of this volume
  pub number_is : records.number ≡ number
  pub blocks_is : records.blocks ≡ blocks
  -- block 0 is there
  pub head : 1 ≤ blocks

-- Damage of rows whose volume is found and whose schema is known.
pub record IsRowDamage (rows : Rows) (damage : machine.Damage) : Type 0 where
  -- it is true with any image
  pub is_true : (image : List ℕ) → IsDamaged damage rows image
  -- and the first, where none of H0 to H2 is true
  pub first : (image : List ℕ) → NoDamageBefore Schema rows image → NoDamageBefore damage rows image
