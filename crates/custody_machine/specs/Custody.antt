-- What holds of an open custody, and what its calls do. The volume's and the database's words come as sets: the blocks that are free, and the images and rows that a stop may leave.
use Rattle.std.specs.Prelude.{◌≡◌, ◌≢◌, ◌⊎◌, ℕ, ◌-◌, ◌<◌, ◌≤◌, ◌^◌, List, length, Bool, true, false}
use Rattle.sha2.specs.Sha256.{sha256}
use Rattle.vault_volume.specs.Image.{DiffersOnlyIn}
use Rattle.vault_volume.specs.Extents.{AreChosen, HasAtLeast, Takes, block_count, part_bytes}
use Rattle.extent_map.specs.Staged.{StagedPart}
use Rattle.custody_records.specs.Records.{Records}
use Rattle.custody_records.specs.Rows.{Rows}
use Rattle.custody_records.specs.Form.{form_of, InForm, HasCurrentSchema}
use Rattle.custody_machine.specs.declared.damage.Damage.TheVariants.{NoRecord}
use Rattle.custody_machine.specs.State.{empty}
use Rattle.custody_machine.specs.Machine.{Command, Register, Receive, Statement, Check, Release, Hold, Lift, Purge, Answer}
use Rattle.custody_machine.specs.History.{Event, Answered, AnsweredOtherCall, ShutDown}
use Rattle.custody_machine.specs.StoredState.{IsPartBlock, AreWhole, IsVolumeOf}
use Rattle.custody_machine.specs.Damage.{IsDamaged}
use Rattle.custody_machine.specs.Moves.{Place, Serving, Shut, Left, MayLeave, MayLeaveWithin, Moves, IsBegun}

-- ---- free blocks

-- a block that may be placed, as the records have it: one that no part names, but block 0
abbrev pub IsPlaceable : Records → ℕ → Type 0
IsPlaceable records b = (1 ≤ b) × (b < records.blocks) × (¬ IsPartBlock records b)

-- so many bytes can be placed: as many blocks may be as they take
abbrev pub HasRoomForBytes : Records → ℕ → Type 0
HasRoomForBytes records len = HasAtLeast (IsPlaceable records) records.blocks (block_count len)

-- a command's part can be placed
abbrev pub HasRoomForCommand : Records → Command → Type 0
HasRoomForCommand records (Register tld first_day) = Unit {0}
HasRoomForCommand records (Receive name bytes) = HasRoomForBytes records (length bytes)
HasRoomForCommand records (Statement stated) = Unit {0}
HasRoomForCommand records (Check tld day) = Unit {0}
HasRoomForCommand records (Release reference tld reason) = Unit {0}
HasRoomForCommand records (Hold reference tld day) = Unit {0}
HasRoomForCommand records (Lift reference) = Unit {0}
HasRoomForCommand records Purge = Unit {0}

-- ---- an open custody

-- In memory, whatever volume and database are: the records are whole, of a volume of this size, and the free blocks are those that they leave. The volume can count one more failure.
pub record IsInOrder (records : Records) (size failures : ℕ) (free : ℕ → Type 0) : Type 0 where
  pub whole : AreWhole records
  pub blocks : size ≡ records.blocks
  pub placeable : (b : ℕ) → (free b → IsPlaceable records b) × (IsPlaceable records b → free b)
  pub count : failures < 2 ^ 64 - 1

-- Where the volume tells its images: it is that of the records, and a stop leaves all but the free blocks as they are read.
pub record IsOnVolume (records : Records) (image : List ℕ) (free : ℕ → Type 0) (left : List ℕ → Type 0) : Type 0 where
  pub volume : IsVolumeOf records image
  pub elsewhere : (c : List ℕ) → left c → DiffersOnlyIn free image c

-- Where the database is honest: it stands ready, its rows are the records, in the schema that has holds, and a stop leaves these rows.
pub record IsInStore (records : Records) (rows : Rows) (is_ready : Type 0) (left : Rows → Type 0) : Type 0 where
  pub ready : is_ready
  pub in_form : form_of rows ≡ InForm records
  pub current : HasCurrentSchema rows
  pub settled : (r : Rows) → left r → r ≡ rows

-- ---- what the calls of volume and database give

-- what a stop at some moment from the old volume on may leave of the new one
abbrev pub LeftSince : {V : Type 0} → (V → ℕ) → (V → ℕ → List ℕ → Type 0) → V → V → List ℕ → Type 0
LeftSince moment left_at old new image = (t : ℕ) × (moment old ≤ t) × (t ≤ moment new) × left_at new t image

-- Blocks that were free are taken for bytes.
pub record IsPlaced (size : ℕ) (was_free is_free : ℕ → Type 0) (bytes : List ℕ) (staged : StagedPart) : Type 0 where
  pub len : staged.len ≡ length bytes
  pub digest : staged.digest ≡ sha256 bytes
  pub chosen : AreChosen was_free size (block_count (length bytes)) staged.extents
  pub taken : Takes was_free staged.extents is_free

-- They hold the bytes, and a stop leaves this image.
pub record IsDurable (old new : List ℕ) (was_free : ℕ → Type 0) (left : List ℕ → Type 0) (bytes : List ℕ) (staged : StagedPart) : Type 0 where
  pub holds : part_bytes new staged.extents staged.len ≡ bytes
  pub elsewhere : DiffersOnlyIn was_free old new
  pub settled : (c : List ℕ) → left c → c ≡ new

-- ---- how bytes compare

-- how the bytes of a part compare with others
pub data Comparison : Type 0 where
  Same : Comparison
  -- others, and the part has its digest
  Other : Comparison
  -- others, and the part has not its digest
  Broken : Comparison

abbrev pub Compares : Comparison → (stored bytes digest : List ℕ) → Type 0
Compares Same stored bytes digest = stored ≡ bytes
Compares Other stored bytes digest = (stored ≢ bytes) × (sha256 stored ≡ digest)
Compares Broken stored bytes digest = (stored ≢ bytes) × (sha256 stored ≢ digest)

-- ---- what a call did

-- What a custody has: its records, and the image that a read of its volume gives.
pub record RecordsAndImage : Type 0 where
  pub records : Records
  pub image : List ℕ

-- What a stop may leave of a call.
pub record LeftByCall : Type 1 where
  -- within it, the rows from before with an image of any moment of it
  pub rows_before : Rows → Type 0
  pub images_since : List ℕ → Type 0
  -- and after it
  pub rows_then : Rows → Type 0
  pub images_then : List ℕ → Type 0

-- This is left within it, and that after it.
pub record Leaves (left : LeftByCall) (Within Then : Rows → List ℕ → Type 0) : Type 0 where
  pub within : (rows : Rows) (image : List ℕ) → left.rows_before rows → left.images_since image → Within rows image
  pub at_exit : (rows : Rows) (image : List ℕ) → left.rows_then rows → left.images_then image → Then rows image

-- a custody with these records and this image is at a place, if it is open; and if not, at that of a closed one
abbrev pub IsAtPlace : Bool → Records → List ℕ → Place → Type 0
IsAtPlace true records image (Serving there left) = (there ≡ records) × (left ≡ image)
IsAtPlace true records image (Shut there left doubt) = ⊥
IsAtPlace true records image (Left rows left) = ⊥
IsAtPlace false records image (Serving there left) = ⊥
IsAtPlace false records image (Shut there left doubt) = Unit {0}
IsAtPlace false records image (Left rows left) = ⊥

-- A command in an open custody: it moves by the answer, and leaves at each moment what its place may.
pub record AnswersCommand (old : RecordsAndImage) (command : Command) (now : ℕ) (answer : Answer) (is_open : Bool) (new : RecordsAndImage) (left : LeftByCall) : Type 0 where
  pub next : Place
  pub moves : Moves (Serving old.records old.image) (Answered command now answer) next
  pub is_at : IsAtPlace is_open new.records new.image next
  pub leaves : Leaves left (MayLeaveWithin (Serving old.records old.image) command now) (MayLeave next)

-- a call that is no command, by whether the custody is open after it
abbrev pub other_call_event : Bool → Event
other_call_event true = AnsweredOtherCall
other_call_event false = ShutDown

-- A call that is no command, in an open custody: it stays as it was or is closed, and leaves at each moment what its place may.
pub record AnswersOtherCall (old : RecordsAndImage) (is_open : Bool) (new : RecordsAndImage) (left : LeftByCall) : Type 0 where
  pub next : Place
  pub moves : Moves (Serving old.records old.image) (other_call_event is_open) next
  pub is_at : IsAtPlace is_open new.records new.image next
  pub leaves : Leaves left (MayLeave (Serving old.records old.image)) (MayLeave next)

-- what an initialisation over no record may leave: no record still, or what stands for the empty state
abbrev pub MayInitialise : Rows → List ℕ → Type 0
MayInitialise rows image = IsDamaged NoRecord rows image ⊎ IsBegun empty (Left rows image)
