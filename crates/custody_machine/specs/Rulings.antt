-- What the records decide of a command, whatever the volume holds: one definition for every command.
use Rattle.std.specs.Prelude.{◌≡◌, ◌≢◌, ℕ, List, [], length, None, Some, true, false, Ok}
use Rattle.std.specs.FinMap.{get}
use Rattle.deposit_name.specs.Name.{Name}
use Rattle.desk.specs.declared.grounds.Ground.{Ground}
use Rattle.extent_map.specs.declared.extent.Extent.{Extent}
use Rattle.vault_volume.specs.Extents.{part_bytes}
use Rattle.custody_records.specs.Records as recorded_in
use Rattle.custody_records.specs.Records.{PartRecord, Records, key_of, new_hold}
use Rattle.custody_machine.specs.declared.command.Statement as statement
use Rattle.custody_machine.specs.NameReading.{read_name}
use Rattle.custody_machine.specs.State.{State}
use Rattle.custody_machine.specs.Machine.{Command, Register, Receive, Statement, Check, Release, Hold, Lift, Purge, Record, OfRegistry, OfPart, Step, Refuse, Accept, Refusal, OtherBytes, VolumeFull, step, hold_of, hold_step, lift_step, received_part, state_with_registry, state_with_part, statement_step, check_step, new_release, purge_step, release_step}
use Rattle.custody_machine.specs.StoredState.{part_of, state_in}

-- ---- what may be decided

-- the one change of the records that a command makes
pub data Change : Type 0 where
  -- a registry is taken on, with the first day of its deposits
  AddsRegistry : (tld : List ℕ) → (first_day : ℕ) → Change
  -- a part is kept under this name, with the bytes of the command
  AddsPart : Name → Change
  -- the deposit that is stated is verified, and the notice of its verdict is kept
  AddsVerdict : statement.Statement → Change
  -- the notice that a day has passed without a deposit is kept
  AddsAbsence : (tld : List ℕ) → (day : ℕ) → Change
  -- the deposits of a registry are handed over: a release of its parts that are held is kept
  AddsRelease : (reference : List ℕ) → (tld : List ℕ) → (reason : Ground) → Change
  -- a day of a registry is held under a reference
  AddsHold : (reference : List ℕ) → (tld : List ℕ) → (day : ℕ) → Change
  -- the hold of a reference is lifted
  LiftsHold : (reference : List ℕ) → Change
  -- the bytes that were kept for a year are dropped
  DropsBytes : Change

pub data Ruling : Type 0 where
  RefuseRuling : Refusal → Ruling
  -- it is a repeat: this record answers it
  KeptRuling : Record → Ruling
  -- a part is held under its name at these extents: the bytes there decide
  CompareRuling : Name → PartRecord → List Extent → Ruling
  -- it makes this change, unless there is no room
  GoRuling : Change → Ruling

-- ---- when it is decided

-- the bytes that a command brings
abbrev pub command_bytes : Command → List ℕ
command_bytes (Register tld first_day) = []
command_bytes (Receive name bytes) = bytes
command_bytes (Statement stated) = []
command_bytes (Check tld day) = []
command_bytes (Release reference tld reason) = []
command_bytes (Hold reference tld day) = []
command_bytes (Lift reference) = []
command_bytes Purge = []

-- the machine has this step for the command in the state of the records, whatever the volume holds
abbrev pub HasStep : Records → Command → ℕ → (State → Step) → Type 0
HasStep records command now outcome = (image : List ℕ) → step (state_in records image) command now ≡ outcome (state_in records image)

-- the command brings a part under this name
abbrev pub BringsPart : Command → Name → Type 0
BringsPart (Register tld first_day) name = ⊥
BringsPart (Receive text bytes) name = read_name text ≡ Ok name
BringsPart (Statement stated) name = ⊥
BringsPart (Check tld day) name = ⊥
BringsPart (Release reference tld reason) name = ⊥
BringsPart (Hold reference tld day) name = ⊥
BringsPart (Lift reference) name = ⊥
BringsPart Purge name = ⊥

-- the part of the command's name is recorded, and held at these extents
pub record IsHeldUnder (records : Records) (command : Command) (name : Name) (part : PartRecord) (extents : List Extent) : Type 0 where
  pub named : BringsPart command name
  pub recorded : get records.parts (key_of name) ≡ Some part
  pub kind : part.kind ≡ name.kind
  pub held : part.extents ≡ Some extents

-- the same bytes are a repeat, and any others are refused
abbrev pub AreCompared : Records → Command → ℕ → Name → PartRecord → List Extent → Type 0
AreCompared records command now name part extents = (image : List ℕ) →
    (part_bytes image extents part.len ≡ command_bytes command → step (state_in records image) command now ≡ Accept (record { entry = OfPart (key_of name) (part_of image part); is_repeat = true }) (state_in records image))
    × (part_bytes image extents part.len ≢ command_bytes command → step (state_in records image) command now ≡ Refuse OtherBytes)

-- what the command asks for is this change, and the records have it not
abbrev pub IsNew : Change → Records → Command → Type 0
IsNew (AddsRegistry tld first_day) records command = (command ≡ Register tld first_day) × (get records.registries tld ≡ None)
IsNew (AddsPart name) records command = BringsPart command name × (get records.parts (key_of name) ≡ None)
IsNew (AddsVerdict stated) records command = command ≡ Statement stated
IsNew (AddsAbsence tld day) records command = command ≡ Check tld day
IsNew (AddsRelease reference tld reason) records command = (command ≡ Release reference tld reason) × (get records.releases reference ≡ None)
IsNew (AddsHold reference tld day) records command = (command ≡ Hold reference tld day) × (get records.holds reference ≡ None)
IsNew (LiftsHold reference) records command = (command ≡ Lift reference) × (hold : recorded_in.Hold) × (get records.holds reference ≡ Some hold) × (hold.lifted ≡ None)
IsNew DropsBytes records command = command ≡ Purge

-- a change is accepted with these bytes at a moment, and made
abbrev pub change_step : Change → List ℕ → ℕ → State → Step
change_step (AddsRegistry tld first_day) bytes now state = Accept (record { entry = OfRegistry tld first_day; is_repeat = false }) (state_with_registry state tld first_day)
change_step (AddsPart name) bytes now state = Accept (record { entry = OfPart (key_of name) (received_part name bytes now); is_repeat = false }) (state_with_part state (key_of name) (received_part name bytes now))
change_step (AddsVerdict stated) bytes now state = statement_step state stated now
change_step (AddsAbsence tld day) bytes now state = check_step state tld day now
change_step (AddsRelease reference tld reason) bytes now state = release_step state reference (new_release state tld reason now)
change_step (AddsHold reference tld day) bytes now state = hold_step state reference (new_hold tld day now)
change_step (LiftsHold reference) bytes now state = lift_step state reference now (hold_of state reference)
change_step DropsBytes bytes now state = purge_step state now

-- The ruling of a command. (That the bytes differ is for the volume to say, and that there is no room for its map.)
abbrev pub Decides : Ruling → Records → Command → ℕ → Type 0
Decides (RefuseRuling refusal) records command now = (refusal ≢ OtherBytes) × (refusal ≢ VolumeFull) × HasStep records command now (λ state. Refuse refusal)
Decides (KeptRuling entry) records command now = HasStep records command now (λ state. Accept (record { entry = entry; is_repeat = true }) state)
Decides (CompareRuling name part extents) records command now = IsHeldUnder records command name part extents × AreCompared records command now name part extents
Decides (GoRuling change) records command now = IsNew change records command × HasStep records command now (change_step change (command_bytes command) now)

-- the ruling of a part by its name and length: it is that of any bytes so long
abbrev pub DecidesPart : Ruling → Records → List ℕ → ℕ → ℕ → Type 0
DecidesPart ruling records name len now = (bytes : List ℕ) → length bytes ≡ len → Decides ruling records (Receive name bytes) now
