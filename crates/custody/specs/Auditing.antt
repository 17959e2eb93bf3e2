-- What an audit tells: the parts whose bytes are held, and have not the digest that was recorded as they came.
use Rattle.std.specs.Prelude.{◌≡◌, ◌⊎◌, ◌↔◌, ℕ, List, Contains, Vec, Option, Some, None, Bool, true, false, Result, Ok, Err, IfOk, IfErr}
use Rattle.std.specs.declared.alloc.Global.{Global}
use Rattle.std.specs.FinMap.{get}
use Rattle.std.specs.Str.{bytes_eq}
use Rattle.sha2.specs.Sha256.{sha256}
use Rattle.deposit_name.specs.Name.{Name}
use Rattle.extent_map.specs.declared.extent.Extent.{Extent}
use Rattle.vault_volume.specs.Extents.{part_bytes}
use Rattle.vault_volume.specs.declared.volume.Volume as volume
use Rattle.sqlite.specs.Store.{Ghosts}
use Rattle.custody_records.specs.Keys.{part_cmp}
use Rattle.custody_records.specs.Records.{PartRecord, Records, key_of}
use Rattle.custody_records.specs.Tables.{is_rising}
use Rattle.custody_records.specs.TypedRecords.{part_value}
use Rattle.custody_records.specs.declared.parts.Part.{Part}
use Rattle.custody_machine.specs.declared.answers.Failure.{Failure}
use Rattle.custody_machine.specs.declared.answers.Failure.TheVariants.{NoMemory, VolumeFailed, Closed}
use Rattle.custody_machine.specs.StoredState.{HasDigestAt}
use Rattle.custody.specs.declared.answers.Refused.{Refused}
use Rattle.custody.specs.declared.answers.Refused.TheVariants as refused
use Rattle.custody.specs.declared.custody.Custody.{Custody}
use Rattle.custody.specs.Answers.{closing_failure}
use Rattle.custody.specs.OpenCustody.{current_records, image_of, IsUnwritten}
use Rattle.custody.specs.OtherCalls.{RecordsNothing}
use Rattle.custody.specs.Custody.{failure_of, open_custody_of, is_open}

-- ---- damage

-- a part is recorded under the name, and its bytes are held
pub record IsHeldPartOf (records : Records) (name : Name) : Type 0 where
  pub part : PartRecord
  pub extents : List Extent
  pub recorded : get records.parts (key_of name) ≡ Some part
  pub kind : part.kind ≡ name.kind
  pub held : part.extents ≡ Some extents

-- and in the image they have not its recorded digest
abbrev pub IsDamagedUnder : Records → List ℕ → Name → Type 0
IsDamagedUnder records image name = IsHeldPartOf records name × (¬ HasDigestAt image records (key_of name))

-- names in the order of the records: by registry, day, revision and place in the series, each once
abbrev pub AreInOrder : List Name → Type 0
AreInOrder names = is_rising part_cmp key_of names ≡ true

-- Names of parts that are held.
pub record AreHeld (records : Records) (names : List Name) : Type 0 where
  pub order : AreInOrder names
  pub each : (name : Name) → Contains names name → IsHeldPartOf records name

-- The names of the parts that are damaged: of each of them, and of no other. There is one such list.
pub record AreDamaged (records : Records) (image : List ℕ) (names : List Name) : Type 0 where
  pub order : AreInOrder names
  pub exact : (name : Name) → Contains names name ↔ IsDamagedUnder records image name

-- ---- one part after the other

-- the bytes at the extents have the digest; where they are dropped there is nothing to compare
abbrev pub is_intact : List ℕ → ℕ → List ℕ → Option (List Extent) → Bool
is_intact image len digest None = true
is_intact image len digest (Some extents) = bytes_eq (sha256 (part_bytes image extents len)) digest

abbrev pub has_digest : List ℕ → Part → Bool
has_digest image part = is_intact image (part_value part).len (part_value part).digest (part_value part).extents

-- ---- the call

abbrev pub answered_names : Result (Vec Name Global) Failure → Result (List Name) Failure
answered_names (Ok names) = Ok names.items
answered_names (Err failure) = Err failure

-- an answer that is no refusal
abbrev pub as_refused : {T : Type 0} → Result T Failure → Result T Refused
as_refused (Ok found) = Ok found
as_refused (Err failure) = Err (refused.Failure failure)

module _ {V S : Type 0} {g : volume.Ghosts V} {database : Ghosts S} where
  -- What an audit does to a custody, and answers.
  pub record HasAudited (old : Custody V S g database) (answer : Result (List Name) Failure) (new : Custody V S g database) : Type 0 where
    -- a closed one says so, and is as it was
    pub closed : is_open old ≡ false → (answer ≡ Err Closed) × (new ≡ old)
    -- an open one may have no memory, or a volume that fails
    pub fails : is_open old ≡ true → IfErr answer (λ failure. (failure ≡ NoMemory) ⊎ (failure ≡ VolumeFailed))
    -- and is closed by a failure of the volume, which is answered, and by nothing else
    pub closes : is_open old ≡ true → failure_of new ≡ closing_failure (as_refused answer)
    -- names of parts that are held are answered, whatever the volume is
    pub held : is_open old ≡ true → IfOk answer (AreHeld (current_records (open_custody_of old)))
    -- and where it tells its image those of the parts that are damaged
    pub damaged : is_open old ≡ true → g.tells → IfOk answer (AreDamaged (current_records (open_custody_of old)) (image_of (open_custody_of old)))
    -- it is no command
    pub rested : is_open old ≡ true → RecordsNothing database (open_custody_of old) (is_open new) (open_custody_of new)
    -- and writes nothing
    pub unwritten : is_open old ≡ true → g.tells → IsUnwritten (open_custody_of old) (open_custody_of new)
