-- What database and volume hold, and the state that they stand for.
use Rattle.std.specs.Prelude.{◌≡◌, ◌⊎◌, ℕ, suc, ◌-◌, ◌*◌, ◌<◌, All, List, length, Option, Some, None, is_some, Bool, true, false, ◌&&◌, Result, Ok, Err, bytes_eq}
use Rattle.std.specs.List.{list_all}
use Rattle.std.specs.FinMap.{get}
use Rattle.desk.specs.Standing.{is_receipt}
use Rattle.sha2.specs.Sha256.{sha256}
use Rattle.deposit_name.specs.declared.kinds.Kind.{Kind}
use Rattle.deposit_name.specs.declared.errors.NameError.{NameError}
use Rattle.deposit_name.specs.Name.{Name, is_same_kind}
use Rattle.desk.specs.declared.notices.NoticeKind.{NoticeKind}
use Rattle.desk.specs.declared.notices.NoticeKind.TheVariants.{Receipt, Failure, Absence}
use Rattle.extent_map.specs.declared.extent.Extent.{Extent}
use Rattle.vault_volume.specs.Image.{bytes_at}
use Rattle.vault_volume.specs.Extents.{IsExtentOf, AreApart, IsInAny, block_count, blocks_of, part_bytes}
use Rattle.vault_volume.specs.Head.{head_of}
use Rattle.custody_records.specs.Keys.{PartKey, NoticeKey}
use Rattle.custody_records.specs.Records.{PartRecord, Notice, Release, Hold, Records, key_of}
use Rattle.custody_records.specs.Rows.{Rows}
use Rattle.custody_records.specs.Form.{form_of, InForm}
use Rattle.custody_machine.specs.NameReading.{read_name}
use Rattle.custody_machine.specs.State.{State, Part, Content, Held, Dropped, key_with_part, has_notice}
use Rattle.custody_machine.specs.Machine.{is_absence, is_failure_of}
use Rattle.custody_machine.specs.MapValues.{map_values}

-- ---- the blocks of parts

-- a fact of extents, where the bytes are held
abbrev pub ForExtents : Option (List Extent) → (List Extent → Type 0) → Type 0
ForExtents None P = Unit {0}
ForExtents (Some extents) P = P extents

-- a block is one of these extents
abbrev pub HaveBlock : Option (List Extent) → ℕ → Type 0
HaveBlock None b = ⊥
HaveBlock (Some extents) b = IsInAny extents b

-- a part of the records names a block
abbrev pub IsPartBlock : Records → ℕ → Type 0
IsPartBlock records b = (key : PartKey) × (part : PartRecord) × (get records.parts key ≡ Some part) × HaveBlock part.extents b

-- ---- whole records: the rules among them

-- extents that may hold so many bytes of a volume of so many blocks: each lies in it, has blocks and not block 0, and their counts add up
pub record AreExtents (blocks len : ℕ) (extents : List Extent) : Type 0 where
  pub each : All (IsExtentOf blocks) extents
  pub counts : blocks_of extents ≡ block_count len

abbrev pub HaveExtentsInRange : Records → Type 0
HaveExtentsInRange records = (key : PartKey) (part : PartRecord) → get records.parts key ≡ Some part → ForExtents part.extents (AreExtents records.blocks part.len)

-- no block is named twice
pub record HaveBlocksOnce (records : Records) : Type 0 where
  pub within : (key : PartKey) (part : PartRecord) → get records.parts key ≡ Some part → ForExtents part.extents AreApart
  pub between : (j k : PartKey) (p q : PartRecord) (b : ℕ) → get records.parts j ≡ Some p → get records.parts k ≡ Some q → HaveBlock p.extents b → HaveBlock q.extents b → j ≡ k

-- a part is there, of this kind
abbrev pub is_part_of : Kind → Option PartRecord → Bool
is_part_of kind None = false
is_part_of kind (Some part) = is_same_kind part.kind kind

-- the name of a part of a registry that is recorded
abbrev pub is_name_of_part : Records → List ℕ → Result Name NameError → Bool
is_name_of_part records tld (Err fault) = false
is_name_of_part records tld (Ok name) = bytes_eq name.tld tld && is_part_of name.kind (get records.parts (key_of name))

-- the revision of a verdict
abbrev pub revision_of : NoticeKind → Option ℕ
revision_of (Receipt rev _) = Some rev
revision_of (Failure rev _ _) = Some rev
revision_of Absence = None

-- two notices are of one registry and day
abbrev pub AreOfOneDay : NoticeKey → Notice → NoticeKey → Notice → Type 0
AreOfOneDay j m k n = (j.tld ≡ k.tld) × (m.day ≡ n.day)

-- the records belong together
pub record AreLinked (records : Records) : Type 0 where
  -- each record is of a registry that is known
  pub part_registry : (key : PartKey) (part : PartRecord) → get records.parts key ≡ Some part → is_some (get records.registries key.tld) ≡ true
  pub notice_registry : (key : NoticeKey) (notice : Notice) → get records.notices key ≡ Some notice → is_some (get records.registries key.tld) ≡ true
  pub release_registry : (reference : List ℕ) (release : Release) → get records.releases reference ≡ Some release → is_some (get records.registries release.tld) ≡ true
  pub hold_registry : (reference : List ℕ) (hold : Hold) → get records.holds reference ≡ Some hold → is_some (get records.registries hold.tld) ≡ true
  -- each name of a release is that of a recorded part of its registry
  pub released : (reference : List ℕ) (release : Release) → get records.releases reference ≡ Some release → list_all (λ text. is_name_of_part records release.tld (read_name text)) release.names ≡ true
  -- the parts of a revision are 1 to k, of one kind: before each other than the first stands one of its kind
  pub series : (key : PartKey) (part : PartRecord) → get records.parts key ≡ Some part → (n : ℕ) → key.part ≡ suc (suc n) → is_part_of part.kind (get records.parts (key_with_part key (suc n))) ≡ true
  -- the notices of a registry are numbered 1 to n
  pub numbers : (key : NoticeKey) (notice : Notice) → get records.notices key ≡ Some notice → (n : ℕ) → key.number ≡ suc (suc n) → is_some (get records.notices (record { tld = key.tld; number = suc n })) ≡ true
  -- a verdict is of a revision with parts, and its only one
  pub verdict_parts : (key : NoticeKey) (notice : Notice) (rev : ℕ) → get records.notices key ≡ Some notice → revision_of notice.kind ≡ Some rev → is_some (get records.parts (record { tld = key.tld; day = notice.day; rev = rev; part = 1 })) ≡ true
  pub one_verdict : (j k : NoticeKey) (m n : Notice) (rev : ℕ) → get records.notices j ≡ Some m → get records.notices k ≡ Some n → AreOfOneDay j m k n → revision_of m.kind ≡ Some rev → revision_of n.kind ≡ Some rev → j ≡ k
  -- a revision above 0 follows a failure of the one before
  pub due : (key : PartKey) (part : PartRecord) → get records.parts key ≡ Some part → 0 < key.rev → has_notice records.notices key.tld key.day (is_failure_of (key.rev - 1)) ≡ true
  -- a day has one receipt at most, and one absence
  pub one_receipt : (j k : NoticeKey) (m n : Notice) → get records.notices j ≡ Some m → get records.notices k ≡ Some n → AreOfOneDay j m k n → is_receipt m.kind ≡ true → is_receipt n.kind ≡ true → j ≡ k
  pub one_absence : (j k : NoticeKey) (m n : Notice) → get records.notices j ≡ Some m → get records.notices k ≡ Some n → AreOfOneDay j m k n → is_absence m.kind ≡ true → is_absence n.kind ≡ true → j ≡ k

pub record AreWhole (records : Records) : Type 0 where
  pub extents : HaveExtentsInRange records
  pub once : HaveBlocksOnce records
  pub linked : AreLinked records

-- the volume is that of the records
pub record IsVolumeOf (records : Records) (image : List ℕ) : Type 0 where
  pub head : bytes_at image 0 4096 ≡ head_of records.number
  pub size : length image ≡ 4096 * records.blocks

-- whole records and their volume. No part was read, so a part's bytes may be damaged
pub record AreWholeOnVolume (records : Records) (image : List ℕ) : Type 0 where
  pub whole : AreWhole records
  pub volume : IsVolumeOf records image

-- ---- the state

abbrev pub content_of : List ℕ → ℕ → Option (List Extent) → Content
content_of image len None = Dropped len
content_of image len (Some extents) = Held (part_bytes image extents len)

abbrev pub part_of : List ℕ → PartRecord → Part
part_of image part = record { kind = part.kind; received = part.received; content = content_of image part.len part.extents }

-- the state of records, with the bytes of an image
abbrev pub state_in : Records → List ℕ → State
state_in records image = record { registries = records.registries; parts = map_values (part_of image) records.parts; notices = records.notices; releases = records.releases; holds = records.holds }

-- Rows and image stand for a state: the rows are in form, nothing is damaged, and the bytes of each held part are those of the image at its extents.
pub record StandsFor (rows : Rows) (image : List ℕ) (state : State) : Type 0 where
  pub records : Records
  pub in_form : form_of rows ≡ InForm records
  pub good : AreWholeOnVolume records image
  pub meaning : state ≡ state_in records image

-- the part with this key, where one is held, has its recorded digest
abbrev pub HasDigestAt : List ℕ → Records → PartKey → Type 0
HasDigestAt image records key = (part : PartRecord) (extents : List Extent) → get records.parts key ≡ Some part → part.extents ≡ Some extents → sha256 (part_bytes image extents part.len) ≡ part.digest

-- each held part has
abbrev pub HasDigests : List ℕ → Records → Type 0
HasDigests image records = (key : PartKey) → HasDigestAt image records key

abbrev pub IsSound : Rows → List ℕ → Type 0
IsSound rows image = (records : Records) → form_of rows ≡ InForm records → HasDigests image records

-- ---- from records and an image to others

-- the record of a part stays as it was, or its bytes are dropped
abbrev pub SameOrDropped : PartRecord → PartRecord → Type 0
SameOrDropped old new = (new ≡ old) ⊎ (new ≡ record old { extents = None })

-- No part's record is lost or changed, and each part that had its digest, or is new, has it.
pub record KeepsParts (old : Records) (image : List ℕ) (new : Records) (later : List ℕ) : Type 0 where
  pub kept : (key : PartKey) (part : PartRecord) → get old.parts key ≡ Some part → (still : PartRecord) × (get new.parts key ≡ Some still) × SameOrDropped part still
  pub digests : (key : PartKey) → HasDigestAt image old key → HasDigestAt later new key

-- Rows and image open as a state of which P holds, and keep the parts of the records and the image from before.
pub record OpensFrom (old : Records) (image : List ℕ) (P : State → Type 0) (rows : Rows) (left : List ℕ) : Type 0 where
  pub records : Records
  pub in_form : form_of rows ≡ InForm records
  pub good : AreWholeOnVolume records left
  pub keeps : KeepsParts old image records left
  pub state : P (state_in records left)
