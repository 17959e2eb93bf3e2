-- A part that is taken in as its bytes come: what is known of the open custody while it is written, compared or dropped.
use Rattle.std.specs.Prelude.{◌≡◌, ◌≢◌, ℕ, ◌+◌, ◌≤◌, List, [], ◌++◌, length, Option, Some, IfSome, is_none, false, Result, vec_len, vec_capacity}
use Rattle.sqlite.specs.Store.{Ghosts}
use Rattle.deposit_name.specs.Name.{Name}
use Rattle.vault_volume.specs.declared.vault.Vault.{Vault}
use Rattle.vault_volume.specs.declared.volume.Volume as volume
use Rattle.vault_volume.specs.Disk.{ChangedIn, LeavesOnly}
use Rattle.vault_volume.specs.Extents.{AreChosen, IsInAny, Takes, block_count, part_bytes}
use Rattle.vault_volume.specs.Image.{DiffersOnlyIn}
use Rattle.vault_volume.specs.Opened.{extents_of, len_of, HasPushed, IsOpenIn}
use Rattle.extent_map.specs.Staged.{StagedPart}
use Rattle.vault_volume.specs.Vault.{volume_of, IsFree}
use Rattle.vault_volume.specs.declared.opened.Opened.{Opened}
use Rattle.custody_records.specs.declared.parts.Part.{Part}
use Rattle.custody_records.specs.MemoryRecords.{HasPartRoom}
use Rattle.custody_records.specs.TypedRecords.{part_value}
use Rattle.custody_machine.specs.declared.answers.Failure.{Failure}
use Rattle.custody_machine.specs.declared.answers.Failure.TheVariants.{VolumeFailed}
use Rattle.custody_machine.specs.Machine.{Receive}
use Rattle.custody_machine.specs.Rulings.{AddsPart, CompareRuling, GoRuling, Decides, DecidesPart}
use Rattle.custody_machine.specs.Custody.{IsPlaced, IsDurable}
use Rattle.custody_rules.specs.Rulings.{change_of}
use Rattle.custody_rules.specs.declared.ruling.Change.{Change}
use Rattle.custody.specs.declared.answers.Reply.{Reply}
use Rattle.custody.specs.declared.answers.Refused.{Refused}
use Rattle.custody.specs.declared.upload.Comparing.{Comparing}
use Rattle.custody.specs.declared.upload.Writing.{Writing}
use Rattle.custody.specs.declared.upload.Upload as code
use Rattle.custody.specs.declared.upload.Upload.TheVariants as of
use Rattle.custody.specs.declared.open_custody.OpenCustody.{OpenCustody}
use Rattle.custody.specs.Answers.{may_change}
use Rattle.custody.specs.OpenCustody.{current_records, image_of, failures_of, MayLeaveImage, KeepsOrder, KeepsImage, HasExecuted}
use Rattle.custody.specs.Reading.{ReadsVault}
use Rattle.custody.specs.OtherCalls.{RecordsNothing}

-- the part that is compared
abbrev pub compared_part : Comparing → Part
compared_part c = record { name = c.name; received = c.received; len = c.len; digest = c.digest; extents = Some c.extents }

-- bytes of this length, which begin with those that have come
abbrev pub Continues : List ℕ → ℕ → List ℕ → Type 0
Continues sent len body = (length body ≡ len) × (rest : List ℕ) × (body ≡ sent ++ rest)

-- A part that is being written: these bytes stand in blocks that were free, and nothing else was written.
pub record IsWritten {V : Type 0} {g : volume.Ghosts V} (old new : Vault V g) (len : ℕ) (opened : Opened) (sent : List ℕ) : Type 0 where
  pub sized : len_of opened ≡ len
  pub taken : HasPushed opened sent
  pub open_in : IsOpenIn new opened
  pub chosen : AreChosen (IsFree old) (g.size (volume_of old)) (block_count len) (extents_of opened)
  pub takes : Takes (IsFree old) (extents_of opened) (IsFree new)
  pub size : g.size (volume_of new) ≡ g.size (volume_of old)
  pub failures : g.failures (volume_of new) ≡ g.failures (volume_of old)
  pub bytes : g.tells → part_bytes (g.image (volume_of new)) (extents_of opened) (length sent) ≡ sent
  pub image : g.tells → DiffersOnlyIn (IsInAny (extents_of opened)) (g.image (volume_of old)) (g.image (volume_of new))
  pub any_moment : g.tells → LeavesOnly g.moment g.left_at (volume_of old) (volume_of new) (ChangedIn (IsInAny (extents_of opened)) (g.image (volume_of old)) (g.left_at (volume_of old) (g.moment (volume_of old))))

-- What is sent to whom: the open custody at the start, the name, the length and the moment.
pub record UploadStart (K : Type 0) : Type 0 where
  pub start : K
  pub text : List ℕ
  pub len : ℕ
  pub now : ℕ

module _ {V S : Type 0} {g : volume.Ghosts V} where
  -- the bytes are settled, and no record names them yet
  pub record HasStaged (old new : OpenCustody V S g) (bytes : List ℕ) (staged : StagedPart) : Type 0 where
    pub records : current_records new ≡ current_records old
    pub store : new.store ≡ old.store
    pub size : g.size (volume_of new.vault) ≡ g.size (volume_of old.vault)
    pub failures : failures_of new ≡ failures_of old
    pub placed : IsPlaced (g.size (volume_of old.vault)) (IsFree old.vault) (IsFree new.vault) bytes staged
    pub settled : g.tells → IsDurable (image_of old) (image_of new) (IsFree old.vault) (MayLeaveImage new) bytes staged
    pub any_moment : g.tells → KeepsImage old → LeavesOnly g.moment g.left_at (volume_of old.vault) (volume_of new.vault) (DiffersOnlyIn (IsFree old.vault) (image_of old))

  -- a part of this name and length is to be kept
  abbrev pub MayOpenPart : OpenCustody V S g → Name → ℕ → Type 0
  MayOpenPart before name len = KeepsOrder before × (text : List ℕ) × (now : ℕ) × DecidesPart (GoRuling (AddsPart name)) (current_records before) text len now

  abbrev pub MayOpenChange : OpenCustody V S g → Change → ℕ → Type 0
  MayOpenChange before change len = KeepsOrder before × (text : List ℕ) × (now : ℕ) × DecidesPart (GoRuling (change_of change)) (current_records before) text len now

  module _ (database : Ghosts S) where
    -- a staged part is recorded
    abbrev pub KeepsStaged : (before after : OpenCustody V S g) → Name → ℕ → StagedPart → Result Reply Refused → Type 0
    KeepsStaged before after name now staged result = (old : OpenCustody V S g) (text bytes : List ℕ) → KeepsOrder old → Decides (GoRuling (AddsPart name)) (current_records old) (Receive text bytes) now → HasStaged old before bytes staged
        → HasExecuted database old (Receive text bytes) now result after

    -- ---- what is known while the bytes come

    pub record IsWriting (s : UploadStart (OpenCustody V S g)) (new : OpenCustody V S g) (w : Writing) (sent : List ℕ) : Type 0 where
      pub order : KeepsOrder s.start
      pub decides : DecidesPart (GoRuling (AddsPart w.name)) (current_records s.start) s.text s.len s.now
      pub records : current_records new ≡ current_records s.start
      pub store : new.store ≡ s.start.store
      pub room : HasPartRoom w.name.tld new.records
      pub empty : vec_len w.room ≡ 0
      pub extents : vec_capacity w.room ≡ 256
      pub written : IsWritten s.start.vault new.vault s.len w.opened sent

    -- those that came are the first of the part that is held
    pub record IsComparing (s : UploadStart (OpenCustody V S g)) (new : OpenCustody V S g) (c : Comparing) (sent : List ℕ) : Type 0 where
      pub order : KeepsOrder s.start
      pub decides : DecidesPart (CompareRuling c.name (part_value (compared_part c)) c.extents.items) (current_records s.start) s.text s.len s.now
      pub records : current_records new ≡ current_records s.start
      pub store : new.store ≡ s.start.store
      pub read : ReadsVault s.start.vault new.vault
      pub failures : failures_of new ≡ failures_of s.start
      pub done : c.done ≡ length sent
      pub same : g.tells → part_bytes (image_of s.start) c.extents.items (length sent) ≡ sent

    -- whatever comes still, this is the answer, and nothing is recorded
    pub record IsAnswered (s : UploadStart (OpenCustody V S g)) (new : OpenCustody V S g) (answer : Result Reply Refused) (sent : List ℕ) : Type 0 where
      pub order : KeepsOrder s.start
      pub unchanged : may_change answer ≡ false
      pub done : (body : List ℕ) → Continues sent s.len body → HasExecuted database s.start (Receive s.text body) s.now answer new

    abbrev pub IsUploading : UploadStart (OpenCustody V S g) → OpenCustody V S g → code.Upload → List ℕ → Type 0
    IsUploading s new (of.Writing w) sent = IsWriting s new w sent
    IsUploading s new (of.Comparing c) sent = IsComparing s new c sent × (c.len ≡ s.len)
    IsUploading s new (of.Answered answer) sent = IsAnswered s new answer sent

    -- ---- the calls

    abbrev pub OpensUpload : (before : OpenCustody V S g) → List ℕ → ℕ → ℕ → (after : OpenCustody V S g) → code.Upload → Type 0
    OpensUpload before text len now after upload = IsUploading (record { start = before; text = text; len = len; now = now }) after upload []

    abbrev pub OpensPart : (before : OpenCustody V S g) → Name → ℕ → (after : OpenCustody V S g) → code.Upload → Type 0
    OpensPart before name len after upload = (text : List ℕ) (now : ℕ) → KeepsOrder before → DecidesPart (GoRuling (AddsPart name)) (current_records before) text len now → OpensUpload before text len now after upload

    abbrev pub OpensChange : (before : OpenCustody V S g) → Change → ℕ → (after : OpenCustody V S g) → code.Upload → Type 0
    OpensChange before change len after upload = (text : List ℕ) (now : ℕ) → KeepsOrder before → DecidesPart (GoRuling (change_of change)) (current_records before) text len now → OpensUpload before text len now after upload

    abbrev pub OpensComparing : (before : OpenCustody V S g) → ℕ → (after : OpenCustody V S g) → Comparing → code.Upload → Type 0
    OpensComparing before len after c upload = (s : UploadStart (OpenCustody V S g)) → IsComparing s before c [] → s.len ≡ len → IsUploading s after upload []

    -- bytes that are taken are bytes of the part
    abbrev pub MayTake : OpenCustody V S g → code.Upload → List ℕ → Type 0
    MayTake before upload bytes = (s : UploadStart (OpenCustody V S g)) × (sent : List ℕ) × IsUploading s before upload sent × (length sent + length bytes ≤ s.len)

    abbrev pub TakesBytes : (before after : OpenCustody V S g) → code.Upload → List ℕ → code.Upload → Type 0
    TakesBytes before after upload bytes next = (s : UploadStart (OpenCustody V S g)) (sent : List ℕ) → IsUploading s before upload sent → length sent + length bytes ≤ s.len → IsUploading s after next (sent ++ bytes)

    abbrev pub MayWrite : OpenCustody V S g → Writing → List ℕ → Type 0
    MayWrite before w bytes = MayTake before (of.Writing w) bytes

    abbrev pub WritesBytes : (before after : OpenCustody V S g) → Writing → List ℕ → code.Upload → Type 0
    WritesBytes before after w bytes next = TakesBytes before after (of.Writing w) bytes next

    abbrev pub MayCompare : OpenCustody V S g → Comparing → List ℕ → Type 0
    MayCompare before c bytes = MayTake before (of.Comparing c) bytes

    abbrev pub ComparesBytes : (before after : OpenCustody V S g) → Comparing → List ℕ → code.Upload → Type 0
    ComparesBytes before after c bytes next = TakesBytes before after (of.Comparing c) bytes next

    abbrev pub MayDiffer : OpenCustody V S g → Comparing → Type 0
    MayDiffer before c = (s : UploadStart (OpenCustody V S g)) × (sent : List ℕ) × IsComparing s before c sent

    -- none of the bytes that may come are those of the part
    abbrev pub AnswersOtherBytes : (before after : OpenCustody V S g) → Comparing → code.Upload → Type 0
    AnswersOtherBytes before after c next = (s : UploadStart (OpenCustody V S g)) (came sent : List ℕ) → IsComparing s before c came → (g.tells → (body : List ℕ) → Continues sent s.len body → part_bytes (image_of s.start) c.extents.items c.len ≢ body) → IsUploading s after next sent

    abbrev pub MayComplete : OpenCustody V S g → code.Upload → Type 0
    MayComplete before upload = (s : UploadStart (OpenCustody V S g)) × (body : List ℕ) × IsUploading s before upload body × (length body ≡ s.len)

    abbrev pub Completes : (before : OpenCustody V S g) → ℕ → Result Reply Refused → (after : OpenCustody V S g) → code.Upload → Type 0
    Completes before now result after upload = (s : UploadStart (OpenCustody V S g)) (body : List ℕ) → IsUploading s before upload body → length body ≡ s.len → s.now ≡ now → HasExecuted database s.start (Receive s.text body) now result after

    abbrev pub MayFinish : OpenCustody V S g → Writing → Type 0
    MayFinish before w = MayComplete before (of.Writing w)

    abbrev pub Finishes : (before : OpenCustody V S g) → ℕ → Result Reply Refused → (after : OpenCustody V S g) → Writing → Type 0
    Finishes before now result after w = Completes before now result after (of.Writing w)

    abbrev pub MayGiveUp : OpenCustody V S g → code.Upload → Type 0
    MayGiveUp before upload = (s : UploadStart (OpenCustody V S g)) × (sent : List ℕ) × IsUploading s before upload sent

    abbrev pub GivesUp : (before after : OpenCustody V S g) → code.Upload → Option Failure → Type 0
    GivesUp before after upload closing = (s : UploadStart (OpenCustody V S g)) (sent : List ℕ) → IsUploading s before upload sent → length sent ≤ s.len
        → RecordsNothing database s.start (is_none closing) after × IfSome closing (λ failure. failure ≡ VolumeFailed)
