-- What a statement would be answered with.
use Rattle.std.specs.Prelude.{◌≡◌, ◌⊎◌, ℕ, List, Bool, true, false, Result, Ok, Err}
use Rattle.vault_volume.specs.declared.volume.Volume as volume
use Rattle.sqlite.specs.Store.{Ghosts}
use Rattle.desk.specs.declared.notices.Notice as desk
use Rattle.deposit_verify.specs.declared.verdict.Verdict.{Verdict}
use Rattle.custody_records.specs.Keys.{NoticeKey}
use Rattle.custody_records.specs.Records.{Notice, Records}
use Rattle.custody_machine.specs.declared.command.Statement as statement
use Rattle.custody_machine.specs.declared.answers.Failure.TheVariants.{NoMemory, VolumeFailed, StoreFailed, Closed, Damaged}
use Rattle.custody_machine.specs.declared.damage.Damage.TheVariants.{Digest}
use Rattle.custody_machine.specs.State.{State}
use Rattle.custody_machine.specs.Machine.{Statement, OfNotice, Accept, Refuse, Accepted, Failed, told_notice, next_key, verdict_notice, step}
use Rattle.custody_machine.specs.Moves.{DependsOnBytes}
use Rattle.custody_machine.specs.Rulings.{AddsVerdict, RefuseRuling, KeptRuling, GoRuling, Decides}
use Rattle.custody_machine.specs.StoredState.{state_in}
use Rattle.custody.specs.declared.answers.Refused.{Refused}
use Rattle.custody.specs.declared.answers.Refused.TheVariants as refused
use Rattle.custody.specs.declared.custody.Custody.{Custody}
use Rattle.custody.specs.Answers.{closing_failure}
use Rattle.custody.specs.OpenCustody.{current_records, image_of, IsUnwritten}
use Rattle.custody.specs.OtherCalls.{RecordsNothing}
use Rattle.custody.specs.Custody.{failure_of, open_custody_of, is_open}

-- a notice as it is told before it is recorded: with number 0
abbrev pub unnumbered : NoticeKey → Notice → desk.Notice
unnumbered key notice = told_notice (record { tld = key.tld; number = 0 }, notice)

-- the records decide that this notice, which is kept, answers the statement
abbrev pub TellsKept : Records → statement.Statement → ℕ → desk.Notice → Type 0
TellsKept records stated now told = (key : NoticeKey) × (notice : Notice) × Decides (KeptRuling (OfNotice key notice)) records (Statement stated) now × (told ≡ unnumbered key notice)

-- the records let the statement go ahead, and this is the notice of some verdict
abbrev pub TellsVerdict : Records → statement.Statement → ℕ → desk.Notice → Type 0
TellsVerdict records stated now told = (found : Verdict) × Decides (GoRuling (AddsVerdict stated)) records (Statement stated) now × (told ≡ unnumbered (next_key records.notices stated.tld) (verdict_notice stated found now))

-- Whatever the volume is: what the records decide is answered, a refusal or the notice that is kept; where they let the statement go ahead, it is the notice of some verdict, or memory, the volume or a digest fails.
abbrev pub IsPreviewDecided : Records → statement.Statement → ℕ → Result desk.Notice Refused → Type 0
IsPreviewDecided records stated now (Ok told) = TellsKept records stated now told ⊎ TellsVerdict records stated now told
IsPreviewDecided records stated now (Err (refused.Refusal refusal)) = Decides (RefuseRuling refusal) records (Statement stated) now
IsPreviewDecided records stated now (Err (refused.Failure failure)) = Decides (GoRuling (AddsVerdict stated)) records (Statement stated) now × ((failure ≡ NoMemory) ⊎ ((failure ≡ VolumeFailed) ⊎ (failure ≡ Damaged Digest)))

-- the machine accepts the statement with this notice, kept or new, each part that decides it having its digest
pub record TellsAccepted (records : Records) (image : List ℕ) (stated : statement.Statement) (now : ℕ) (told : desk.Notice) : Type 0 where
  pub key : NoticeKey
  pub notice : Notice
  pub is_repeat : Bool
  pub later : State
  pub accepted : step (state_in records image) (Statement stated) now ≡ Accept (record { entry = OfNotice key notice; is_repeat = is_repeat }) later
  pub told_is : told ≡ unnumbered key notice
  pub rests : DependsOnBytes records image (Statement stated) now (Accepted (record { entry = OfNotice key notice; is_repeat = is_repeat }))

-- Where the volume tells its image: what the machine answers to the statement, its refusal or its notice without the number; damage is told where a part that decides has not its digest.
abbrev pub IsPreviewed : Records → List ℕ → statement.Statement → ℕ → Result desk.Notice Refused → Type 0
IsPreviewed records image stated now (Ok told) = TellsAccepted records image stated now told
IsPreviewed records image stated now (Err (refused.Refusal refusal)) = step (state_in records image) (Statement stated) now ≡ Refuse refusal
IsPreviewed records image stated now (Err (refused.Failure NoMemory)) = Unit {0}
IsPreviewed records image stated now (Err (refused.Failure VolumeFailed)) = Unit {0}
IsPreviewed records image stated now (Err (refused.Failure StoreFailed)) = ⊥
IsPreviewed records image stated now (Err (refused.Failure Closed)) = ⊥
IsPreviewed records image stated now (Err (refused.Failure (Damaged damage))) = DependsOnBytes records image (Statement stated) now (Failed (Damaged damage))

module _ {V S : Type 0} {g : volume.Ghosts V} {database : Ghosts S} where
  -- What a preview does to a custody, and answers.
  pub record HasPreviewed (old : Custody V S g database) (stated : statement.Statement) (now : ℕ) (answer : Result desk.Notice Refused) (new : Custody V S g database) : Type 0 where
    -- a closed one says so, and is as it was
    pub closed : is_open old ≡ false → (answer ≡ Err (refused.Failure Closed)) × (new ≡ old)
    -- an open one is closed by a failure of the volume, which is answered, and by nothing else
    pub closes : is_open old ≡ true → failure_of new ≡ closing_failure answer
    -- what the records decide is answered
    pub decided : is_open old ≡ true → IsPreviewDecided (current_records (open_custody_of old)) stated now answer
    -- and the verdict on what the volume holds
    pub told : is_open old ≡ true → g.tells → IsPreviewed (current_records (open_custody_of old)) (image_of (open_custody_of old)) stated now answer
    -- it is no command
    pub rested : is_open old ≡ true → RecordsNothing database (open_custody_of old) (is_open new) (open_custody_of new)
    -- and writes nothing
    pub unwritten : is_open old ≡ true → g.tells → IsUnwritten (open_custody_of old) (open_custody_of new)
