-- What is answered to a ruling, and what is recorded then, whatever volume and database are.
use Rattle.std.specs.Prelude.{◌≡◌, ◌⊎◌, ℕ, List, [], length, Some, true, false, Result, Ok, Err}
use Rattle.std.specs.FinMap.{get}
use Rattle.sha2.specs.Sha256.{sha256}
use Rattle.deposit_name.specs.Name.{Name}
use Rattle.desk.specs.declared.grounds.Ground.{Ground}
use Rattle.extent_map.specs.declared.extent.Extent.{Extent}
use Rattle.schedule.specs.Schedule.{day_of}
use Rattle.custody_records.specs.Records.{PartRecord, Hold, Records, key_of, with_registry, with_part, with_notice, with_release, with_hold, new_hold, lifted_at}
use Rattle.deposit_verify.specs.declared.verdict.Verdict.{Verdict}
use Rattle.custody_machine.specs.declared.command.Statement as statement
use Rattle.custody_machine.specs.Machine.{Command, OfNotice, OfRelease, OfHold, absence_notice, next_key, verdict_notice}
use Rattle.custody_machine.specs.Machine as machine
use Rattle.custody_machine.specs.Purge.{count_due_records, records_without_due}
use Rattle.custody_machine.specs.Releases.{release_of_records}
use Rattle.custody_machine.specs.declared.answers.Refusal.TheVariants.{OtherBytes, VolumeFull}
use Rattle.custody_machine.specs.declared.answers.Failure.TheVariants.{NoMemory, VolumeFailed, StoreFailed, Damaged}
use Rattle.custody_machine.specs.declared.damage.Damage.TheVariants.{Digest}
use Rattle.custody_machine.specs.Rulings.{Change, AddsRegistry, AddsPart, AddsVerdict, AddsAbsence, AddsRelease, AddsHold, LiftsHold, DropsBytes, Ruling, RefuseRuling, KeptRuling, CompareRuling, GoRuling, Decides, command_bytes}
use Rattle.custody.specs.declared.answers.Record.TheVariants as of
use Rattle.custody.specs.declared.answers.Reply.{Reply}
use Rattle.custody.specs.declared.answers.Refused.{Refused}
use Rattle.custody.specs.declared.answers.Refused.TheVariants as refused
use Rattle.custody.specs.Answers.{lists_names, machine_record}
use Rattle.custody.specs.ReplyRecords.{IsRecordOfPart}

-- ---- repeats

-- a repeat is answered by the record that is kept, or there is no memory for the names that it lists
abbrev pub AnswersRepeat : machine.Record → Result Reply Refused → Type 0
AnswersRepeat entry (Ok reply) = (machine_record [] reply.record ≡ entry) × (reply.is_repeat ≡ true)
AnswersRepeat entry (Err (refused.Refusal refusal)) = ⊥
AnswersRepeat entry (Err (refused.Failure failure)) = (failure ≡ NoMemory) × (lists_names entry ≡ true)

-- a part that is held is answered as it is recorded; or other bytes or damage are told, or memory or the volume fails
abbrev pub AnswersCompared : Name → PartRecord → Result Reply Refused → Type 0
AnswersCompared name part (Ok reply) = IsRecordOfPart reply.record name part × (reply.is_repeat ≡ true)
AnswersCompared name part (Err (refused.Refusal refusal)) = refusal ≡ OtherBytes
AnswersCompared name part (Err (refused.Failure failure)) = (failure ≡ NoMemory) ⊎ ((failure ≡ VolumeFailed) ⊎ (failure ≡ Damaged Digest))

-- ---- changes

-- a new registry is recorded and answered, or memory or the database fails
abbrev pub RecordsRegistry : Records → List ℕ → ℕ → Result Reply Refused → Records → Type 0
RecordsRegistry records tld first_day (Ok reply) later = (reply ≡ record { «record» = of.Registry tld first_day; is_repeat = false }) × (later ≡ with_registry records tld first_day)
RecordsRegistry records tld first_day (Err (refused.Refusal refusal)) later = ⊥
RecordsRegistry records tld first_day (Err (refused.Failure failure)) later = (failure ≡ NoMemory) ⊎ (failure ≡ StoreFailed)

-- the record of a part that was received: its kind, moment and length, the SHA-256 of its bytes, and some extents
abbrev pub received_record : Name → ℕ → List ℕ → List Extent → PartRecord
received_record name now bytes extents = record { kind = name.kind; received = now; len = length bytes; digest = sha256 bytes; extents = Some extents }

-- a new part is recorded, and answered as it is recorded; or there is no room, or memory, the volume or the database fails
abbrev pub RecordsPart : Records → Name → ℕ → List ℕ → Result Reply Refused → Records → Type 0
RecordsPart records name now bytes (Ok reply) later =
    (extents : List Extent) × IsRecordOfPart reply.record name (received_record name now bytes extents) × (reply.is_repeat ≡ false) × (later ≡ with_part records (key_of name) (received_record name now bytes extents))
RecordsPart records name now bytes (Err (refused.Refusal refusal)) later = refusal ≡ VolumeFull
RecordsPart records name now bytes (Err (refused.Failure failure)) later = (failure ≡ NoMemory) ⊎ ((failure ≡ VolumeFailed) ⊎ (failure ≡ StoreFailed))

-- a notice of some verdict is recorded under the next number, and answered as it is recorded; or memory, the volume or the database fails, or a part has not its digest
abbrev pub RecordsVerdict : Records → statement.Statement → ℕ → Result Reply Refused → Records → Type 0
RecordsVerdict records stated now (Ok reply) later =
    (found : Verdict) × (machine_record [] reply.record ≡ OfNotice (next_key records.notices stated.tld) (verdict_notice stated found now)) × (reply.is_repeat ≡ false)
    × (later ≡ with_notice records (next_key records.notices stated.tld) (verdict_notice stated found now))
RecordsVerdict records stated now (Err (refused.Refusal refusal)) later = ⊥
RecordsVerdict records stated now (Err (refused.Failure failure)) later = (failure ≡ NoMemory) ⊎ ((failure ≡ VolumeFailed) ⊎ ((failure ≡ StoreFailed) ⊎ (failure ≡ Damaged Digest)))

-- the absence of a day is recorded under the next number, and answered as it is recorded; or memory or the database fails
abbrev pub RecordsAbsence : Records → List ℕ → ℕ → ℕ → Result Reply Refused → Records → Type 0
RecordsAbsence records tld day now (Ok reply) later =
    (machine_record [] reply.record ≡ OfNotice (next_key records.notices tld) (absence_notice day now)) × (reply.is_repeat ≡ false)
    × (later ≡ with_notice records (next_key records.notices tld) (absence_notice day now))
RecordsAbsence records tld day now (Err (refused.Refusal refusal)) later = ⊥
RecordsAbsence records tld day now (Err (refused.Failure failure)) later = (failure ≡ NoMemory) ⊎ (failure ≡ StoreFailed)

-- a release of what is held of the registry is recorded, and answered as it is recorded; or memory or the database fails
abbrev pub RecordsRelease : Records → List ℕ → List ℕ → Ground → ℕ → Result Reply Refused → Records → Type 0
RecordsRelease records reference tld reason now (Ok reply) later =
    (machine_record [] reply.record ≡ OfRelease reference (release_of_records records tld reason now)) × (reply.is_repeat ≡ false) × (later ≡ with_release records reference (release_of_records records tld reason now))
RecordsRelease records reference tld reason now (Err (refused.Refusal refusal)) later = ⊥
RecordsRelease records reference tld reason now (Err (refused.Failure failure)) later = (failure ≡ NoMemory) ⊎ (failure ≡ StoreFailed)

-- a hold of the day is recorded, and answered as it is recorded; or memory or the database fails
abbrev pub RecordsHold : Records → List ℕ → List ℕ → ℕ → ℕ → Result Reply Refused → Records → Type 0
RecordsHold records reference tld day now (Ok reply) later =
    (machine_record [] reply.record ≡ OfHold reference (new_hold tld day now)) × (reply.is_repeat ≡ false) × (later ≡ with_hold records reference (new_hold tld day now))
RecordsHold records reference tld day now (Err (refused.Refusal refusal)) later = ⊥
RecordsHold records reference tld day now (Err (refused.Failure failure)) later = (failure ≡ NoMemory) ⊎ (failure ≡ StoreFailed)

-- the moment of the lifting is recorded, and answered; or the database fails
abbrev pub RecordsLifting : Records → List ℕ → ℕ → Result Reply Refused → Records → Type 0
RecordsLifting records reference now (Ok reply) later =
    (reply ≡ record { «record» = of.Lifting reference now; is_repeat = false }) × (hold : Hold) × (get records.holds reference ≡ Some hold) × (later ≡ with_hold records reference (lifted_at now hold))
RecordsLifting records reference now (Err (refused.Refusal refusal)) later = ⊥
RecordsLifting records reference now (Err (refused.Failure failure)) later = failure ≡ StoreFailed

-- the bytes that were kept for a year, of days that are not on hold, are dropped, and it is answered of how many parts; or memory or the database fails
abbrev pub DropsDueBytes : Records → ℕ → Result Reply Refused → Records → Type 0
DropsDueBytes records now (Ok reply) later = (reply ≡ record { «record» = of.Purge (count_due_records (day_of now) records); is_repeat = false }) × (later ≡ records_without_due (day_of now) records)
DropsDueBytes records now (Err (refused.Refusal refusal)) later = ⊥
DropsDueBytes records now (Err (refused.Failure failure)) later = (failure ≡ NoMemory) ⊎ (failure ≡ StoreFailed)

abbrev pub MakesChange : Change → Records → List ℕ → ℕ → Result Reply Refused → Records → Type 0
MakesChange (AddsRegistry tld first_day) records bytes now answer later = RecordsRegistry records tld first_day answer later
MakesChange (AddsPart name) records bytes now answer later = RecordsPart records name now bytes answer later
MakesChange (AddsVerdict stated) records bytes now answer later = RecordsVerdict records stated now answer later
MakesChange (AddsAbsence tld day) records bytes now answer later = RecordsAbsence records tld day now answer later
MakesChange (AddsRelease reference tld reason) records bytes now answer later = RecordsRelease records reference tld reason now answer later
MakesChange (AddsHold reference tld day) records bytes now answer later = RecordsHold records reference tld day now answer later
MakesChange (LiftsHold reference) records bytes now answer later = RecordsLifting records reference now answer later
MakesChange DropsBytes records bytes now answer later = DropsDueBytes records now answer later

-- ---- commands

abbrev pub FollowsRuling : Ruling → Records → List ℕ → ℕ → Result Reply Refused → Records → Type 0
FollowsRuling (RefuseRuling refusal) records bytes now answer later = answer ≡ Err (refused.Refusal refusal)
FollowsRuling (KeptRuling entry) records bytes now answer later = AnswersRepeat entry answer
FollowsRuling (CompareRuling name part extents) records bytes now answer later = AnswersCompared name part answer
FollowsRuling (GoRuling change) records bytes now answer later = MakesChange change records bytes now answer later

-- the answer to a command follows what the records decide of it
abbrev pub FollowsRecords : Records → Command → ℕ → Result Reply Refused → Records → Type 0
FollowsRecords records command now answer later = (ruling : Ruling) × Decides ruling records command now × FollowsRuling ruling records (command_bytes command) now answer later
