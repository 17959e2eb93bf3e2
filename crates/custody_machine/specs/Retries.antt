-- Commands that come again, and what is kept of those that were accepted.
use Rattle.std.specs.Prelude.{◌≡◌, ◌↔◌, ◌⊎◌, ℕ, List, [], ◌∷◌, ◌++◌, Option, Some, None, is_some, Bool, true, false, ◌&&◌, ◌==◌, if◌then◌else◌, Ok, bytes_eq}
use Rattle.std.specs.List.{list_any}
use Rattle.deposit_name.specs.Name.{Name}
use Rattle.desk.specs.declared.notices.NoticeKind.TheVariants.{Absence}
use Rattle.deposit_verify.specs.declared.verdict.Verdict.{Verdict}
use Rattle.custody_records.specs.Records.{key_of, lifted_at}
use Rattle.custody_machine.specs.NameReading.{read_name}
use Rattle.custody_machine.specs.State.{State, Held}
use Rattle.custody_machine.specs.Machine.{Command, Register, Receive, Statement, Check, Release, Hold, Lift, Purge, notice_kind, without_bytes, DroppedAfterKeeping, Record, OfRegistry, OfPart, OfNotice, OfRelease, OfHold, OfLifting, OfPurge, Reply, Step, Refuse, Accept, TimedCommand, step, state_after, after, part_under_name, is_dropped, Answer, Accepted, Refused, Failed, NoMemory, VolumeFailed, StoreFailed, Closed, Damaged, HasRecord}
use Rattle.custody_machine.specs.History.{Event, Answered, OpenedWith, Pair, Opened, IsHistory, found}

-- ---- keys

-- what a command is about
pub data CommandKey : Type 0 where
  OfTld : (tld : List ℕ) → CommandKey
  OfName : (name : List ℕ) → CommandKey
  OfRevision : (tld : List ℕ) → (day : ℕ) → (rev : ℕ) → CommandKey
  OfDay : (tld : List ℕ) → (day : ℕ) → CommandKey
  OfReleaseReference : (reference : List ℕ) → CommandKey
  OfHoldReference : (reference : List ℕ) → CommandKey
  OfLiftReference : (reference : List ℕ) → CommandKey

-- The key of a command: of a registration its registry, of a part its name, of a statement its revision, of a check its day, of a release, of a hold and of a lifting its reference. Keys of two kinds of command are never the same. One that makes no record of its own has none.
abbrev pub command_key : Command → Option CommandKey
command_key (Register tld _) = Some (OfTld tld)
command_key (Receive name _) = Some (OfName name)
command_key (Statement stated) = Some (OfRevision stated.tld stated.day stated.rev)
command_key (Check tld day) = Some (OfDay tld day)
command_key (Release reference _ _) = Some (OfReleaseReference reference)
command_key (Hold reference _ _) = Some (OfHoldReference reference)
command_key (Lift reference) = Some (OfLiftReference reference)
command_key Purge = None

-- whether two keys are there, and are the same
abbrev pub are_same_keys : Option CommandKey → Option CommandKey → Bool
are_same_keys (Some (OfTld a)) (Some (OfTld b)) = bytes_eq a b
are_same_keys (Some (OfName a)) (Some (OfName b)) = bytes_eq a b
are_same_keys (Some (OfRevision a d r)) (Some (OfRevision b e s)) = bytes_eq a b && (d == e && r == s)
are_same_keys (Some (OfDay a d)) (Some (OfDay b e)) = bytes_eq a b && d == e
are_same_keys (Some (OfReleaseReference a)) (Some (OfReleaseReference b)) = bytes_eq a b
are_same_keys (Some (OfHoldReference a)) (Some (OfHoldReference b)) = bytes_eq a b
are_same_keys (Some (OfLiftReference a)) (Some (OfLiftReference b)) = bytes_eq a b
are_same_keys _ _ = false

abbrev pub has_same_key : Command → Command → Bool
has_same_key a b = are_same_keys (command_key a) (command_key b)

-- The test tells of two commands that have one key.
abbrev pub KeysAreCompared : Type 0
KeysAreCompared = (a b : Command) → (has_same_key a b ≡ true) ↔ ((is_some (command_key a) ≡ true) × (command_key a ≡ command_key b))

-- ---- commands that come again

-- without each command that has the key of an earlier one
abbrev pub once_after : List Command → List TimedCommand → List TimedCommand
once_after earlier [] = []
once_after earlier (entry ∷ entries) = if list_any (has_same_key entry.0) earlier then once_after earlier entries else entry ∷ once_after (entry.0 ∷ earlier) entries

abbrev pub once : List TimedCommand → List TimedCommand
once = once_after []

-- The commands found act once: taking out those that came again leaves the same state.
abbrev pub ActsOnce : State → Type 0
ActsOnce first = (events : List Event) → IsHistory first events → after first (found first events) ≡ after first (once (found first events))

-- ---- what is kept for good

-- A record is kept as another one: as it is; of a part without its bytes; or of a hold that was not lifted with its lifting.
abbrev pub IsKeptAs : Record → Record → Type 0
IsKeptAs (OfPart key part) kept = (kept ≡ OfPart key part) ⊎ (kept ≡ OfPart key (without_bytes part))
IsKeptAs (OfHold reference hold) kept = (kept ≡ OfHold reference hold) ⊎ ((hold.lifted ≡ None) × (at : ℕ) × (kept ≡ OfHold reference (lifted_at at hold)))
IsKeptAs entry kept = kept ≡ entry

-- the state still has the record
abbrev pub StillHas : State → Record → Type 0
StillHas state entry = (kept : Record) × HasRecord state kept × IsKeptAs entry kept

-- Each record of the old state is kept in the new one.
abbrev pub KeepsRecords : State → State → Type 0
KeepsRecords old new = (entry : Record) → HasRecord old entry → StillHas new entry

-- No command removes a record.
abbrev pub NothingIsRemoved : Type 0
NothingIsRemoved = (old : State) (command : Command) (now : ℕ) → KeepsRecords old (state_after old command now)

-- A command is answered by a record that is kept.
abbrev pub RepliesAreRecords : Type 0
RepliesAreRecords = (old new : State) (command : Command) (now : ℕ) (reply : Reply) → step old command now ≡ Accept reply new → HasRecord new reply.entry

-- the record is that of the command: of a registration its registry, of a part its name and its bytes, of a statement its revision and its id, of a check its day, of a release its reference, its registry and its ground, of a hold its reference, its registry and its day, of a lifting its reference, of a purge a count
abbrev pub IsOfCommand : Command → Record → Type 0
IsOfCommand (Register tld first_day) (OfRegistry other day) = other ≡ tld
IsOfCommand (Receive text bytes) (OfPart key part) = (name : Name) × (read_name text ≡ Ok name) × (key ≡ key_of name) × (part.kind ≡ name.kind) × (part.content ≡ Held bytes)
IsOfCommand (Statement stated) (OfNotice key notice) = (key.tld ≡ stated.tld) × (notice.day ≡ stated.day) × (verdict : Verdict) × (notice.kind ≡ notice_kind stated verdict)
IsOfCommand (Check tld day) (OfNotice key notice) = (key.tld ≡ tld) × (notice.day ≡ day) × (notice.kind ≡ Absence)
IsOfCommand (Release reference tld reason) (OfRelease other release) = (other ≡ reference) × (release.tld ≡ tld) × (release.reason ≡ reason)
IsOfCommand (Hold reference tld day) (OfHold other hold) = (other ≡ reference) × (hold.tld ≡ tld) × (hold.day ≡ day)
IsOfCommand (Lift reference) (OfLifting other at) = other ≡ reference
IsOfCommand Purge (OfPurge count) = Unit {0}
IsOfCommand _ _ = ⊥

-- ---- what a command that comes again is answered

-- A command without what is not compared: of a registration the first day.
abbrev pub compared_command : Command → Command
compared_command (Register tld _) = Register tld 0
compared_command command = command

-- A command asks again for what another, which has a key, asked.
abbrev pub AsksAgain : Command → Command → Type 0
AsksAgain a b = (is_some (command_key a) ≡ true) × (compared_command a ≡ compared_command b)

abbrev pub step_record : Step → Option Record
step_record (Refuse refusal) = None
step_record (Accept reply new) = Some reply.entry

-- the record of the first command with a command's key
abbrev pub first_record : State → List TimedCommand → Command → Option Record
first_record state [] command = None
first_record state (entry ∷ entries) command =
    if has_same_key command entry.0 then step_record (step state entry.0 entry.1) else first_record (state_after state entry.0 entry.1) entries command

-- what a command made was dropped since
abbrev pub IsDroppedSince : State → Command → Type 0
IsDroppedSince state (Receive text _) = (name : Name) × (read_name text ≡ Ok name) × (is_dropped (part_under_name state name) ≡ true)
IsDroppedSince state _ = ⊥

-- By the record of the first command with its key, as it is kept, and which is this command's too; or that its bytes are dropped; or it failed, but not of the store, and not of damage.
abbrev pub IsAnsweredAgain : State → Command → Option Record → Answer → Type 0
IsAnsweredAgain state command first (Accepted reply) = (made : Record) × (first ≡ Some made) × IsKeptAs made reply.entry × IsOfCommand command reply.entry × (reply.is_repeat ≡ true)
IsAnsweredAgain state command first (Refused refusal) = (refusal ≡ DroppedAfterKeeping) × IsDroppedSince state command
IsAnsweredAgain state command first (Failed NoMemory) = Unit {0}
IsAnsweredAgain state command first (Failed VolumeFailed) = Unit {0}
IsAnsweredAgain state command first (Failed StoreFailed) = ⊥
IsAnsweredAgain state command first (Failed Closed) = Unit {0}
IsAnsweredAgain state command first (Failed (Damaged damage)) = ⊥

-- A command of those found that is given again, whatever came between, is answered by the record of the first with its key, and changes nothing.
abbrev pub RepeatsAreAnswered : State → Type 0
RepeatsAreAnswered first = (earlier later : List Event) (before behind : List TimedCommand) (entry : TimedCommand) (command : Command) (now : ℕ) (answer : Answer) →
    IsHistory first (earlier ++ Answered command now answer ∷ later) → found first earlier ≡ before ++ entry ∷ behind → AsksAgain entry.0 command →
    IsAnsweredAgain (after first (found first earlier)) command (first_record first (found first earlier) entry.0) answer
    × (after first (found first (earlier ++ Answered command now answer ∷ [])) ≡ after first (found first earlier))

-- ---- what the client sees

-- What was acknowledged is there at each later opening: a registry with the day that was told, a part of the name's kind with the moment that was told, and held with the bytes that were sent, or dropped with their number, a notice, a release or a lifting as it was told, a hold as it was told, or with its lifting.
abbrev pub AcknowledgedIsKept : State → Type 0
AcknowledgedIsKept first = (earlier between later : List Event) (command : Command) (now : ℕ) (reply : Reply) (pair : Pair) (state : State) →
    IsHistory first (earlier ++ Answered command now (Accepted reply) ∷ between ++ OpenedWith pair (Opened state) ∷ later) →
    IsOfCommand command reply.entry × StillHas state reply.entry
