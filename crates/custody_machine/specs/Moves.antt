-- What may happen to a database and a volume: the moves of a custody over records and images, which the contracts of the calls and the laws both cite.
use Rattle.std.specs.Prelude.{◌≡◌, ◌≢◌, ◌⊎◌, ℕ, List, [], ◌∷◌, ◌++◌, Option, Some, None, true, if◌then◌else◌, MatchOption, Contains}
use Rattle.std.specs.FinMap.{get}
use Rattle.extent_map.specs.declared.extent.Extent.{Extent}
use Rattle.vault_volume.specs.Extents.{part_bytes}
use Rattle.custody_records.specs.Keys.{PartKey}
use Rattle.custody_records.specs.Records.{PartRecord, Records}
use Rattle.custody_records.specs.Rows.{Rows}
use Rattle.custody_records.specs.Form.{form_of, InForm}
use Rattle.custody_machine.specs.State.{State}
use Rattle.custody_machine.specs.Machine.{Command, TimedCommand, after, deciding_keys, Answer, Accepted, Refused, Failed, Failure, NoMemory, VolumeFailed, StoreFailed, Closed, Damage, Damaged, MayAnswer}
use Rattle.custody_machine.specs.History.{IsFoundWithin, MayFind, doubt_of, is_open_after, Pair, Opened, NotOpened, Event, Answered, AnsweredOtherCall, ShutDown, StoppedAtRest, StoppedWithin, OpenedWith, IsHistory, found, WasReceived}
use Rattle.custody_machine.specs.StoredState.{AreWholeOnVolume, part_of, state_in, StandsFor, HasDigestAt, HasDigests, IsSound, KeepsParts, OpensFrom}
use Rattle.custody_machine.specs.Damage.{IsFirstDamage}

-- between two events
pub data Place : Type 0 where
  -- an open custody: its records, and the image that a read gives
  Serving : Records → (image : List ℕ) → Place
  -- a closed one: what it had when it was closed, or before the command at which it was, and the command in doubt
  Shut : Records → (image : List ℕ) → Option TimedCommand → Place
  -- no custody: what a restart shows
  Left : Rows → (image : List ℕ) → Place

-- ---- what a stop may leave

-- between two calls. Over what a restart shows an opening may be stopped, or may have failed: it leaves the same state, in whichever schema
abbrev pub MayLeave : Place → Rows → List ℕ → Type 0
MayLeave (Serving records image) rows left = OpensFrom records image (λ found. found ≡ state_in records image) rows left
MayLeave (Shut records image doubt) rows left = OpensFrom records image (MayFind (state_in records image) doubt) rows left
MayLeave (Left before image) rows left = (records : Records) → form_of before ≡ InForm records → AreWholeOnVolume records image → OpensFrom records image (λ found. found ≡ state_in records image) rows left

-- within a command
abbrev pub MayLeaveWithin : Place → Command → ℕ → Rows → List ℕ → Type 0
MayLeaveWithin (Serving records image) command now rows left = OpensFrom records image (IsFoundWithin (state_in records image) command now) rows left
MayLeaveWithin (Shut records image doubt) command now rows left = OpensFrom records image (MayFind (state_in records image) doubt) rows left
MayLeaveWithin (Left before image) command now rows left = ⊥

-- what is found of rows and an image: the state for which they stand, if there is one, and whether each held part has its digest
pub record Finds (rows : Rows) (image : List ℕ) (pair : Pair) : Type 0 where
  pub opens : MatchOption pair.opens ((state : State) → ¬ StandsFor rows image state) (λ state. StandsFor rows image state)
  pub sound : IsSound rows image → pair.is_sound ≡ true
  pub only_sound : pair.is_sound ≡ true → IsSound rows image

-- ---- what is answered

-- Damage is told where a part that is read has not its digest, and what else the bytes of parts decide only where each that is read has it.
abbrev pub DependsOnBytes : Records → List ℕ → Command → ℕ → Answer → Type 0
DependsOnBytes records image command now (Accepted reply) = (key : PartKey) → Contains (deciding_keys (state_in records image) command now) key → HasDigestAt image records key
DependsOnBytes records image command now (Refused refusal) = (key : PartKey) → Contains (deciding_keys (state_in records image) command now) key → HasDigestAt image records key
DependsOnBytes records image command now (Failed NoMemory) = Unit {0}
DependsOnBytes records image command now (Failed VolumeFailed) = Unit {0}
DependsOnBytes records image command now (Failed StoreFailed) = Unit {0}
DependsOnBytes records image command now (Failed Closed) = Unit {0}
DependsOnBytes records image command now (Failed (Damaged damage)) = (key : PartKey) × Contains (deciding_keys (state_in records image) command now) key × (¬ HasDigestAt image records key)

-- after an answer by which a custody went from old records and an old image to new ones
abbrev pub place_after : Records → List ℕ → Command → ℕ → Answer → Records → List ℕ → Place
place_after old image command now answer new later = if is_open_after answer then Serving new later else Shut old image (doubt_of command now answer)

-- why an opening may fail
abbrev pub MayNotOpen : Rows → List ℕ → Failure → Type 0
MayNotOpen rows image NoMemory = Unit {0}
MayNotOpen rows image VolumeFailed = Unit {0}
MayNotOpen rows image StoreFailed = Unit {0}
MayNotOpen rows image Closed = ⊥
MayNotOpen rows image (Damaged damage) = IsFirstDamage damage rows image

-- ---- the moves

abbrev pub Stops : (Rows → List ℕ → Type 0) → Pair → Place → Type 0
Stops may_leave pair next = (rows : Rows) × (left : List ℕ) × may_leave rows left × Finds rows left pair × (next ≡ Left rows left)

-- an event may take one place to the next
abbrev pub Moves : Place → Event → Place → Type 0
Moves (Serving records image) (Answered command now answer) next = (new : Records) × (later : List ℕ) × MayAnswer (state_in records image) command now answer (state_in new later) × DependsOnBytes records image command now answer
    × KeepsParts records image new later × (next ≡ place_after records image command now answer new later)
Moves (Serving records image) AnsweredOtherCall next = (later : List ℕ) × (state_in records later ≡ state_in records image) × KeepsParts records image records later × (next ≡ Serving records later)
Moves (Serving records image) ShutDown next = next ≡ Shut records image None
Moves (Serving records image) (StoppedAtRest pair) next = Stops (MayLeave (Serving records image)) pair next
Moves (Serving records image) (StoppedWithin command now pair) next = Stops (MayLeaveWithin (Serving records image) command now) pair next
Moves (Serving records image) (OpenedWith pair answer) next = ⊥
Moves (Shut records image doubt) (Answered command now answer) next = (answer ≡ Failed Closed) × (next ≡ Shut records image doubt)
Moves (Shut records image doubt) AnsweredOtherCall next = next ≡ Shut records image doubt
Moves (Shut records image doubt) ShutDown next = next ≡ Shut records image doubt
Moves (Shut records image doubt) (StoppedAtRest pair) next = Stops (MayLeave (Shut records image doubt)) pair next
Moves (Shut records image doubt) (StoppedWithin command now pair) next = Stops (MayLeaveWithin (Shut records image doubt) command now) pair next
Moves (Shut records image doubt) (OpenedWith pair answer) next = ⊥
Moves (Left rows image) (Answered command now answer) next = ⊥
Moves (Left rows image) AnsweredOtherCall next = ⊥
Moves (Left rows image) ShutDown next = ⊥
-- a stop within an opening
Moves (Left rows image) (StoppedAtRest pair) next = Stops (MayLeave (Left rows image)) pair next
Moves (Left rows image) (StoppedWithin command now pair) next = ⊥
Moves (Left rows image) (OpenedWith pair (Opened state)) next = Finds rows image pair × ((records : Records) × (form_of rows ≡ InForm records) × AreWholeOnVolume records image × (state ≡ state_in records image) × (next ≡ Serving records image))
Moves (Left rows image) (OpenedWith pair (NotOpened failure)) next = Finds rows image pair × MayNotOpen rows image failure × ((other : Rows) × (left : List ℕ) × MayLeave (Left rows image) other left × (next ≡ Left other left))

-- moves one after the other
abbrev pub MovesAlong : Place → List Event → Place → Type 0
MovesAlong old [] new = new ≡ old
MovesAlong old (event ∷ events) new = (next : Place) × Moves old event next × MovesAlong next events new

-- A finished initialisation or opening is in the first state, with each held part's digest; and one that did not finish has left what stands for it.
abbrev pub IsBegun : State → Place → Type 0
IsBegun first (Serving records image) = (state_in records image ≡ first) × HasDigests image records
IsBegun first (Shut records image doubt) = ⊥
IsBegun first (Left rows image) = StandsFor rows image first × IsSound rows image

-- ---- several commands

-- commands answered one after the other, each by the custody that the one before left
abbrev pub AnswersAlong : {C : Type 0} → (C → Command → ℕ → Answer → C → Type 0) → C → List TimedCommand → List Answer → C → Type 0
AnswersAlong {C} does old [] [] new = new ≡ old
AnswersAlong {C} does old [] (answer ∷ answers) new = ⊥
AnswersAlong {C} does old (entry ∷ entries) [] new = ⊥
AnswersAlong {C} does old (entry ∷ entries) (answer ∷ answers) new = (mid : C) × does old entry.0 entry.1 answer mid × AnswersAlong {C = C} does mid entries answers new

abbrev pub MovesBy : Place → Command → ℕ → Answer → Place → Type 0
MovesBy old command now answer new = Moves old (Answered command now answer) new

abbrev pub answer_events : List TimedCommand → List Answer → List Event
answer_events [] answers = []
answer_events (entry ∷ entries) [] = []
answer_events (entry ∷ entries) (answer ∷ answers) = Answered entry.0 entry.1 answer ∷ answer_events entries answers

-- ---- the laws

-- What happens to database and volume is a history of states.
abbrev pub MovesAreHistories : State → Type 0
MovesAreHistories first = (start end : Place) (events : List Event) → IsBegun first start → MovesAlong start events end → IsHistory first events

-- database and volume, or the custody over them, are in a state, with each held part's digest
abbrev pub IsInState : State → Place → Type 0
IsInState state (Serving records image) = (state_in records image ≡ state) × HasDigests image records
IsInState state (Shut records image doubt) = (state_in records image ≡ state) × HasDigests image records
IsInState state (Left rows image) = StandsFor rows image state × IsSound rows image

-- At each moment they are in the state after the commands found, in order.
abbrev pub PlacesAreRight : State → Type 0
PlacesAreRight first = (start end : Place) (events : List Event) → IsBegun first start → MovesAlong start events end → IsInState (after first (found first events)) end

-- the failure that an event tells
abbrev pub reported_failure : Event → Option Failure
reported_failure (Answered command now (Failed failure)) = Some failure
reported_failure (OpenedWith pair (NotOpened failure)) = Some failure
reported_failure _ = None

-- Whatever stops there were, neither an opening nor a command tells of damage.
abbrev pub NoDamageIsReported : State → Type 0
NoDamageIsReported first = (start end : Place) (earlier later : List Event) (event : Event) (damage : Damage) → IsBegun first start → MovesAlong start (earlier ++ event ∷ later) end → reported_failure event ≢ Some (Damaged damage)

-- Each part that an open custody holds reads back as it was received: the bytes at its extents are those of a command found, at its moment; or the first state has it so.
abbrev pub ReadsBackAsReceived : State → Type 0
ReadsBackAsReceived first = (start : Place) (records : Records) (image : List ℕ) (events : List Event) → IsBegun first start → MovesAlong start events (Serving records image)
    → (key : PartKey) (part : PartRecord) (extents : List Extent) → get records.parts key ≡ Some part → part.extents ≡ Some extents
    → (get first.parts key ≡ Some (part_of image part)) ⊎ WasReceived (found first events) key (part_of image part) (part_bytes image extents part.len)

-- What is found of rows and image is one thing; and each stop that may come of sound rows and image has it.
pub record FindsOne : Type 0 where
  pub one : (rows : Rows) (image : List ℕ) (a b : Pair) → Finds rows image a → Finds rows image b → a ≡ b
  pub some : (rows : Rows) (image : List ℕ) (state : State) → StandsFor rows image state → IsSound rows image → Finds rows image (record { opens = Some state; is_sound = true })

-- commands in a row are moves
abbrev pub AnswersAreMoves : Type 0
AnswersAreMoves = (old new : Place) (entries : List TimedCommand) (answers : List Answer) → AnswersAlong MovesBy old entries answers new → MovesAlong old (answer_events entries answers) new
