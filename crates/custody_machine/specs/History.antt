-- What may happen to a custody, whenever it is stopped, and the commands that are found when it is opened again.
use Rattle.std.specs.Option.{option_or}
use Rattle.std.specs.Prelude.{◌≡◌, ℕ, List, [], ◌∷◌, ◌++◌, Option, Some, None, Bool, true, false, not, ◌⊎◌, if◌then◌else◌, Ok}
use Rattle.std.specs.FinMap.{get}
use Rattle.deposit_name.specs.Name.{Name}
use Rattle.custody_records.specs.Keys.{PartKey}
use Rattle.custody_records.specs.Records.{key_of}
use Rattle.custody_machine.specs.NameReading.{read_name}
use Rattle.custody_machine.specs.State.{State, Part, Held}
use Rattle.custody_machine.specs.Machine.{Receive, Command, TimedCommand, Step, Refuse, Accept, Reply, step, state_after, after, Answer, Accepted, Refused, Failed, Failure, NoMemory, VolumeFailed, StoreFailed, Closed, Damaged, MayAnswer}
use Rattle.custody_machine.specs.SameValues.{is_same_state}

-- ---- what a stop may leave, and what opening may answer. The contracts of the calls cite these too

-- within a command from the old state: that state, or the new one
abbrev pub IsFoundWithin : State → Command → ℕ → State → Type 0
IsFoundWithin old command now found = (found ≡ old) ⊎ (found ≡ state_after old command now)

-- the command that is in doubt after an answer: one that was answered that the store failed
abbrev pub doubt_of : Command → ℕ → Answer → Option TimedCommand
doubt_of command now (Failed StoreFailed) = Some (command, now)
doubt_of command now _ = None

-- of a closed custody: its state, or that after the command in doubt
abbrev pub MayFind : State → Option TimedCommand → State → Type 0
MayFind old None found = found ≡ old
MayFind old (Some entry) found = IsFoundWithin old entry.0 entry.1 found

-- whether a custody is closed after a failure
abbrev pub is_closing : Failure → Bool
is_closing VolumeFailed = true
is_closing StoreFailed = true
is_closing Closed = true
is_closing _ = false

-- whether a custody is open after an answer
abbrev pub is_open_after : Answer → Bool
is_open_after (Failed failure) = not (is_closing failure)
is_open_after _ = true

-- the state as which database and volume open, if there is one, and whether each held part has its recorded digest
pub record Pair : Type 0 where
  pub opens : Option State
  pub is_sound : Bool

pub data OpenAnswer : Type 0 where
  Opened : State → OpenAnswer
  NotOpened : Failure → OpenAnswer

-- what opening them may answer
abbrev pub MayOpen : Option State → OpenAnswer → Type 0
MayOpen opens (Opened state) = opens ≡ Some state
MayOpen opens (NotOpened NoMemory) = Unit {0}
MayOpen opens (NotOpened VolumeFailed) = Unit {0}
MayOpen opens (NotOpened StoreFailed) = Unit {0}
MayOpen opens (NotOpened Closed) = ⊥
MayOpen opens (NotOpened (Damaged damage)) = opens ≡ None

-- ---- histories

pub data Event : Type 0 where
  -- a command was answered
  Answered : Command → (now : ℕ) → Answer → Event
  -- a call that is no command was answered, and the custody is as it was: a reading call, or an upload that ends early
  AnsweredOtherCall : Event
  -- a call that is no command has closed the custody: a reading call or an upload at which the volume failed, or its closing
  ShutDown : Event
  -- a stop between two commands, with what was found
  StoppedAtRest : Pair → Event
  -- a stop within a command
  StoppedWithin : Command → (now : ℕ) → Pair → Event
  -- an opening of what was found was answered
  OpenedWith : Pair → OpenAnswer → Event

-- between two events
pub data Condition : Type 0 where
  -- a custody is open in this state
  Running : State → Condition
  -- a custody is closed, from this state, with the command in doubt
  Halted : State → Option TimedCommand → Condition
  -- there is no custody, and database and volume are as after a restart
  Stopped : Pair → Condition

-- the pair is sound, and opens as a state of which P holds
abbrev pub OpensSoundly : (State → Type 0) → Pair → Type 0
OpensSoundly P pair = (state : State) × (pair.opens ≡ Some state) × P state × (pair.is_sound ≡ true)

-- after an answer by which an open custody went from the old state to the new one
abbrev pub condition_after : State → Command → ℕ → Answer → State → Condition
condition_after old command now answer new = if is_open_after answer then Running new else Halted old (doubt_of command now answer)

abbrev pub condition_after_opening : Pair → OpenAnswer → Condition
condition_after_opening pair (Opened state) = Running state
condition_after_opening pair (NotOpened failure) = Stopped pair

-- an event may take one condition to the next
abbrev pub Happens : Condition → Event → Condition → Type 0
Happens (Running old) (Answered command now answer) next = (new : State) × MayAnswer old command now answer new × (next ≡ condition_after old command now answer new)
Happens (Running old) AnsweredOtherCall next = next ≡ Running old
Happens (Running old) ShutDown next = next ≡ Halted old None
Happens (Running old) (StoppedAtRest pair) next = OpensSoundly (λ found. found ≡ old) pair × (next ≡ Stopped pair)
Happens (Running old) (StoppedWithin command now pair) next = OpensSoundly (IsFoundWithin old command now) pair × (next ≡ Stopped pair)
Happens (Running old) (OpenedWith pair answer) next = ⊥
-- A closed custody answers that it is closed, and changes nothing of what a stop may leave.
Happens (Halted old doubt) (Answered command now answer) next = (answer ≡ Failed Closed) × (next ≡ Halted old doubt)
Happens (Halted old doubt) AnsweredOtherCall next = next ≡ Halted old doubt
Happens (Halted old doubt) ShutDown next = next ≡ Halted old doubt
Happens (Halted old doubt) (StoppedAtRest pair) next = OpensSoundly (MayFind old doubt) pair × (next ≡ Stopped pair)
Happens (Halted old doubt) (StoppedWithin command now pair) next = OpensSoundly (MayFind old doubt) pair × (next ≡ Stopped pair)
Happens (Halted old doubt) (OpenedWith pair answer) next = ⊥
-- Opening changes no record, and neither does a stop within it: tables of the earlier schema may be those of the later one then.
Happens (Stopped left) (Answered command now answer) next = ⊥
Happens (Stopped left) AnsweredOtherCall next = ⊥
Happens (Stopped left) ShutDown next = ⊥
Happens (Stopped left) (StoppedAtRest pair) next = (pair ≡ left) × (next ≡ Stopped left)
Happens (Stopped left) (StoppedWithin command now pair) next = ⊥
Happens (Stopped left) (OpenedWith pair answer) next = (pair ≡ left) × MayOpen pair.opens answer × (next ≡ condition_after_opening pair answer)

-- events that may happen one after the other
abbrev pub HappensAlong : Condition → List Event → Condition → Type 0
HappensAlong old [] new = new ≡ old
HappensAlong old (event ∷ events) new = (next : Condition) × Happens old event next × HappensAlong next events new

-- A history begins with a custody in the first state, by an initialisation or an opening; or with what such a call that did not finish has left.
abbrev pub IsStart : State → Condition → Type 0
IsStart first (Running state) = state ≡ first
IsStart first (Halted old doubt) = ⊥
IsStart first (Stopped pair) = OpensSoundly (λ state. state ≡ first) pair

abbrev pub IsHistory : State → List Event → Type 0
IsHistory first events = (start : Condition) × (end : Condition) × IsStart first start × HappensAlong start events end

-- ---- the commands found

-- the commands found so far, and the one of this session that was answered that the store failed
pub record FoundCommands : Type 0 where
  pub commands : List TimedCommand
  pub in_doubt : Option TimedCommand

-- whether a state is the one to which the machine goes on
abbrev pub is_step_to : Step → Option State → Bool
is_step_to (Refuse refusal) found = false
is_step_to (Accept reply new) None = false
is_step_to (Accept reply new) (Some found) = is_same_state found new

-- A session has ended: the command in doubt is found exactly if the machine accepts it and the state found is its new state.
abbrev pub found_at_stop : State → List TimedCommand → Option TimedCommand → Pair → FoundCommands
found_at_stop first commands None pair = record { commands = commands; in_doubt = None }
found_at_stop first commands (Some entry) pair = record {
  commands = if is_step_to (step (after first commands) entry.0 entry.1) pair.opens then commands ++ entry ∷ [] else commands;
  in_doubt = None;
}

abbrev pub found_after_event : State → FoundCommands → Event → FoundCommands
found_after_event first f (Answered command now (Accepted reply)) = record { commands = f.commands ++ (command, now) ∷ []; in_doubt = f.in_doubt }
found_after_event first f (Answered command now (Refused refusal)) = f
found_after_event first f (Answered command now (Failed failure)) = record { commands = f.commands; in_doubt = option_or f.in_doubt (doubt_of command now (Failed failure)) }
found_after_event first f AnsweredOtherCall = f
found_after_event first f ShutDown = f
found_after_event first f (StoppedAtRest pair) = found_at_stop first f.commands f.in_doubt pair
-- the command that was answered that the store failed, or else the one within which the session ended
found_after_event first f (StoppedWithin command now pair) = found_at_stop first f.commands (option_or f.in_doubt (Some (command, now))) pair
found_after_event first f (OpenedWith pair answer) = f

abbrev pub found_after : State → FoundCommands → List Event → FoundCommands
found_after first f [] = f
found_after first f (event ∷ events) = found_after first (found_after_event first f event) events

-- nothing is found yet
abbrev pub none_found : FoundCommands
none_found = record { commands = []; in_doubt = None }

-- the commands found in a history
abbrev pub found : State → List Event → List TimedCommand
found first events = (found_after first none_found events).commands

-- ---- the laws

-- Wherever the custody was stopped, what is found is sound, and opening it gives what is kept after the commands found, in order.
abbrev pub OpeningsAreRight : State → Type 0
OpeningsAreRight first = (earlier later : List Event) (pair : Pair) (answer : OpenAnswer) → IsHistory first (earlier ++ OpenedWith pair answer ∷ later) →
    OpensSoundly (λ state. state ≡ after first (found first earlier)) pair × MayOpen (Some (after first (found first earlier))) answer

-- What was found once is found for good.
abbrev pub NothingIsTakenBack : State → Type 0
NothingIsTakenBack first = (earlier later : List Event) → (more : List TimedCommand) × (found first (earlier ++ later) ≡ found first earlier ++ more)

-- A command that was accepted is found.
abbrev pub AcceptedIsFound : State → Type 0
AcceptedIsFound first = (earlier later : List Event) (command : Command) (now : ℕ) (reply : Reply) →
    (more : List TimedCommand) × (found first (earlier ++ Answered command now (Accepted reply) ∷ later) ≡ (found first earlier ++ (command, now) ∷ []) ++ more)

-- ---- what was received

-- the part was received with these bytes by one of the commands, at its moment
abbrev pub WasReceived : List TimedCommand → PartKey → Part → List ℕ → Type 0
WasReceived entries key part bytes =
    (before behind : List TimedCommand) × (text : List ℕ) × (name : Name) × (entries ≡ before ++ (Receive text bytes, part.received) ∷ behind) × (read_name text ≡ Ok name) × (key_of name ≡ key) × (name.kind ≡ part.kind)

-- Each part that is kept with its bytes was received so: by a command of those found, at its moment; or it was in the first state.
abbrev pub HeldAsReceived : State → Type 0
HeldAsReceived first = (entries : List TimedCommand) (key : PartKey) (part : Part) (bytes : List ℕ) → get (after first entries).parts key ≡ Some part → part.content ≡ Held bytes →
    (get first.parts key ≡ Some part) ⊎ WasReceived entries key part bytes

-- ---- where the commands found come from

-- the command that an event may leave to be found: one that is accepted, one that is answered that the store failed (C3), or the one within which its session is stopped; of any other answer none
abbrev pub findable_command : Event → Option TimedCommand
findable_command (Answered command now (Accepted reply)) = Some (command, now)
findable_command (Answered command now (Refused refusal)) = None
findable_command (Answered command now (Failed NoMemory)) = None
findable_command (Answered command now (Failed VolumeFailed)) = None
findable_command (Answered command now (Failed StoreFailed)) = Some (command, now)
findable_command (Answered command now (Failed Closed)) = None
findable_command (Answered command now (Failed (Damaged damage))) = None
findable_command AnsweredOtherCall = None
findable_command ShutDown = None
findable_command (StoppedAtRest pair) = None
findable_command (StoppedWithin command now pair) = Some (command, now)
findable_command (OpenedWith pair answer) = None

-- each of the commands is left by an event of its own, in the order of the events
abbrev pub AreLeftBy : List Event → List TimedCommand → Type 0
AreLeftBy [] entries = entries ≡ []
AreLeftBy (event ∷ events) entries =
    AreLeftBy events entries
    ⊎ ((entry : TimedCommand) × (rest : List TimedCommand) × (entries ≡ entry ∷ rest) × (findable_command event ≡ Some entry) × AreLeftBy events rest)

-- Every command that is found was answered as accepted, or is one that was answered that the store failed, or one within which its session was stopped; none is found for an answer that is a refusal or another failure.
abbrev pub NothingElseIsFound : State → Type 0
NothingElseIsFound first = (events : List Event) → IsHistory first events → AreLeftBy events (found first events)
