-- Histories of each kind, so that the laws speak of something: for each command that is accepted, a stop within it and a failed commit, found and not found; a failed opening between two stops; a failed volume; a repeat; and calls that are none, after which the custody is open or closed.
use Rattle.std.specs.Prelude.{◌≡◌, ◌≢◌, ℕ, List, [], ◌∷◌, Some, true, false}
use Rattle.custody_machine.specs.State.{State}
use Rattle.custody_machine.specs.Machine.{Command, TimedCommand, Reply, Accept, step, Accepted, Failed, VolumeFailed, StoreFailed, Closed}
use Rattle.custody_machine.specs.History.{Pair, Opened, NotOpened, Event, Answered, AnsweredOtherCall, ShutDown, StoppedAtRest, StoppedWithin, OpenedWith, IsHistory, found}

-- what is found of an intact custody in a state
abbrev pub pair_of : State → Pair
pair_of state = record { opens = Some state; is_sound = true }

-- a history in which so many commands are found
abbrev pub FindsCommands : State → List Event → List TimedCommand → Type 0
FindsCommands first events entries = IsHistory first events × (found first events ≡ entries)

abbrev pub opening_events : State → List Event
opening_events state = OpenedWith (pair_of state) (Opened state) ∷ []

-- of a command that is accepted
pub record HasExamples (first new : State) (command : Command) (now : ℕ) (reply : Reply) : Type 0 where
  pub acknowledged : FindsCommands first (Answered command now (Accepted reply) ∷ StoppedAtRest (pair_of new) ∷ opening_events new) ((command, now) ∷ [])
  pub within_found : FindsCommands first (StoppedWithin command now (pair_of new) ∷ opening_events new) ((command, now) ∷ [])
  pub within_lost : new ≢ first → FindsCommands first (StoppedWithin command now (pair_of first) ∷ opening_events first) []
  pub in_doubt_found : reply.is_repeat ≡ false → FindsCommands first (Answered command now (Failed StoreFailed) ∷ StoppedAtRest (pair_of new) ∷ opening_events new) ((command, now) ∷ [])
  pub in_doubt_lost : reply.is_repeat ≡ false → new ≢ first → FindsCommands first (Answered command now (Failed StoreFailed) ∷ StoppedAtRest (pair_of first) ∷ opening_events first) []
  pub volume_failed : FindsCommands first (Answered command now (Failed VolumeFailed) ∷ Answered command now (Failed Closed) ∷ StoppedAtRest (pair_of first) ∷ opening_events first) []
  pub repeated : (later : ℕ) (again : Reply) → step new command later ≡ Accept again new → FindsCommands first (Answered command now (Accepted reply) ∷ Answered command later (Accepted again) ∷ StoppedAtRest (pair_of new) ∷ opening_events new) ((command, now) ∷ (command, later) ∷ [])
  pub opened_again : FindsCommands first (StoppedAtRest (pair_of first) ∷ OpenedWith (pair_of first) (NotOpened StoreFailed) ∷ StoppedAtRest (pair_of first) ∷ opening_events first) []
  pub rested : FindsCommands first (AnsweredOtherCall ∷ Answered command now (Accepted reply) ∷ StoppedAtRest (pair_of new) ∷ opening_events new) ((command, now) ∷ [])
  pub shut_down : FindsCommands first (ShutDown ∷ StoppedAtRest (pair_of first) ∷ opening_events first) []

abbrev pub HistoriesHappen : Type 0
HistoriesHappen = (first new : State) (command : Command) (now : ℕ) (reply : Reply) → step first command now ≡ Accept reply new → HasExamples first new command now reply
