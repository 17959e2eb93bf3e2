-- What an open custody leaves, and what it does from an opening to a stop, in the machine's words.
use Rattle.std.specs.Option.{option_or}
use Rattle.std.specs.Prelude.{◌≡◌, ℕ, List, [], ◌∷◌, ◌++◌, length, Option, None, true, false, Result}
use Rattle.vault_volume.specs.declared.volume.Volume as volume
use Rattle.vault_volume.specs.Vault.{IsFree}
use Rattle.sqlite.specs.Store.{Ghosts}
use Rattle.custody_records.specs.Records.{Records}
use Rattle.custody_records.specs.Rows.{Rows}
use Rattle.custody_records.specs.Form.{form_of, InForm}
use Rattle.custody_machine.specs.State.{State, empty}
use Rattle.custody_machine.specs.Machine.{Command, TimedCommand, after, Answer, Accepted, Refused, Failed}
use Rattle.custody_machine.specs.declared.answers.Failure.{Failure}
use Rattle.custody_machine.specs.History.{MayFind, Pair, Event, Opened, NotOpened, StoppedAtRest, StoppedWithin, OpenedWith, doubt_of}
use Rattle.custody_machine.specs.StoredState.{IsPartBlock, StandsFor, HasDigests, IsSound, state_in}
use Rattle.custody_machine.specs.Moves.{Place, Serving, Left, MayLeave, MayNotOpen, Finds, AnswersAlong, MovesBy, answer_events, MovesAlong}
use Rattle.custody_machine.specs.Custody.{IsAtPlace}
use Rattle.custody.specs.declared.answers.Reply.{Reply}
use Rattle.custody.specs.declared.answers.Refused as not_accepted
use Rattle.custody.specs.declared.custody.Custody.{Custody}
use Rattle.custody.specs.Answers.{answer_of}
use Rattle.custody.specs.OpenCustody.{current_records, store_state_of, image_of, MayLeaveImage, MayLeaveImageSince, KeepsPast, KeepsImage, KeepsRows}
use Rattle.custody.specs.Custody.{open_custody_of, is_open, HasApplied, HasRun}

-- ---- answers

-- the answers of the machine
abbrev pub answers_of : List TimedCommand → List (Result Reply not_accepted.Refused) → List Answer
answers_of [] answers = []
answers_of (entry ∷ entries) [] = []
answers_of (entry ∷ entries) (answer ∷ answers) = answer_of entry.0 answer ∷ answers_of entries answers

-- the commands that were accepted, in order
abbrev pub accepted_commands : List TimedCommand → List Answer → List TimedCommand
accepted_commands [] answers = []
accepted_commands (entry ∷ entries) [] = []
accepted_commands (entry ∷ entries) (Accepted reply ∷ answers) = entry ∷ accepted_commands entries answers
accepted_commands (entry ∷ entries) (Refused refusal ∷ answers) = accepted_commands entries answers
accepted_commands (entry ∷ entries) (Failed failure ∷ answers) = accepted_commands entries answers

-- the one that is in doubt: it was answered that the store failed
abbrev pub command_in_doubt : List TimedCommand → List Answer → Option TimedCommand
command_in_doubt [] answers = None
command_in_doubt (entry ∷ entries) [] = None
command_in_doubt (entry ∷ entries) (answer ∷ answers) = option_or (doubt_of entry.0 entry.1 answer) (command_in_doubt entries answers)

-- the state after the commands that were accepted, in order, and then at most the one in doubt
abbrev pub IsStateAfter : State → List TimedCommand → List Answer → State → Type 0
IsStateAfter first entries answers state = MayFind (after first (accepted_commands entries answers)) (command_in_doubt entries answers) state

-- ---- an open custody

module _ {V S : Type 0} {g : volume.Ghosts V} where
  -- it is open, and volume and database are as it has them in memory
  pub record IsServing (database : Ghosts S) (custody : Custody V S g database) : Type 0 where
    pub opened : is_open custody ≡ true
    pub image : KeepsImage (open_custody_of custody)
    pub rows : KeepsRows database (open_custody_of custody)

  -- where it is, if it is open
  abbrev pub place_of : (database : Ghosts S) → Custody V S g database → Place
  place_of database custody = Serving (current_records (open_custody_of custody)) (image_of (open_custody_of custody))

  abbrev pub state_of_custody : (database : Ghosts S) → Custody V S g database → State
  state_of_custody database custody = state_in (current_records (open_custody_of custody)) (image_of (open_custody_of custody))

  -- what a stop may leave of both now
  abbrev pub StopLeaves : (database : Ghosts S) → Custody V S g database → (Rows → List ℕ → Type 0) → Type 0
  StopLeaves database custody P = (rows : Rows) (image : List ℕ) → (store_state_of database (open_custody_of custody)).may_leave rows → MayLeaveImage (open_custody_of custody) image → P rows image

  -- no part of these rows names a block that is free
  abbrev pub SparesFreeBlocks : (database : Ghosts S) → Custody V S g database → Rows → Type 0
  SparesFreeBlocks database custody rows = (records : Records) → form_of rows ≡ InForm records → (b : ℕ) → IsPartBlock records b → ¬ IsFree (open_custody_of custody).vault b

  -- Commands have moved it: to where it is, and a stop leaves what it may leave there.
  pub record HasMoved (database : Ghosts S) (old new : Custody V S g database) (entries : List TimedCommand) (answers : List Answer) : Type 0 where
    pub next : Place
    pub moves : AnswersAlong MovesBy (place_of database old) entries answers next
    pub is_at : IsAtPlace (is_open new) (current_records (open_custody_of new)) (image_of (open_custody_of new)) next
    pub leaves : StopLeaves database new (MayLeave next)
    pub finds : StopLeaves database new (λ rows image. (state : State) × StandsFor rows image state × IsStateAfter (state_of_custody database old) entries answers state)
    -- what a stop could leave at each moment before stays so
    pub past : KeepsPast (open_custody_of old) (open_custody_of new)
    -- no transaction is open, whether it is closed or not
    pub mode : (store_state_of database (open_custody_of new)).in_transaction ≡ false
    pub serves : is_open new ≡ true → IsServing database new

  -- where the database was honest to the end, commands in order move an open custody
  abbrev pub RunsMove : (database : Ghosts S) → (old new : Custody V S g database) → Type 0
  RunsMove database old new = IsServing database old → (store_state_of database (open_custody_of new)).IsHonest → (entries : List TimedCommand) (answers : List (Result Reply not_accepted.Refused)) → HasRun old entries answers new → HasMoved database old new entries (answers_of entries answers)

  -- a stop at any moment within a command, after others
  abbrev pub StopsMove : (database : Ghosts S) → (old mid new : Custody V S g database) → Type 0
  StopsMove database old mid new = IsServing database old → (store_state_of database (open_custody_of new)).IsHonest → (entries : List TimedCommand) (answers : List (Result Reply not_accepted.Refused)) → HasRun old entries answers mid
      → (command : Command) (now : ℕ) (answer : Result Reply not_accepted.Refused) → HasApplied mid command now answer new
      → (rows : Rows) (image : List ℕ) (pair : Pair) → (store_state_of database (open_custody_of mid)).may_leave rows → MayLeaveImageSince (open_custody_of mid) (open_custody_of new) image → Finds rows image pair
      → MovesAlong (place_of database old) (answer_events entries (answers_of entries answers) ++ StoppedWithin command now pair ∷ []) (Left rows image)

-- ---- sessions

-- From an opening of rows and an image to the end of commands: the moves, and what a stop may leave then.
pub record IsSession (rows : Rows) (image : List ℕ) (entries : List TimedCommand) (answers : List Answer) (rows_left : Rows → Type 0) (images_left : List ℕ → Type 0) : Type 0 where
  -- each command is answered
  pub answered : length answers ≡ length entries
  pub first : State
  pub stands : StandsFor rows image first
  pub end : Place
  pub moves : (pair : Pair) → Finds rows image pair → MovesAlong (Left rows image) (OpenedWith pair (Opened first) ∷ answer_events entries answers) end
  pub leaves : (r : Rows) (j : List ℕ) → rows_left r → images_left j → MayLeave end r j
  pub finds : (r : Rows) (j : List ℕ) → rows_left r → images_left j → (state : State) × StandsFor r j state × IsStateAfter first entries answers state

-- An opening that failed: why, and what a stop may leave then.
pub record IsNotOpened (rows : Rows) (image : List ℕ) (failure : Failure) (rows_left : Rows → Type 0) (images_left : List ℕ → Type 0) : Type 0 where
  pub cause : MayNotOpen rows image failure
  pub leaves : (r : Rows) (j : List ℕ) → rows_left r → images_left j → MayLeave (Left rows image) r j

-- A session over rows and an image, a stop that left others, and an opening of those: it gives the records and the image.
pub record IsReopened (rows : Rows) (image : List ℕ) (entries : List TimedCommand) (answers : List Answer) (left : Rows) (records : Records) (later : List ℕ) : Type 0 where
  pub answered : length answers ≡ length entries
  pub first : State
  pub stands : StandsFor rows image first
  -- the state is that after the commands that were accepted, in order, and then at most the one in doubt
  pub state : IsStateAfter first entries answers (state_in records later)
  -- each part has its digest, where each had it before
  pub sound : IsSound rows image → HasDigests later records
  -- and these are moves, so that the laws of histories hold of them
  pub moves : (before then : Pair) → Finds rows image before → Finds left later then
      → MovesAlong (Left rows image) ((OpenedWith before (Opened first) ∷ answer_events entries answers) ++ StoppedAtRest then ∷ OpenedWith then (Opened (state_in records later)) ∷ []) (Serving records later)

-- ---- a whole life

module _ {V S : Type 0} {g : volume.Ghosts V} where
  -- A custody that was begun, did commands, and was opened again after a stop.
  pub record IsResumed (database : Ghosts S) (entries : List TimedCommand) (answers : List Answer) (custody : Custody V S g database) : Type 0 where
    -- each command is answered
    pub answered : length answers ≡ length entries
    -- from nothing, the state is that after the commands that were accepted, in order, and then at most the one in doubt
    pub state : IsStateAfter empty entries answers (state_of_custody database custody)
    -- each part has its digest
    pub sound : HasDigests (image_of (open_custody_of custody)) (current_records (open_custody_of custody))
    -- and it serves
    pub serves : IsServing database custody

-- ---- from any place on, whatever was before

-- A stop at rest leaves what its place may leave.
abbrev pub MayStopAtRest : Type 0
MayStopAtRest = (start place : Place) (events : List Event) → MovesAlong start events place → (rows : Rows) (image : List ℕ) (pair : Pair) → MayLeave place rows image → Finds rows image pair
    → MovesAlong start (events ++ StoppedAtRest pair ∷ []) (Left rows image)

-- A session over what a stop has left goes on from there.
abbrev pub SessionsGoOn : (rows_left : Rows → Type 0) → (images_left : List ℕ → Type 0) → Type 0
SessionsGoOn rows_left images_left = (start : Place) (events : List Event) (rows : Rows) (image : List ℕ) → MovesAlong start events (Left rows image) → (pair : Pair) → Finds rows image pair
    → (entries : List TimedCommand) (answers : List Answer) (session : IsSession rows image entries answers rows_left images_left)
    → MovesAlong start (events ++ OpenedWith pair (Opened session.first) ∷ answer_events entries answers) session.end

-- And an opening that failed can be tried again, over what it has left.
abbrev pub OpeningsMayFail : (rows_left : Rows → Type 0) → (images_left : List ℕ → Type 0) → Type 0
OpeningsMayFail rows_left images_left = (start : Place) (events : List Event) (rows : Rows) (image : List ℕ) → MovesAlong start events (Left rows image) → (pair : Pair) → Finds rows image pair
    → (failure : Failure) → IsNotOpened rows image failure rows_left images_left → (left : Rows) (later : List ℕ) → rows_left left → images_left later
    → MovesAlong start (events ++ OpenedWith pair (NotOpened failure) ∷ []) (Left left later)
