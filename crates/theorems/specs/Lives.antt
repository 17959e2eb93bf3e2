-- The life of an agent from its beginning on: calls, stops and openings, in any order.
use Rattle.std.specs.Prelude.{◌≡◌, ℕ, List, [], ◌∷◌, true, false, Result, Ok, Err, IfOk, IfErr, MatchResult}
use Rattle.vault_volume.specs.declared.volume.Volume as volume
use Rattle.vault_volume.specs.Disk.{LeavesOneImage}
use Rattle.vault_volume.specs.Vault.{volume_of}
use Rattle.sqlite.specs.Store.{Ghosts}
use Rattle.sqlite.specs.Held.{Held}
use Rattle.custody_records.specs.Rows.{Rows}
use Rattle.custody_store.specs.StoreState.{store_state, has_earlier_tables, HasKnownTables}
use Rattle.custody_machine.specs.declared.answers.Failure.{Failure}
use Rattle.custody_machine.specs.State.{State, empty}
use Rattle.custody_machine.specs.Machine.{Command, after}
use Rattle.custody_machine.specs.History.{Event, Pair, Opened, NotOpened, StoppedAtRest, OpenedWith, found}
use Rattle.custody_machine.specs.Moves.{Place, Left, Finds, Moves, MovesAlong, IsBegun, IsInState}
use Rattle.custody_machine.specs.Custody.{LeftSince}
use Rattle.custody.specs.declared.answers.Reply.{Reply}
use Rattle.custody.specs.declared.answers.Refused.{Refused}
use Rattle.custody.specs.declared.custody.Custody.{Custody}
use Rattle.custody.specs.OpenCustody.{store_state_of, MayLeaveImage, MayLeaveImageSince}
use Rattle.custody.specs.Custody.{open_custody_of}
use Rattle.custody.specs.Opening.{HasAllTables, HasAllTablesOrNone, ReportsDamage, OnlyReads, OnlyMigrates}
use Rattle.custody.specs.Calls.{HasBegun, IsBegunDurably, IsOpened, IsLoaded, IsNotOpenedFor}
use Rattle.theorems.specs.Sessions.{place_of, state_of_custody}
use Rattle.theorems.specs.Requests.{IsCustodyAt}
use Rattle.theorems.specs.CustodyCalls.{CustodyCall, Applies, IsCallEvent, IsStopWithinCall, HasCalled}

module _ {V S : Type 0} (g : volume.Ghosts V) (database : Ghosts S) where
  -- ---- openings

  -- What a restart shows: a volume with this image, settled; and a database at rest with these rows, in the tables of a schema.
  pub record IsRestart (volume : V) (db : Held S) (rows : Rows) (image : List ℕ) : Type 0 where
    pub image_is : g.image volume ≡ image
    pub settled : LeavesOneImage (g.image volume) (g.left_at volume (g.moment volume))
    pub rows_are : (store_state database db).rows ≡ rows
    pub tables : HasAllTables (store_state database db)

  -- a custody; or why there is none, and the volume and the database that are handed back
  abbrev pub OpenResult : Type 0
  OpenResult = Result (Custody V S g database) (Failure × V × Held S)

  -- the volume after an opening, and the database
  abbrev pub volume_after : OpenResult → V
  volume_after (Ok custody) = volume_of (open_custody_of custody).vault
  volume_after (Err e) = e.1

  abbrev pub database_after : OpenResult → Held S
  database_after (Ok custody) = (open_custody_of custody).store
  database_after (Err e) = e.2

  -- An opening, in the words of its contract.
  pub record HasOpened (volume : V) (db : Held S) (result : OpenResult) : Type 0 where
    pub opened : IfOk result (λ custody. IsOpened g database volume db custody)
    pub loaded : IfOk result (λ custody. IsLoaded g database volume db custody)
    pub cause : IfErr result (λ e. IsNotOpenedFor g database volume db e.0 e.1 e.2)
    pub damaged : HasKnownTables (store_state database db) → IfErr result (λ e. (store_state database e.2).IsHonest → ReportsDamage g.tells (store_state database db).rows (g.image volume) e.0)
    pub reads : has_earlier_tables (store_state database db) ≡ false → OnlyReads g database volume db (volume_after result) (database_after result) result
    pub migrates : has_earlier_tables (store_state database db) ≡ true → OnlyMigrates g database volume db (volume_after result) (database_after result) result

  -- A custody that was opened over what a restart shows is at its place, and the opening has moved it there.
  pub record HasMovedByOpening (rows : Rows) (image : List ℕ) (custody : Custody V S g database) : Type 0 where
    pub moves : (pair : Pair) → Finds rows image pair → Moves (Left rows image) (OpenedWith pair (Opened (state_of_custody database custody))) (place_of database custody)
    pub there : IsCustodyAt database custody (place_of database custody)

  -- One that failed has moved to what a stop may leave after it.
  abbrev pub HasMovedByFailedOpening : Rows → List ℕ → Failure × V × Held S → Type 0
  HasMovedByFailedOpening rows image e = (left : Rows) (later : List ℕ) → (store_state database e.2).may_leave left → g.left_at e.1 (g.moment e.1) later
      → (pair : Pair) → Finds rows image pair → Moves (Left rows image) (OpenedWith pair (NotOpened e.0)) (Left left later)

  -- Each opening over what a restart shows is a move.
  abbrev pub OpeningsMove : V → Held S → OpenResult → Type 0
  OpeningsMove volume db result = (rows : Rows) (image : List ℕ) → IsRestart volume db rows image → HasOpened volume db result → (store_state database (database_after result)).IsHonest
      → MatchResult result (HasMovedByOpening rows image) (HasMovedByFailedOpening rows image)

  -- And so is a stop at any moment within it.
  abbrev pub OpeningsMayStop : V → Held S → OpenResult → Type 0
  OpeningsMayStop volume db result = (rows : Rows) (image : List ℕ) → IsRestart volume db rows image → HasOpened volume db result
      → (left : Rows) (later : List ℕ) (pair : Pair) → (store_state database db).may_leave left → LeftSince g.moment g.left_at volume (volume_after result) later → Finds left later pair
      → Moves (Left rows image) (StoppedAtRest pair) (Left left later)

-- ---- steps, and their events

-- an agent between two steps: a custody, or none, where a stop or an opening that failed has left this
pub data Agent (C : Type 0) : Type 0 where
  Up : C → Agent C
  Down : Rows → (image : List ℕ) → Agent C

pub data LifeStep : Type 0 where
  Calls : CustodyCall → LifeStep
  -- a stop within a call that would have answered so
  StopsWithin : CustodyCall → LifeStep
  -- a stop between two calls
  StopsAtRest : LifeStep
  Opens : LifeStep
  DoesNotOpen : Failure → LifeStep
  -- a stop within an opening
  StopsInOpening : LifeStep

abbrev pub IsStepEvent : LifeStep → Event → Type 0
IsStepEvent (Calls call) event = IsCallEvent call event
IsStepEvent (StopsWithin call) event = (pair : Pair) × IsStopWithinCall call pair event
IsStepEvent StopsAtRest event = (pair : Pair) × (event ≡ StoppedAtRest pair)
IsStepEvent Opens event = (pair : Pair) × (state : State) × (event ≡ OpenedWith pair (Opened state))
IsStepEvent (DoesNotOpen failure) event = (pair : Pair) × (event ≡ OpenedWith pair (NotOpened failure))
IsStepEvent StopsInOpening event = (pair : Pair) × (event ≡ StoppedAtRest pair)

-- one event a step
abbrev pub AreStepEvents : List LifeStep → List Event → Type 0
AreStepEvents [] [] = Unit {0}
AreStepEvents [] (event ∷ events) = ⊥
AreStepEvents (step ∷ steps) [] = ⊥
AreStepEvents (step ∷ steps) (event ∷ events) = IsStepEvent step event × AreStepEvents steps events

module _ {V S : Type 0} {g : volume.Ghosts V} where
  -- ---- a beginning

  -- An initialisation has begun a custody, in the words of its contract, and the database was honest to its end.
  pub record IsBeginningOf (database : Ghosts S) (volume : V) (db : Held S) (number : ℕ) (custody : Custody V S g database) : Type 0 where
    pub begun : HasBegun g database volume db number custody
    pub durable : IsBegunDurably g database volume db custody
    pub tables : HasAllTablesOrNone (store_state database db)
    pub honest : (store_state_of database (open_custody_of custody)).IsHonest

  -- it is at its place, in the empty state
  abbrev pub BeginsEmpty : (database : Ghosts S) → Custody V S g database → Type 0
  BeginsEmpty database custody = IsBegun empty (place_of database custody) × IsCustodyAt database custody (place_of database custody)

  -- ---- a life

  -- A step takes the agent on, in the words of the contracts: a call is made of a custody; a stop leaves what volume and database may leave then; an opening is tried over what a restart shows of that. The database is honest.
  abbrev pub AgentGoes : (database : Ghosts S) → Agent (Custody V S g database) → LifeStep → Agent (Custody V S g database) → Type 0
  AgentGoes database (Up old) (Calls call) (Up new) = HasCalled old call new × (store_state_of database (open_custody_of new)).IsHonest
  AgentGoes database (Up old) (StopsWithin call) (Down rows image) = (unfinished : Custody V S g database) × HasCalled old call unfinished × (store_state_of database (open_custody_of unfinished)).IsHonest
      × (store_state_of database (open_custody_of old)).may_leave rows × MayLeaveImageSince (open_custody_of old) (open_custody_of unfinished) image
  AgentGoes database (Up old) StopsAtRest (Down rows image) = (store_state_of database (open_custody_of old)).may_leave rows × MayLeaveImage (open_custody_of old) image
  AgentGoes database (Down rows image) Opens (Up custody) = (volume : V) × (db : Held S) × IsRestart g database volume db rows image × HasOpened g database volume db (Ok custody)
      × (store_state_of database (open_custody_of custody)).IsHonest
  AgentGoes database (Down rows image) (DoesNotOpen failure) (Down left later) = (volume : V) × (db : Held S) × (volume_then : V) × (db_then : Held S) × IsRestart g database volume db rows image
      × HasOpened g database volume db (Err (failure, volume_then, db_then)) × (store_state database db_then).IsHonest × (store_state database db_then).may_leave left × g.left_at volume_then (g.moment volume_then) later
  AgentGoes database (Down rows image) StopsInOpening (Down left later) = (volume : V) × (db : Held S) × (unfinished : OpenResult g database) × IsRestart g database volume db rows image
      × HasOpened g database volume db unfinished × (store_state database db).may_leave left × LeftSince g.moment g.left_at volume (volume_after g database unfinished) later
  AgentGoes database old step new = ⊥

  -- steps one after the other
  abbrev pub AgentGoesAlong : (database : Ghosts S) → Agent (Custody V S g database) → List LifeStep → Agent (Custody V S g database) → Type 0
  AgentGoesAlong database old [] new = new ≡ old
  AgentGoesAlong database old (step ∷ steps) new = (next : Agent (Custody V S g database)) × AgentGoes database old step next × AgentGoesAlong database next steps new

  -- where the agent is
  abbrev pub IsAgentAt : (database : Ghosts S) → Agent (Custody V S g database) → Place → Type 0
  IsAgentAt database (Up custody) place = IsCustodyAt database custody place
  IsAgentAt database (Down rows image) place = place ≡ Left rows image

  -- The steps are the events of a history from the first state, which has led the agent to where it is; and that is the state after the commands found, with each held part's digest.
  pub record HasLived (database : Ghosts S) (first : State) (start : Place) (steps : List LifeStep) (agent : Agent (Custody V S g database)) : Type 0 where
    pub events : List Event
    pub are_events : AreStepEvents steps events
    pub place : Place
    pub moves : MovesAlong start events place
    pub there : IsAgentAt database agent place
    pub state : IsInState (after first (found first events)) place

  -- so it is after whatever steps
  abbrev pub LivesOn : (database : Ghosts S) → State → Place → Agent (Custody V S g database) → Type 0
  LivesOn database first start agent = (steps : List LifeStep) (later : Agent (Custody V S g database)) → AgentGoesAlong database agent steps later → HasLived database first start steps later

  -- A custody was begun, given a command, stopped at rest and opened again, and is this one now: a life of three steps.
  pub record HasLivedOnce (database : Ghosts S) (volume : V) (number : ℕ) (command : Command) (now : ℕ) (later : Custody V S g database) : Type 0 where
    pub db : Held S
    pub begun : Custody V S g database
    pub answer : Result Reply Refused
    pub beginning : IsBeginningOf database volume db number begun
    pub goes : AgentGoesAlong database (Up begun) (Calls (Applies command now answer) ∷ StopsAtRest ∷ Opens ∷ []) (Up later)

module _ {V S : Type 0} (g : volume.Ghosts V) (database : Ghosts S) where
  -- of any agent that begins in a state
  abbrev pub AgentsLiveOn : Type 0
  AgentsLiveOn = (first : State) (start : Place) (agent : Agent (Custody V S g database)) → IsBegun first start → IsAgentAt database agent start → LivesOn database first start agent
