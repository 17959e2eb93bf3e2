-- What `serve_connections` of http_api does to a custody, as events of a service: each way out of it, and a stop at any moment of it.
use Rattle.std.specs.Prelude.{◌≡◌, ℕ, List, [], ◌∷◌, ◌++◌, Option, None, Some, IfSome, is_some, true, filter_map, Result, Ok, Err}
use Rattle.vault_volume.specs.declared.volume.Volume as volume
use Rattle.sqlite.specs.Held.{Held}
use Rattle.sqlite.specs.Store.{Ghosts}
use Rattle.custody_records.specs.Rows.{Rows}
use Rattle.custody_machine.specs.State.{State}
use Rattle.custody_machine.specs.History.{Pair, StoppedAtRest}
use Rattle.custody_machine.specs.Moves.{Place, Left, Finds, IsBegun}
use Rattle.custody.specs.declared.custody.Custody.{Custody}
use Rattle.custody.specs.OpenCustody.{store_state_of, MayLeaveImageSince}
use Rattle.custody.specs.Custody.{open_custody_of}
use Rattle.http_api.specs.declared.connections.ServiceError.{ServiceError}
use Rattle.http_api.specs.Clients.{IsNobodyLeft}
use Rattle.http_api.specs.Connections.{AreConnections, ConnectionsEnd, IsConnection, ServerState}
use Rattle.theorems.specs.Service.{ServiceEvent, Exchanged, Unread, StoppedInRequest, OutsideRequest, IsServiceHistory, ServiceMovesAlong}
use Rattle.theorems.specs.Requests.{IsCustodyAt}
use Rattle.theorems.specs.Lives.{IsBeginningOf}

-- ---- the events of connections

-- a request that is answered, at the moment that is given, where one is; or that breaks off
abbrev pub IsOfConnection : Option ℕ → ServiceEvent → Type 0
IsOfConnection given (Exchanged x) = IfSome given (λ moment. x.now ≡ moment)
IsOfConnection given (Unread input did) = Unit {0}
IsOfConnection given (StoppedInRequest input now stop) = ⊥
IsOfConnection given (OutsideRequest event) = ⊥

abbrev pub AreOfConnections : Option ℕ → List ServiceEvent → Type 0
AreOfConnections given [] = Unit {0}
AreOfConnections given (event ∷ events) = IsOfConnection given event × AreOfConnections given events

-- the request of which an event is
abbrev pub event_request : ServiceEvent → Option (List ℕ)
event_request (Exchanged x) = Some x.input
event_request (Unread input did) = Some input
event_request (StoppedInRequest input now stop) = Some input
event_request (OutsideRequest event) = None

-- what is written to its client
abbrev pub event_response : ServiceEvent → Option (List ℕ)
event_response (Exchanged x) = Some x.written
event_response (Unread input did) = Some []
event_response (StoppedInRequest input now stop) = Some []
event_response (OutsideRequest event) = None

-- clients with these requests have come, which are the first of those that are known
abbrev pub HaveCome : List (List ℕ) → (old new : Option (List (List ℕ))) → Type 0
HaveCome requests old new = IfSome old (λ all. (others : List (List ℕ)) × (all ≡ requests ++ others) × (new ≡ Some others))

-- and have taken these responses
abbrev pub HaveTaken : List (List ℕ) → (old new : Option (List (List ℕ))) → Type 0
HaveTaken responses old new = IfSome old (λ before. new ≡ Some (before ++ responses))

-- Events are those of a server's connections: their requests are those that have come, in order, and what is written is what the clients have taken.
pub record AreServerEvents {C : Type 0} (given : Option ℕ) (old new : ServerState C) (events : List ServiceEvent) : Type 0 where
  pub each : AreOfConnections given events
  pub requests : HaveCome (filter_map event_request events) old.requests new.requests
  pub responses : HaveTaken (filter_map event_response events) old.responses new.responses

-- a stop within a connection: within the request of the client that comes, at its moment, or at rest where nobody comes
abbrev pub IsStopInConnection : {C : Type 0} → Option ℕ → ServerState C → Pair → ServiceEvent → Type 0
IsStopInConnection given server pair (StoppedInRequest input now stop) =
    ((others : List (List ℕ)) × (server.requests ≡ Some (input ∷ others))) × IfSome given (λ moment. now ≡ moment)
IsStopInConnection given server pair (OutsideRequest event) = IsNobodyLeft server.requests × (event ≡ StoppedAtRest pair)
IsStopInConnection given server pair (Exchanged x) = ⊥
IsStopInConnection given server pair (Unread input did) = ⊥

-- ---- the law

module _ {V S : Type 0} {g : volume.Ghosts V} {database : Ghosts S} where
  -- The ways out of `serve_connections`, in the words of its contract.
  abbrev pub ServerReturns : Option ℕ → (count : ℕ) → Result (Unit {0}) ServiceError → (old new : ServerState (Custody V S g database)) → Type 0
  ServerReturns given count (Ok done) old new = AreConnections given count old new
  ServerReturns given count (Err fault) old new = ConnectionsEnd given count fault old new

  -- A server knows the requests of its clients, and its custody is at a place.
  pub record IsServerAt (server : ServerState (Custody V S g database)) (place : Place) : Type 0 where
    pub known : is_some server.requests ≡ true
    pub there : IsCustodyAt database server.custody place

  -- The events of its connections have taken it from a place to another. Where a service begins at the first, they are a history of it.
  pub record HasMovedByConnections (given : Option ℕ) (old new : ServerState (Custody V S g database)) (place : Place) : Type 0 where
    pub events : List ServiceEvent
    pub are_events : AreServerEvents given old new events
    pub next : Place
    pub moves : ServiceMovesAlong place events next
    pub there : IsServerAt new next
    pub history : (first : State) → IsBegun first place → IsServiceHistory first events

  -- And so have those of its connections, and of a stop within the next one, to what this has left.
  pub record HasMovedByStop (given : Option ℕ) (old last : ServerState (Custody V S g database)) (place : Place) (rows : Rows) (image : List ℕ) (pair : Pair) : Type 0 where
    pub events : List ServiceEvent
    pub are_events : AreServerEvents given old last events
    pub stop : ServiceEvent
    pub is_stop : IsStopInConnection given last pair stop
    pub moves : ServiceMovesAlong place (events ++ stop ∷ []) (Left rows image)
    pub history : (first : State) → IsBegun first place → IsServiceHistory first (events ++ stop ∷ [])

  -- A custody was begun, has served clients, and is this one now: what the law supposes.
  pub record HasServedOnce (volume : V) (number : ℕ) (given : Option ℕ) (count : ℕ) (before after : Custody V S g database → ServerState (Custody V S g database)) (later : Custody V S g database) : Type 0 where
    pub db : Held S
    pub begun : Custody V S g database
    pub beginning : IsBeginningOf database volume db number begun
    pub result : Result (Unit {0}) ServiceError
    pub returns : ServerReturns given count result (before begun) (after later)
    pub honest : (store_state_of database (open_custody_of later)).IsHonest

module _ {V S : Type 0} (g : volume.Ghosts V) (database : Ghosts S) where
  -- Each way out is by events of a service.
  abbrev pub ConnectionsMove : Type 0
  ConnectionsMove = (given : Option ℕ) (count : ℕ) (result : Result (Unit {0}) ServiceError) (old new : ServerState (Custody V S g database)) (place : Place)
      → IsServerAt old place → ServerReturns given count result old new → (store_state_of database (open_custody_of new.custody)).IsHonest
      → HasMovedByConnections given old new place

  -- And so is a stop at any moment within a connection, which would have left this.
  abbrev pub ConnectionsMayStop : Type 0
  ConnectionsMayStop = (given : Option ℕ) (count : ℕ) (old last unfinished : ServerState (Custody V S g database)) (place : Place)
      → IsServerAt old place → AreConnections given count old last → IsConnection given last unfinished → (store_state_of database (open_custody_of unfinished.custody)).IsHonest
      → (rows : Rows) (image : List ℕ) (pair : Pair) → (store_state_of database (open_custody_of last.custody)).may_leave rows
      → MayLeaveImageSince (open_custody_of last.custody) (open_custody_of unfinished.custody) image → Finds rows image pair
      → HasMovedByStop given old last place rows image pair
