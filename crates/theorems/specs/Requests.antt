-- What `serve_one` of http_api does to a custody, as events of a service: each way out of it, and a stop at any moment of it.
use Rattle.std.specs.Prelude.{◌≡◌, ℕ, List, Option, Some, true, Result, Ok, Err}
use Rattle.std.specs.Io.KnownBytes.{Appends, Keeps}
use Rattle.desk.specs.Lines.{AppendsBeginning}
use Rattle.vault_volume.specs.declared.volume.Volume as volume
use Rattle.sqlite.specs.Store.{Ghosts}
use Rattle.custody_records.specs.Rows.{Rows}
use Rattle.custody_machine.specs.History as history
use Rattle.custody_machine.specs.History.{Pair, StoppedAtRest}
use Rattle.custody_machine.specs.Moves.{Place, Left, MayLeave, Finds}
use Rattle.custody_machine.specs.Custody.{IsAtPlace}
use Rattle.custody.specs.declared.custody.Custody.{Custody}
use Rattle.custody.specs.OpenCustody.{current_records, store_state_of, image_of, MayLeaveImageSince}
use Rattle.custody.specs.Custody.{open_custody_of, is_open}
use Rattle.theorems.specs.Sessions.{IsServing, StopLeaves}
use Rattle.http_api.specs.declared.handling.Served.{Served}
use Rattle.http_api.specs.declared.handling.ServeError.{ServeError}
use Rattle.http_api.specs.declared.handling.ServeError.TheVariants as failed
use Rattle.http_api.specs.Responses.{HttpResponse, response_bytes}
use Rattle.http_api.specs.Handling as served
use Rattle.http_api.specs.Handling.{IsServed}
use Rattle.theorems.specs.Service.{ServiceEvent, Exchanged, Unread, StoppedInRequest, OutsideRequest, ServiceMoves}

-- one call of `serve_one`: the bytes that its reader has, its moment, and what its writer holds before it and after it
pub record ServeCall : Type 0 where
  pub input : List ℕ
  pub now : ℕ
  pub before : Option (List ℕ)
  pub after : Option (List ℕ)

-- the event of a way out: what was written is what the writer has grown by
abbrev pub IsEventOf : ServeCall → Result Served ServeError → ServiceEvent → Type 0
IsEventOf call (Ok ended) (Exchanged x) =
    (x.input ≡ call.input) × (x.now ≡ call.now) × (x.written ≡ response_bytes x.answer) × Appends call.before call.after x.written
IsEventOf call (Err failed.Read) (Unread input did) = (input ≡ call.input) × Keeps call.before call.after
IsEventOf call (Err failed.Write) (Exchanged x) =
    (x.input ≡ call.input) × (x.now ≡ call.now) × Appends call.before call.after x.written
IsEventOf call result event = ⊥

module _ {V S : Type 0} {g : volume.Ghosts V} {database : Ghosts S} where
  -- a request was served, and answered so
  abbrev pub HasAnswered : ServeCall → (old new : Custody V S g database) → HttpResponse → Type 0
  HasAnswered call old new answer = IsServed (Some call.input) call.now old answer new

  -- The ways out of `serve_one`, in the words of its contract: the response is written, the reader failed, the writer failed.
  abbrev pub ServeReturns : ServeCall → Custody V S g database → Result Served ServeError → Custody V S g database → Type 0
  ServeReturns call old (Ok ended) new =
      (answer : HttpResponse) × HasAnswered call old new answer × Appends call.before call.after (response_bytes answer)
  ServeReturns call old (Err failed.Read) new = served.IsNoCommand (Some call.input) old new × Keeps call.before call.after
  ServeReturns call old (Err failed.Write) new =
      (answer : HttpResponse) × HasAnswered call old new answer × AppendsBeginning call.before call.after (response_bytes answer)

module _ {V S : Type 0} {g : volume.Ghosts V} where
  -- a custody is at a place, open or closed, and a stop leaves what it may leave there
  pub record IsCustodyAt (database : Ghosts S) (custody : Custody V S g database) (place : Place) : Type 0 where
    pub is_at : IsAtPlace (is_open custody) (current_records (open_custody_of custody)) (image_of (open_custody_of custody)) place
    pub leaves : StopLeaves database custody (MayLeave place)
    pub serves : is_open custody ≡ true → IsServing database custody

  -- the event of a call takes the custody from its place to another
  pub record HasMovedByCall (database : Ghosts S) (new : Custody V S g database) (place : Place) (call : ServeCall) (result : Result Served ServeError) : Type 0 where
    pub event : ServiceEvent
    pub is_event : IsEventOf call result event
    pub next : Place
    pub moves : ServiceMoves place event next
    pub there : IsCustodyAt database new next

  -- Each way out is an event of a service.
  abbrev pub RequestsMove : (database : Ghosts S) → (old new : Custody V S g database) → Type 0
  RequestsMove database old new = (place : Place) (call : ServeCall) (result : Result Served ServeError)
      → IsCustodyAt database old place → ServeReturns call old result new → (store_state_of database (open_custody_of new)).IsHonest
      → HasMovedByCall database new place call result

  -- A stop at any moment of it is one, too: until the one commit of its command, if it makes one, it is a stop within the request.
  abbrev pub RequestsMayStop : (database : Ghosts S) → (old new : Custody V S g database) → Type 0
  RequestsMayStop database old new = (place : Place) (call : ServeCall) (result : Result Served ServeError)
      → IsCustodyAt database old place → ServeReturns call old result new → (store_state_of database (open_custody_of new)).IsHonest
      → (rows : Rows) (image : List ℕ) (pair : Pair) → (store_state_of database (open_custody_of old)).may_leave rows
      → MayLeaveImageSince (open_custody_of old) (open_custody_of new) image → Finds rows image pair
      → (stop : history.Event) × ServiceMoves place (StoppedInRequest call.input call.now stop) (Left rows image)

  -- And after that, while the response is written or later, it is a stop at rest.
  abbrev pub MayStopAfterwards : (database : Ghosts S) → Custody V S g database → Type 0
  MayStopAfterwards database new = (place : Place) → IsCustodyAt database new place
      → StopLeaves database new (λ rows image. (pair : Pair) → Finds rows image pair → ServiceMoves place (OutsideRequest (StoppedAtRest pair)) (Left rows image))
