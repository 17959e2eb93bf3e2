-- What may happen to a custody that is served over HTTP: requests by their bytes, with what was written of each response (RFC 9110, section 3), stops and openings.
use Rattle.std.specs.Prelude.{◌≡◌, ◌⊎◌, ◌≤◌, ℕ, List, [], ◌∷◌, length, take, Option, None, Some, if◌then◌else◌, Result, Err, bytes_eq}
use Rattle.std.specs.List.{filter_map}
use Rattle.custody_records.specs.Records.{Records}
use Rattle.custody_machine.specs.declared.answers.Failure.TheVariants.{Closed}
use Rattle.custody_machine.specs.State.{State}
use Rattle.custody_machine.specs.Machine as machine
use Rattle.custody_machine.specs.Machine.{TimedCommand, after}
use Rattle.custody_machine.specs.History as history
use Rattle.custody_machine.specs.History.{Answered, AnsweredOtherCall, ShutDown, StoppedAtRest}
use Rattle.custody_machine.specs.Moves.{Place, Serving, Shut, Left, Moves, IsBegun}
use Rattle.custody_machine.specs.Custody.{other_call_event}
use Rattle.custody.specs.declared.answers.Refused as not_accepted
use Rattle.custody.specs.declared.answers.Refused.TheVariants as refused
use Rattle.custody.specs.declared.explanation.Explanation.{Explanation}
use Rattle.custody.specs.Answers.{stays_open}
use Rattle.custody.specs.Explaining.{IsExplained}
use Rattle.custody.specs.Fetching.{IsFetched}
use Rattle.http_request.specs.declared.faults.RequestFault.TheVariants as fault
use Rattle.http_request.specs.RequestMeaning.{RequestMeaning, RequestMeans, SendsPart, asks_for, bad}
use Rattle.http_request.specs.Action as action
use Rattle.http_request.specs.Action.{RequestAction, Do, Report, Explain, Due, Digests, Fetch}
use Rattle.http_api.specs.Responses.{HttpResponse, response_bytes}
use Rattle.http_api.specs.Handling.{IsExplanationTold, failure_response, fault_response, fetch_response, no_memory_response, records_due, records_state, registry_digests, registry_report}
use Rattle.theorems.specs.Responses.{response_to}

-- ---- events

-- a request, and what came of it
pub record Exchange : Type 0 where
  -- all the bytes that the reader gives
  pub input : List ℕ
  -- the moment at which it is served
  pub now : ℕ
  -- what the custody did for it, if anything
  pub did : Option history.Event
  pub answer : HttpResponse
  -- what was written of the response: all of it, a beginning, or nothing
  pub written : List ℕ

pub data ServiceEvent : Type 0 where
  Exchanged : Exchange → ServiceEvent
  -- The reader failed before a request with these bytes had come, and nothing was written.
  Unread : (input : List ℕ) → (did : Option history.Event) → ServiceEvent
  -- The service was stopped within what it did for a request, and nothing was written.
  StoppedInRequest : (input : List ℕ) → (now : ℕ) → (stop : history.Event) → ServiceEvent
  -- What no request does: a stop at rest, or while a response is written; an opening, a closing; a call by the command line.
  OutsideRequest : history.Event → ServiceEvent

-- what happened to the custody
abbrev pub custody_event : ServiceEvent → Option history.Event
custody_event (Exchanged x) = x.did
custody_event (Unread input did) = did
custody_event (StoppedInRequest input now stop) = Some stop
custody_event (OutsideRequest event) = Some event

abbrev pub custody_events : List ServiceEvent → List history.Event
custody_events = filter_map custody_event

-- the commands found in a history of a service, and the state after them
abbrev pub found_by_service : State → List ServiceEvent → List TimedCommand
found_by_service first events = history.found first (custody_events events)

abbrev pub state_by_service : State → List ServiceEvent → State
state_by_service first events = after first (found_by_service first events)

-- where the whole response was written
abbrev pub delivered_exchange : ServiceEvent → Option Exchange
delivered_exchange (Exchanged x) = if bytes_eq x.written (response_bytes x.answer) then Some x else None
delivered_exchange (Unread input did) = None
delivered_exchange (StoppedInRequest input now stop) = None
delivered_exchange (OutsideRequest event) = None

-- the requests that were answered by a whole response, in their order
abbrev pub delivered_exchanges : List ServiceEvent → List Exchange
delivered_exchanges = filter_map delivered_exchange

-- ---- what a request does, and what answers it

-- no command: nothing, or, of a request that sends a part, a receiving that ends before all the bytes came
abbrev pub IsNoCommandEvent : List ℕ → Option history.Event → Type 0
IsNoCommandEvent input None = Unit {0}
IsNoCommandEvent input (Some AnsweredOtherCall) = SendsPart input
IsNoCommandEvent input (Some ShutDown) = SendsPart input
IsNoCommandEvent input (Some _) = ⊥

-- what the records tell, from the place where the custody is
abbrev pub TellsRecords : Place → (Records → HttpResponse) → HttpResponse → Type 0
TellsRecords (Serving records image) told answer = answer ≡ told records
TellsRecords (Shut records image doubt) told answer = answer ≡ failure_response Closed
TellsRecords (Left rows image) told answer = ⊥

-- a part of a release, or why it is not handed over
abbrev pub FetchesPart : Place → (reference name : List ℕ) → Result (List ℕ) not_accepted.Refused → Type 0
FetchesPart (Serving records image) reference name r = IsFetched records image reference name r
FetchesPart (Shut records image doubt) reference name r = r ≡ Err (refused.Failure Closed)
FetchesPart (Left rows image) reference name r = ⊥

-- why a revision has failed, or why it is not told
abbrev pub ExplainsRevision : Place → (tld : List ℕ) → (day rev : ℕ) → Result Explanation not_accepted.Refused → Type 0
ExplainsRevision (Serving records image) tld day rev r = IsExplained records image tld day rev r
ExplainsRevision (Shut records image doubt) tld day rev r = r ≡ Err (refused.Failure Closed)
ExplainsRevision (Left rows image) tld day rev r = ⊥

-- what is wanted is done, and answered
abbrev pub IsPerformedIn : RequestAction → Place → Exchange → Type 0
IsPerformedIn (Do command) place x = (told : machine.Answer) × (x.did ≡ Some (Answered command x.now told)) × (x.answer ≡ response_to told)
IsPerformedIn (Report tld) place x = (x.did ≡ None) × TellsRecords place (λ records. registry_report records tld) x.answer
IsPerformedIn (Explain tld day rev) place x =
    (r : Result Explanation not_accepted.Refused) × ExplainsRevision place tld day rev r
    × (x.did ≡ Some (other_call_event (stays_open r))) × IsExplanationTold r x.answer
IsPerformedIn action.State place x = (x.did ≡ None) × TellsRecords place records_state x.answer
IsPerformedIn Due place x = (x.did ≡ None) × TellsRecords place (λ records. records_due records x.now) x.answer
IsPerformedIn (Digests tld) place x = (x.did ≡ None) × TellsRecords place (λ records. registry_digests records tld) x.answer
IsPerformedIn (Fetch reference name) place x =
    (r : Result (List ℕ) not_accepted.Refused) × FetchesPart place reference name r
    × (x.did ≡ Some (other_call_event (stays_open r))) × (x.answer ≡ fetch_response r)

-- a fault of the request is answered, and no command is done
abbrev pub IsHandledIn : RequestMeaning → Place → Exchange → Type 0
IsHandledIn (bad fault.BodyShort) place x = (x.answer ≡ fault_response fault.BodyShort) × IsNoCommandEvent x.input x.did
IsHandledIn (bad found) place x = (x.answer ≡ fault_response found) × (x.did ≡ None)
IsHandledIn (asks_for wanted) place x = IsPerformedIn wanted place x

-- The bytes ask something, which is done and answered; or memory ran out before.
abbrev pub Responds : Place → Exchange → Type 0
Responds place x =
    ((asked : RequestMeaning) × RequestMeans x.input asked × IsHandledIn asked place x)
    ⊎ ((x.did ≡ None) × (x.answer ≡ no_memory_response))

-- a stop within the command that the bytes ask for, or one at which there is no command
abbrev pub IsStopWithin : List ℕ → ℕ → history.Event → Type 0
IsStopWithin input now (history.StoppedWithin command at pair) = (at ≡ now) × RequestMeans input (asks_for (Do command))
IsStopWithin input now (StoppedAtRest pair) = Unit {0}
IsStopWithin input now _ = ⊥

-- ---- histories

-- a custody is there, open or closed
abbrev pub IsUp : Place → Type 0
IsUp (Serving records image) = Unit {0}
IsUp (Shut records image doubt) = Unit {0}
IsUp (Left rows image) = ⊥

-- it stays where it is, or moves by this event
abbrev pub MovesIfAny : Place → Option history.Event → Place → Type 0
MovesIfAny old None new = new ≡ old
MovesIfAny old (Some event) new = Moves old event new

abbrev pub IsBeginning : List ℕ → List ℕ → Type 0
IsBeginning written text = (n : ℕ) × (n ≤ length text) × (written ≡ take n text)

-- an event may take one place to the next
abbrev pub ServiceMoves : Place → ServiceEvent → Place → Type 0
ServiceMoves old (Exchanged x) new = IsUp old × Responds old x × IsBeginning x.written (response_bytes x.answer) × MovesIfAny old x.did new
ServiceMoves old (Unread input did) new = IsUp old × IsNoCommandEvent input did × MovesIfAny old did new
ServiceMoves old (StoppedInRequest input now stop) new = IsUp old × IsStopWithin input now stop × Moves old stop new
ServiceMoves old (OutsideRequest event) new = Moves old event new

-- events one after the other
abbrev pub ServiceMovesAlong : Place → List ServiceEvent → Place → Type 0
ServiceMovesAlong old [] new = new ≡ old
ServiceMovesAlong old (event ∷ events) new = (next : Place) × ServiceMoves old event next × ServiceMovesAlong next events new

-- A history of a service begins in the first state, by an initialisation or an opening, or with what such a call that did not finish has left.
pub record IsServiceHistory (first : State) (events : List ServiceEvent) : Type 0 where
  pub start : Place
  pub end : Place
  pub begun : IsBegun first start
  pub along : ServiceMovesAlong start events end
