-- What a client over HTTP may rely on, whenever the service is stopped, and however often it sends a request again (Specification 2, Part B).
use Rattle.std.specs.Prelude.{◌≡◌, ◌≢◌, ◌⊎◌, ℕ, List, [], ◌∷◌, ◌++◌, map, Contains, count_by, Some, is_some, true, false, Result, Ok}
use Rattle.std.specs.List.{flat_map}
use Rattle.custody_machine.specs.declared.answers.Failure.{Failure}
use Rattle.custody_machine.specs.declared.answers.Failure.TheVariants.{NoMemory, VolumeFailed, StoreFailed, Closed, Damaged}
use Rattle.custody_machine.specs.declared.answers.Refusal.TheVariants.{DroppedAfterKeeping}
use Rattle.custody_machine.specs.declared.codes.HttpStatus.TheVariants.{InternalServerError}
use Rattle.custody_machine.specs.NameReading.{read_name}
use Rattle.custody_machine.specs.State.{State, Part}
use Rattle.custody_machine.specs.Machine as machine
use Rattle.custody_machine.specs.Machine.{Command, Purge, Receive, TimedCommand, Record, after, is_dropped}
use Rattle.custody_machine.specs.History as history
use Rattle.custody_machine.specs.History.{Answered, AnsweredOtherCall, ShutDown, StoppedAtRest, OpenedWith, Opened, Pair}
use Rattle.custody_machine.specs.Moves.{Place, IsInState}
use Rattle.custody_machine.specs.FetchResult.{ReleasesName, part_named}
use Rattle.custody_machine.specs.Retries.{AsksAgain, IsDroppedSince, IsOfCommand, StillHas, first_record, has_same_key, command_key, once}
use Rattle.http_request.specs.RequestMeaning.{RequestMeaning, RequestMeans, asks_for}
use Rattle.http_request.specs.Action.{Do, Explain, Fetch}
use Rattle.custody.specs.declared.answers.Refused.{Refused}
use Rattle.custody.specs.declared.explanation.Explanation.{Explanation}
use Rattle.http_api.specs.Responses.{HttpResponse, response_bytes, text_response}
use Rattle.http_api.specs.Handling.{explanation_response, failure_response, fetch_response, refusal_response}
use Rattle.http_api.specs.declared.status.ResponseStatus.TheVariants.{Coded, Done}
use Rattle.theorems.specs.Responses.{response_to, record_text, tells_accepted, tells_failure}
use Rattle.theorems.specs.Service.{ServiceEvent, Exchange, Exchanged, Unread, StoppedInRequest, OutsideRequest, IsBeginning, IsServiceHistory, IsUp, Responds, delivered_exchanges, found_by_service, state_by_service}
use Rattle.theorems.specs.Reading.{IsExplainedInState, IsReadAsReceived}

-- a request asks for a command
abbrev pub AsksFor : Exchange → Command → Type 0
AsksFor x command = RequestMeans x.input (asks_for (Do command))

-- ---- what was told as accepted is found once

-- Taking out those that came again, exactly one command has this one's key. A purge has none, and is not looked for.
abbrev pub IsFoundOnce : List TimedCommand → Command → Type 0
IsFoundOnce entries command =
    is_some (command_key command) ≡ true → count_by (λ (entry : TimedCommand). has_same_key command entry.0) (once entries) ≡ 1

-- the body tells a record of the command, which the state still has
abbrev pub TellsKeptRecord : State → Command → HttpResponse → Type 0
TellsKeptRecord state command answer =
    (entry : Record) × (answer.body ≡ record_text entry) × IsOfCommand command entry × StillHas state entry

-- After any opening the state is that after the commands found, each of them once; and each request whose whole response told that its command is accepted is found exactly once, with the record that was told.
abbrev pub AcceptedIsFoundOnce : State → Type 0
AcceptedIsFoundOnce first = (earlier later : List ServiceEvent) (pair : Pair) (state : State)
    → IsServiceHistory first (earlier ++ OutsideRequest (OpenedWith pair (Opened state)) ∷ later)
    → (state ≡ after first (once (found_by_service first earlier)))
    × ((x : Exchange) (command : Command) → Contains (delivered_exchanges earlier) x → tells_accepted x.answer.status ≡ true → AsksFor x command
    → IsFoundOnce (found_by_service first earlier) command × TellsKeptRecord state command x.answer)

-- ---- a request that is sent again

-- one of the commands asked the same
pub record ContainsSameCommand (entries : List TimedCommand) (command : Command) : Type 0 where
  pub before : List TimedCommand
  pub entry : TimedCommand
  pub behind : List TimedCommand
  pub is : entries ≡ before ++ entry ∷ behind
  pub same : AsksAgain entry.0 command

-- failures that may come in the way of a repeat (503): want of memory, of the volume, or that one of these has closed the custody
abbrev pub MayFailAgain : Failure → Type 0
MayFailAgain NoMemory = Unit {0}
MayFailAgain VolumeFailed = Unit {0}
MayFailAgain StoreFailed = ⊥
MayFailAgain Closed = Unit {0}
MayFailAgain (Damaged damage) = ⊥

-- It is answered by 200 and such a body; or that the bytes of its part are dropped since (Q6), or by a failure.
abbrev pub IsRepeatResponse : State → Command → (List ℕ → Type 0) → HttpResponse → Type 0
IsRepeatResponse state command IsBody answer =
    ((body : List ℕ) × IsBody body × (answer ≡ text_response Done body))
    ⊎ (((answer ≡ refusal_response DroppedAfterKeeping) × IsDroppedSince state command)
    ⊎ ((failure : Failure) × MayFailAgain failure × (answer ≡ failure_response failure)))

-- the body tells the record of the first command with this one's key
abbrev pub TellsFirstRecord : State → List TimedCommand → Command → List ℕ → Type 0
TellsFirstRecord first entries command body = (made : Record) × (first_record first entries command ≡ Some made) × (body ≡ record_text made)

-- A request for what was asked by a command that is found is answered by the record of the first one with its key, and changes nothing, whatever came between, and whether that one was answered or not.
abbrev pub ServiceAnswersRepeats : State → Type 0
ServiceAnswersRepeats first = (earlier later : List ServiceEvent) (x : Exchange) (command : Command)
    → IsServiceHistory first (earlier ++ Exchanged x ∷ later) → AsksFor x command → ContainsSameCommand (found_by_service first earlier) command
    → IsRepeatResponse (state_by_service first earlier) command (TellsFirstRecord first (found_by_service first earlier) command) x.answer
    × (state_by_service first (earlier ++ Exchanged x ∷ []) ≡ state_by_service first earlier)

-- Of two requests for the same, of which the first is answered that it is accepted, the second has the same body, byte for byte, whatever came between.
abbrev pub BodiesAreTheSame : State → Type 0
BodiesAreTheSame first = (earlier between later : List ServiceEvent) (x again : Exchange) (command other : Command)
    → IsServiceHistory first (earlier ++ Exchanged x ∷ between ++ Exchanged again ∷ later)
    → AsksFor x command → AsksFor again other → AsksAgain command other → tells_accepted x.answer.status ≡ true
    → IsRepeatResponse (state_by_service first (earlier ++ Exchanged x ∷ between)) other (λ body. body ≡ x.answer.body) again.answer

-- ---- parts that are fetched

-- a request asks for a part of a release
abbrev pub AsksToFetch : Exchange → (reference name : List ℕ) → Type 0
AsksToFetch x reference name = RequestMeans x.input (asks_for (Fetch reference name))

-- Whatever stops there were, no request is answered by 500: no response tells that a part is damaged.
abbrev pub NoInternalError : State → Type 0
NoInternalError first = (earlier later : List ServiceEvent) (x : Exchange) → IsServiceHistory first (earlier ++ Exchanged x ∷ later) → x.answer.status ≢ Coded InternalServerError

-- A recorded part that is asked for is answered as it is read: by the bytes that were received, by the refusal that the state decides, or by a failure; or the custody is closed.
abbrev pub PartsAreFetched : State → Type 0
PartsAreFetched first = (earlier later : List ServiceEvent) (x : Exchange) (reference name : List ℕ) (part : Part)
    → IsServiceHistory first (earlier ++ Exchanged x ∷ later) → AsksToFetch x reference name → part_named (state_by_service first earlier) (read_name name) ≡ Some part
    → ((read : Result (List ℕ) Refused) × (x.answer ≡ fetch_response read) × IsReadAsReceived first (found_by_service first earlier) reference name read)
    ⊎ (x.answer ≡ failure_response Closed)

-- a release lists the name, and the bytes of its part are not dropped
abbrev pub ReleasesBytes : State → (reference name : List ℕ) → Type 0
ReleasesBytes state reference name = ReleasesName state reference name × (is_dropped (part_named state (read_name name)) ≡ false)

-- A part that a request was told is accepted, and that a release lists and is not dropped, is answered by 200 and the bytes that were sent, whatever came between; or a failure comes in the way (503).
abbrev pub PartsAreFetchedAsSent : State → Type 0
PartsAreFetchedAsSent first = (earlier between later : List ServiceEvent) (sent x : Exchange) (reference name bytes : List ℕ)
    → IsServiceHistory first (earlier ++ Exchanged sent ∷ between ++ Exchanged x ∷ later)
    → AsksFor sent (Receive name bytes) → tells_accepted sent.answer.status ≡ true
    → AsksToFetch x reference name → ReleasesBytes (state_by_service first (earlier ++ Exchanged sent ∷ between)) reference name
    → (x.answer ≡ fetch_response (Ok bytes)) ⊎ ((failure : Failure) × MayFailAgain failure × (x.answer ≡ failure_response failure))

-- ---- failures that are explained

-- a request asks why a revision has failed
abbrev pub AsksWhy : Exchange → (tld : List ℕ) → (day rev : ℕ) → Type 0
AsksWhy x tld day rev = RequestMeans x.input (asks_for (Explain tld day rev))

-- It is answered by the explanation of the state, by the refusal that the state decides, or by a failure; or the custody is closed.
abbrev pub RevisionsAreExplained : State → Type 0
RevisionsAreExplained first = (earlier later : List ServiceEvent) (x : Exchange) (tld : List ℕ) (day rev : ℕ)
    → IsServiceHistory first (earlier ++ Exchanged x ∷ later) → AsksWhy x tld day rev
    → ((told : Result Explanation Refused) × (x.answer ≡ explanation_response told) × IsExplainedInState (state_by_service first earlier) tld day rev told)
    ⊎ (x.answer ≡ failure_response Closed)

-- ---- a client

-- One request of a client.
pub record ClientRequest : Type 0 where
  -- what happened from when it was first sent on
  pub tries : List ServiceEvent
  -- the try whose whole response is there
  pub last : Exchange
  -- what its bytes ask
  pub asked : RequestMeaning

-- no request: a stop, an opening, a closing; and no command of anybody else
abbrev pub IsNoRequest : history.Event → Type 0
IsNoRequest AnsweredOtherCall = Unit {0}
IsNoRequest ShutDown = Unit {0}
IsNoRequest (StoppedAtRest pair) = Unit {0}
IsNoRequest (OpenedWith pair answer) = Unit {0}
IsNoRequest (Answered command now answer) = ⊥
IsNoRequest (history.StoppedWithin command now pair) = ⊥

abbrev pub AreNoRequests : List history.Event → Type 0
AreNoRequests [] = Unit {0}
AreNoRequests (event ∷ events) = IsNoRequest event × AreNoRequests events

-- a try of the request with these bytes, of which all came or a beginning, whatever came of it; or what is no request
abbrev pub IsTryOf : List ℕ → ServiceEvent → Type 0
IsTryOf input (Exchanged x) = IsBeginning x.input input
IsTryOf input (Unread sent did) = IsBeginning sent input
IsTryOf input (StoppedInRequest sent now stop) = IsBeginning sent input
IsTryOf input (OutsideRequest event) = IsNoRequest event

abbrev pub AreTriesOf : List ℕ → List ServiceEvent → Type 0
AreTriesOf input [] = Unit {0}
AreTriesOf input (event ∷ events) = IsTryOf input event × AreTriesOf input events

-- The request is sent again until a whole response has come that tells no failure.
pub record IsSent (sending : ClientRequest) : Type 0 where
  pub asks : RequestMeans sending.last.input sending.asked
  pub tries : AreTriesOf sending.last.input sending.tries
  pub whole : sending.last.written ≡ response_bytes sending.last.answer
  pub decided : tells_failure sending.last.answer.status ≡ false

abbrev pub AreSent : List ClientRequest → Type 0
AreSent [] = Unit {0}
AreSent (sending ∷ others) = IsSent sending × AreSent others

-- all that happened for it
abbrev pub request_events : ClientRequest → List ServiceEvent
request_events sending = sending.tries ++ Exchanged sending.last ∷ []

-- a moment at which it was tried
abbrev pub IsMomentOf : ServiceEvent → ℕ → Type 0
IsMomentOf (Exchanged x) moment = x.now ≡ moment
IsMomentOf (Unread input did) moment = ⊥
IsMomentOf (StoppedInRequest input now stop) moment = now ≡ moment
IsMomentOf (OutsideRequest event) moment = ⊥

abbrev pub IsMomentIn : List ServiceEvent → ℕ → Type 0
IsMomentIn [] moment = ⊥
IsMomentIn (event ∷ events) moment = IsMomentOf event moment ⊎ IsMomentIn events moment

-- an answer of the machine has the body of a response; but a purge tells each time what it dropped then
abbrev pub HasSameBody : Command → machine.Answer → HttpResponse → Type 0
HasSameBody Purge told answer = Unit {0}
HasSameBody command told answer = (response_to told).body ≡ answer.body

-- A command that is given once, without a stop, at a moment of which M holds: the machine answers it, by no failure, and with the body of a response.
pub record IsDoneOnce (command : Command) (M : ℕ → Type 0) (answer : HttpResponse) (old new : State) : Type 0 where
  pub moment : ℕ
  pub tried : M moment
  pub told : machine.Answer
  pub answers : machine.MayAnswer old command moment told new
  pub decided : tells_failure (response_to told).status ≡ false
  pub body : HasSameBody command told answer

-- a custody in this state answers so
abbrev pub IsAnsweredIn : State → Exchange → Type 0
IsAnsweredIn state x = (place : Place) × IsUp place × IsInState state place × Responds place x

-- a request that asks for no command changes nothing, and is answered as in that state
abbrev pub IsRequestDoneOnce : RequestMeaning → (ℕ → Type 0) → Exchange → State → State → Type 0
IsRequestDoneOnce (asks_for (Do command)) M x old new = IsDoneOnce command M x.answer old new
IsRequestDoneOnce _ M x old new = (new ≡ old) × IsAnsweredIn old x

-- requests sent once, in their order, each at a moment of one of its tries
abbrev pub AreRequestsDoneOnce : State → List ClientRequest → State → Type 0
AreRequestsDoneOnce old [] new = new ≡ old
AreRequestsDoneOnce old (sending ∷ others) new =
    (next : State) × IsRequestDoneOnce sending.asked (IsMomentIn (request_events sending)) sending.last old next × AreRequestsDoneOnce next others new

-- A client that sends each of its requests until it has a whole response that tells no failure, and then the next one, through whatever stops, ends in the state of these requests sent once, in that order, without a stop.
abbrev pub ClientsEndAsOnce : State → Type 0
ClientsEndAsOnce first = (sendings : List ClientRequest) (rest : List history.Event) → AreSent sendings → AreNoRequests rest
    → (lived : IsServiceHistory first (flat_map request_events sendings ++ map OutsideRequest rest))
    → (state : State) × IsInState state lived.end × AreRequestsDoneOnce first sendings state
