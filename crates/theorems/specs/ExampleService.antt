-- Three histories of a service, written out by the bytes of its requests, so that the laws of clients speak of something. In each a client that is alone has all that done which is done in the life of a custody (ExampleLife), and asks why its deposit has failed; and the service is stopped while it handles the part: before the commit, after it, or while the response is written.
use Rattle.std.specs.Prelude.{◌≡◌, ℕ, List, [], ◌∷◌, ◌++◌, map, Contains, Option, Some, None, Bool, true, false, codes, Ok}
use Rattle.std.specs.List.{flat_map}
use Rattle.deposit_name.specs.declared.kinds.Kind.TheVariants.{Full}
use Rattle.desk.specs.declared.checks.Check.TheVariants.{Frame}
use Rattle.desk.specs.declared.grounds.Ground.TheVariants.{Operator}
use Rattle.desk.specs.declared.notices.NoticeKind.TheVariants.{Failure, Absence}
use Rattle.envelope.specs.declared.frame.FrameError.TheVariants.{Head}
use Rattle.deposit_verify.specs.declared.reason.Reason.TheVariants as reason
use Rattle.custody_records.specs.Records.{Notice}
use Rattle.custody_machine.specs.State.{State, Part, Held, empty}
use Rattle.custody_machine.specs.Machine.{Command, Register, Receive, Statement, Check, Release, Hold, Lift, Purge, Record, OfRegistry, OfPart, OfNotice, OfRelease, OfHold, OfLifting, OfPurge, Reply, Accepted, TimedCommand, state_with_registry, state_with_part}
use Rattle.custody_machine.specs.History as history
use Rattle.custody_machine.specs.History.{Answered, AnsweredOtherCall, StoppedAtRest, StoppedWithin, OpenedWith, Opened}
use Rattle.custody_machine.specs.Examples.{pair_of}
use Rattle.custody_machine.specs.ExampleLife.{clock_moment, example_tld, example_file_name, example_part_key, example_statement, example_notice_key, new_reply}
use Rattle.custody.specs.declared.explanation.Explanation.{Explanation}
use Rattle.http_request.specs.declared.faults.RequestFault.TheVariants as fault
use Rattle.http_request.specs.RequestMeaning.{asks_for}
use Rattle.http_request.specs.Action.{Do, Explain, Fetch}
use Rattle.http_api.specs.declared.status.ResponseStatus.{ResponseStatus}
use Rattle.http_api.specs.declared.status.ResponseStatus.TheVariants.{Created, Done}
use Rattle.http_api.specs.Responses.{HttpResponse, response_bytes}
use Rattle.http_api.specs.Handling.{explanation_response, fault_response, fetch_response}
use Rattle.theorems.specs.Responses.{response_to, tells_accepted}
use Rattle.theorems.specs.Service.{Exchange, ServiceEvent, Exchanged, Unread, StoppedInRequest, OutsideRequest, IsServiceHistory, delivered_exchanges, found_by_service}
use Rattle.theorems.specs.Clients.{AsksFor, ClientRequest, AreSent, IsFoundOnce, request_events}

-- ---- the bytes that are sent

-- a registry whose first day is 2026-08-02
abbrev pub registration_request : List ℕ
registration_request = codes "PUT /registries/example HTTP/1.1\r\nContent-Length: 22\r\n\r\n{\"first\":\"2026-08-02\"}"

-- a part of five bytes, with those of them that come
abbrev pub part_request : List ℕ → List ℕ
part_request body = codes "PUT /deposits/example_2026-08-02_full_S1_R0.ryde HTTP/1.1\r\nContent-Length: 5\r\n\r\n" ++ body

-- that this part is all of the deposit
abbrev pub statement_request : List ℕ
statement_request = codes "POST /statements HTTP/1.1\r\nContent-Length: 83\r\n\r\n{\"date\":\"2026-08-02\",\"id\":\"X\",\"kind\":\"full\",\"parts\":1,\"revision\":0,\"tld\":\"example\"}"

-- why it has failed
abbrev pub reasons_request : List ℕ
reasons_request = codes "GET /reasons/example/2026-08-02/0 HTTP/1.1\r\n\r\n"

-- the deposit of the next day was not received
abbrev pub check_request : List ℕ
check_request = codes "POST /checks/example/2026-08-03 HTTP/1.1\r\nContent-Length: 0\r\n\r\n"

-- what is held is released as the operator asks
abbrev pub release_request : List ℕ
release_request = codes "PUT /releases/R-1 HTTP/1.1\r\nContent-Length: 37\r\n\r\n{\"ground\":\"operator\",\"tld\":\"example\"}"

-- the day is on hold
abbrev pub hold_request : List ℕ
hold_request = codes "PUT /holds/H-1 HTTP/1.1\r\nContent-Length: 37\r\n\r\n{\"date\":\"2026-08-02\",\"tld\":\"example\"}"

-- the part is fetched under the release
abbrev pub fetch_request : List ℕ
fetch_request = codes "GET /releases/R-1/example_2026-08-02_full_S1_R0.ryde HTTP/1.1\r\n\r\n"

-- the hold is lifted
abbrev pub lift_request : List ℕ
lift_request = codes "POST /lifts/H-1 HTTP/1.1\r\nContent-Length: 0\r\n\r\n"

-- parts of which the year is over are dropped
abbrev pub purge_request : List ℕ
purge_request = codes "POST /purges HTTP/1.1\r\nContent-Length: 0\r\n\r\n"

-- ---- the records that are made

-- the part, with its bytes
abbrev pub example_part : Part
example_part = record { kind = Full; received = clock_moment 20_667 10 0; content = Held (codes "hello") }

-- the five bytes are no frame, so the deposit fails the first check
abbrev pub example_failure_notice : Notice
example_failure_notice = record { day = 20_667; at = clock_moment 20_667 10 5; kind = Failure 0 (codes "X") Frame }

-- it is recorded
abbrev pub example_failure : Record
example_failure = OfNotice (example_notice_key 1) example_failure_notice

-- they do not begin as one
abbrev pub example_explanation : Explanation
example_explanation = record { check = Frame; reason = Some (reason.Frame Head); passed_on = None }

-- the next day has no deposit
abbrev pub example_absence : Record
example_absence = OfNotice (example_notice_key 2) (record { day = 20_668; at = clock_moment 20_670 0 0; kind = Absence })

-- the release lists the part
abbrev pub example_release : Record
example_release = OfRelease (codes "R-1") (record { tld = example_tld; reason = Operator; at = clock_moment 20_670 3 0; names = example_file_name ∷ [] })

-- the hold, until it is lifted
abbrev pub example_hold : Record
example_hold = OfHold (codes "H-1") (record { tld = example_tld; day = 20_667; at = clock_moment 21_032 9 0; lifted = None })

-- its lifting
abbrev pub example_lifting : Record
example_lifting = OfLifting (codes "H-1") (clock_moment 21_033 9 0)

-- the state before the part
abbrev pub state_of_registry : State
state_of_registry = state_with_registry empty example_tld 20_667

-- the state with it
abbrev pub state_of_part : State
state_of_part = state_with_part state_of_registry example_part_key example_part

-- ---- requests, and what came of them

-- one whose whole response was written
abbrev pub whole_exchange : List ℕ → ℕ → Option history.Event → HttpResponse → Exchange
whole_exchange input now did answer = record { input = input; now = now; did = did; answer = answer; written = response_bytes answer }

-- one by which a command is accepted
abbrev pub accepted_exchange : List ℕ → Command → ℕ → Reply → Exchange
accepted_exchange input command now reply = whole_exchange input now (Some (Answered command now (Accepted reply))) (response_to (Accepted reply))

-- a request that is sent once, and makes a new record
abbrev pub command_request : List ℕ → Command → ℕ → Record → ClientRequest
command_request input command now entry = record { tries = []; last = accepted_exchange input command now (new_reply entry); asked = asks_for (Do command) }

-- the command that the part is
abbrev pub receive_hello : Command
receive_hello = Receive example_file_name (codes "hello")

-- the record that it makes
abbrev pub part_record : Record
part_record = OfPart example_part_key example_part

-- First the reader fails within its head; then it comes without its last bytes (A9).
abbrev pub part_begun : List ServiceEvent
part_begun =
    Unread (codes "PUT /dep") None
    ∷ Exchanged (whole_exchange (part_request (codes "he")) (clock_moment 20_667 9 58) (Some AnsweredOtherCall) (fault_response fault.BodyShort))
    ∷ []

-- the service is started again, and opens in a state
abbrev pub opening_in : State → ServiceEvent
opening_in state = OutsideRequest (OpenedWith (pair_of state) (Opened state))

-- it is stopped within the command of the part, and opens in this state
abbrev pub part_stopped : ℕ → State → List ServiceEvent
part_stopped now state = StoppedInRequest (part_request (codes "hello")) now (StoppedWithin receive_hello now (pair_of state)) ∷ opening_in state ∷ []

-- the part is recorded, and only the beginning of the response is written before a stop
abbrev pub part_response_lost : List ServiceEvent
part_response_lost =
    Exchanged (record (accepted_exchange (part_request (codes "hello")) receive_hello (clock_moment 20_667 10 0) (new_reply part_record)) { written = codes "HTTP/1.1 201" })
    ∷ OutsideRequest (StoppedAtRest (pair_of state_of_part))
    ∷ opening_in state_of_part
    ∷ []

-- after such events it is answered at last
abbrev pub part_answered : List ServiceEvent → ℕ → Bool → ClientRequest
part_answered events now is_repeat = record {
  tries = part_begun ++ events;
  last = accepted_exchange (part_request (codes "hello")) receive_hello now (record { entry = part_record; is_repeat = is_repeat });
  asked = asks_for (Do receive_hello);
}

-- Before the stop nothing was recorded: it is recorded now (201).
abbrev pub part_stopped_before : ClientRequest
part_stopped_before = part_answered (part_stopped (clock_moment 20_667 9 59) state_of_registry) (clock_moment 20_667 10 0) false

-- Before the stop it was recorded, and that record is answered (200).
abbrev pub part_stopped_after : ClientRequest
part_stopped_after = part_answered (part_stopped (clock_moment 20_667 10 0) state_of_part) (clock_moment 20_667 10 1) true

-- The same, where the stop came while the response was written.
abbrev pub part_unanswered : ClientRequest
part_unanswered = part_answered part_response_lost (clock_moment 20_667 10 1) true

-- the bytes of the part are fetched
abbrev pub fetching_request : ClientRequest
fetching_request = record {
  tries = [];
  last = whole_exchange fetch_request (clock_moment 21_033 8 0) (Some AnsweredOtherCall) (fetch_response (Ok (codes "hello")));
  asked = asks_for (Fetch (codes "R-1") example_file_name);
}

-- The statement is sent after a stop between two requests, which leaves the part.
abbrev pub statement_after_stop : ClientRequest
statement_after_stop = record (command_request statement_request (Statement example_statement) (clock_moment 20_667 10 5) example_failure) { tries = OutsideRequest (StoppedAtRest (pair_of state_of_part)) ∷ opening_in state_of_part ∷ [] }

-- why the deposit has failed is asked
abbrev pub explaining_request : ClientRequest
explaining_request = record {
  tries = [];
  last = whole_exchange reasons_request (clock_moment 20_667 10 6) (Some AnsweredOtherCall) (explanation_response (Ok example_explanation));
  asked = asks_for (Explain example_tld 20_667 0);
}

-- what is sent behind it: while the day is on hold, a purge drops nothing
abbrev pub later_requests : List ClientRequest
later_requests =
    explaining_request
    ∷ command_request check_request (Check example_tld 20_668) (clock_moment 20_670 0 0) example_absence
    ∷ command_request release_request (Release (codes "R-1") example_tld Operator) (clock_moment 20_670 3 0) example_release
    ∷ command_request hold_request (Hold (codes "H-1") example_tld 20_667) (clock_moment 21_032 9 0) example_hold
    ∷ command_request purge_request Purge (clock_moment 21_033 0 0) (OfPurge 0)
    ∷ fetching_request
    ∷ command_request lift_request (Lift (codes "H-1")) (clock_moment 21_033 9 0) example_lifting
    ∷ command_request purge_request Purge (clock_moment 21_033 10 0) (OfPurge 1)
    ∷ []

-- the registry is sent, and then the part
abbrev pub first_requests : ClientRequest → List ClientRequest
first_requests part = command_request registration_request (Register example_tld 20_667) (clock_moment 20_667 9 0) (OfRegistry example_tld 20_667) ∷ part ∷ []

-- all requests of the client, in their order
abbrev pub example_requests : ClientRequest → List ClientRequest
example_requests part = first_requests part ++ statement_after_stop ∷ later_requests

-- all that happens
abbrev pub example_service : ClientRequest → List ServiceEvent
example_service part = flat_map request_events (example_requests part)

-- what happens before the service opens after the part
abbrev pub events_until_stop : ClientRequest → List ServiceEvent
events_until_stop part = flat_map request_events (first_requests part) ++ OutsideRequest (StoppedAtRest (pair_of state_of_part)) ∷ []

-- and behind that
abbrev pub events_behind_stop : List ServiceEvent
events_behind_stop = Exchanged statement_after_stop.last ∷ flat_map request_events later_requests

-- ---- what the client reads

-- a status and a body
abbrev pub read_answer : ClientRequest → ResponseStatus × List ℕ
read_answer sending = (sending.last.answer.status, sending.last.answer.body)

-- In their order, with the status of the part's.
abbrev pub example_answers : ResponseStatus → List (ResponseStatus × List ℕ)
example_answers status =
    (Created, codes "registered example 2026-08-02\n")
    ∷ (status, codes "received example_2026-08-02_full_S1_R0.ryde 5 2026-08-02T10:00:00Z\n")
    ∷ (Created, codes "       1 FAILURE-01 2026-08-02 R00 X             2026-08-02T10:05:00Z example\n")
    ∷ (Done, codes "FAILURE-01 F1: it does not begin with RDE1 and a space\n")
    ∷ (Created, codes "       2 ABSENCE    2026-08-03 --- -             2026-08-05T00:00:00Z example\n")
    ∷ (Created, codes "released R-1 example operator 2026-08-05T03:00:00Z 1\nexample_2026-08-02_full_S1_R0.ryde\n")
    ∷ (Created, codes "held H-1 example 2026-08-02 2027-08-02T09:00:00Z\n")
    ∷ (Done, codes "dropped 0\n")
    ∷ (Done, codes "hello")
    ∷ (Created, codes "lifted H-1 2027-08-03T09:00:00Z\n")
    ∷ (Done, codes "dropped 1\n")
    ∷ []

-- ---- what holds of them

-- with the request of the part, the status of its answer, and the commands that are found by the service
pub record ServiceLives (part : ClientRequest) (status : ResponseStatus) (entries : List TimedCommand) : Type 0 where
  -- This is a history of a service, from nothing.
  pub lived : IsServiceHistory empty (example_service part)
  -- Each request is sent until it is answered.
  pub sent : AreSent (example_requests part)
  -- These are the answers.
  pub answers : map read_answer (example_requests part) ≡ example_answers status
  -- The last bytes ask for the part to be received.
  pub asks : AsksFor part.last receive_hello
  -- That it is accepted is told by a whole response, and later the service opens again.
  pub accepted : tells_accepted part.last.answer.status ≡ true
  pub delivered : Contains (delivered_exchanges (events_until_stop part)) part.last
  pub reopened : example_service part ≡ events_until_stop part ++ opening_in state_of_part ∷ events_behind_stop
  -- These commands are found, and that of the part once.
  pub found : found_by_service empty (example_service part) ≡ entries
  pub once : IsFoundOnce entries receive_hello

-- the commands behind the part
abbrev pub later_entries : List TimedCommand
later_entries =
    (Statement example_statement, clock_moment 20_667 10 5)
    ∷ (Check example_tld 20_668, clock_moment 20_670 0 0)
    ∷ (Release (codes "R-1") example_tld Operator, clock_moment 20_670 3 0)
    ∷ (Hold (codes "H-1") example_tld 20_667, clock_moment 21_032 9 0)
    ∷ (Purge, clock_moment 21_033 0 0)
    ∷ (Lift (codes "H-1"), clock_moment 21_033 9 0)
    ∷ (Purge, clock_moment 21_033 10 0)
    ∷ []

-- all of them, where the part is given once
abbrev pub entries_once : List TimedCommand
entries_once = (Register example_tld 20_667, clock_moment 20_667 9 0) ∷ (receive_hello, clock_moment 20_667 10 0) ∷ later_entries

-- and where it is given once more
abbrev pub entries_twice : List TimedCommand
entries_twice = (Register example_tld 20_667, clock_moment 20_667 9 0) ∷ (receive_hello, clock_moment 20_667 10 0) ∷ (receive_hello, clock_moment 20_667 10 1) ∷ later_entries

-- A command that is stopped before its commit is not found, but that which is given again; one that is stopped after it is found, and the repeat, too.
pub record ServicesLive : Type 0 where
  pub before : ServiceLives part_stopped_before Created entries_once
  pub after : ServiceLives part_stopped_after Done entries_twice
  pub unanswered : ServiceLives part_unanswered Done entries_twice
