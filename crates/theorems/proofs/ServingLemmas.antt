-- Histories of a service as histories of its custody.
use Rattle.std.proofs.Common.{◌≡◌, ℕ, List, [], ◌∷◌, ◌++◌, Option, Some, None, Bool, true, false, ◌⊎◌, inl, inr, ⊎_elim, refl, sym, ◌∙◌, ap, subst, if◌then◌else◌, arith}
use Rattle.std.specs.Prelude.{Contains, bytes_eq}
use Rattle.std.specs.List.{cons_option}
use Rattle.std.proofs.lemmas.List.Elements.{Contains-append_cases, Contains-push_cases, filter_map-append}
use Rattle.custody_machine.specs.State.{State}
use Rattle.custody_machine.specs.Machine as machine
use Rattle.custody_machine.specs.Machine.{Command, Reply, Accepted, Refused, Failed}
use Rattle.custody_machine.specs.History as history
use Rattle.custody_machine.specs.History.{Answered, AnsweredOtherCall, ShutDown, StoppedAtRest}
use Rattle.custody_machine.specs.Moves.{Place, MovesAlong, IsInState}
use Rattle.custody_machine.specs.Custody.{other_call_event}
use Rattle.custody_machine.proofs.Moves.{moves_are_histories, places_are_right}
use Rattle.custody.specs.Answers.{stays_open}
use Rattle.http_request.specs.RequestMeaning.{RequestMeaning, RequestMeans, RequestsMeanOne, asks_for, bad}
use Rattle.http_request.specs.declared.faults.RequestFault.TheVariants as fault
use Rattle.http_request.specs.Action as action
use Rattle.http_request.specs.Action.{Do, Report, Explain, Due, Digests, Fetch}
use Rattle.http_api.specs.declared.status.ResponseStatus.{ResponseStatus}
use Rattle.http_api.specs.Responses.{HttpResponse, response_bytes}
use Rattle.http_api.specs.Handling.{failure_response, no_memory_response, refusal_response}
use Rattle.theorems.specs.Responses.{response_to, tells_accepted, tells_failure}
use Rattle.theorems.specs.Service.{ServiceEvent, Exchange, Exchanged, Unread, StoppedInRequest, OutsideRequest, custody_event, custody_events, delivered_exchanges, delivered_exchange, IsHandledIn, MovesIfAny, IsBeginning, IsServiceHistory, IsNoCommandEvent, IsStopWithin, Responds, ServiceMoves, ServiceMovesAlong, state_by_service}
use Rattle.theorems.specs.Clients.{AsksFor, IsNoRequest, IsTryOf, IsMomentOf}
use Rattle.theorems.proofs.Beginnings.{beginning_asks}
use Rattle.theorems.proofs.Told.{failure_told}
use Rattle.theorems.proofs.Tries.{IsTry, IsFailed}

-- ---- what happens to the custody

goes : (old : Place) (event : ServiceEvent) (next : Place) → ServiceMoves old event next → MovesIfAny old (custody_event event) next
goes old (Exchanged x) next s = s.3
goes old (Unread input did) next s = s.2
goes old (StoppedInRequest input now stop) next s = s.2
goes old (OutsideRequest event) next s = s

goes_along : (old next : Place) (did : Option history.Event) (rest : List history.Event) (end : Place) → MovesIfAny old did next → MovesAlong next rest end → MovesAlong old (cons_option did rest) end
goes_along old next None rest end g m = subst (λ p. MovesAlong p rest end) g m
goes_along old next (Some event) rest end g m = (next, g, m)

pub moves_of : (start : Place) (events : List ServiceEvent) (end : Place) → ServiceMovesAlong start events end → MovesAlong start (custody_events events) end
moves_of start [] end s = s
moves_of start (event ∷ events) end s = goes_along start s.0 (custody_event event) (custody_events events) end (goes start event s.0 s.1) (moves_of s.0 events end s.2)

-- a history of two parts passes through a place
pub serves_split : (start : Place) (xs ys : List ServiceEvent) (end : Place) → ServiceMovesAlong start (xs ++ ys) end → (mid : Place) × ServiceMovesAlong start xs mid × ServiceMovesAlong mid ys end
serves_split start [] ys end s = (start, refl, s)
serves_split start (x ∷ xs) ys end s = let rest = serves_split s.0 xs ys end s.2 in (rest.0, (s.0, s.1, rest.1), rest.2)

pub serves_join : (start : Place) (xs ys : List ServiceEvent) (mid end : Place) → ServiceMovesAlong start xs mid → ServiceMovesAlong mid ys end → ServiceMovesAlong start (xs ++ ys) end
serves_join start [] ys mid end s t = subst (λ p. ServiceMovesAlong p ys end) s t
serves_join start (x ∷ xs) ys mid end s t = (s.0, s.1, serves_join s.0 xs ys mid end s.2 t)

pub custody_events-append : (xs ys : List ServiceEvent) → custody_events (xs ++ ys) ≡ custody_events xs ++ custody_events ys
custody_events-append = filter_map-append custody_event

-- before an event, with what it did, and behind it
pub custody_events-at : (earlier later : List ServiceEvent) (event : ServiceEvent) (one : history.Event) → custody_event event ≡ Some one → custody_events (earlier ++ event ∷ later) ≡ custody_events earlier ++ one ∷ custody_events later
custody_events-at earlier later event one is = custody_events-append earlier (event ∷ later) ∙ ap (λ d. custody_events earlier ++ cons_option d (custody_events later)) is

pub lived : (first : State) (events : List ServiceEvent) → IsServiceHistory first events → history.IsHistory first (custody_events events)
lived first events h = moves_are_histories first h.start h.end (custody_events events) h.begun (moves_of h.start events h.end h.along)

-- the state at the end of a history is that after the commands found
pub ends_in : (first : State) (events : List ServiceEvent) (h : IsServiceHistory first events) → IsInState (state_by_service first events) h.end
ends_in first events h = places_are_right first h.start h.end (custody_events events) h.begun (moves_of h.start events h.end h.along)

-- a history up to an event, and what follows
pub record Cut (first : State) (earlier later : List ServiceEvent) (end : Place) : Type 0 where
  pub until : IsServiceHistory first earlier
  pub rest : ServiceMovesAlong until.end later end

pub cut : (first : State) (earlier later : List ServiceEvent) (h : IsServiceHistory first (earlier ++ later)) → Cut first earlier later h.end
cut first earlier later h =
    let parts = serves_split h.start earlier later h.end h.along in
    record { until = record { start = h.start; end = parts.0; begun = h.begun; along = parts.1 }; rest = parts.2 }

-- ---- whole responses

pub contains-cons : {X : Type 0} (x z : X) (xs : List X) → Contains (x ∷ xs) z → (x ≡ z) ⊎ Contains xs z
contains-cons x z xs h = ⊎_elim (λ one. ⊎_elim (λ (none : Contains [] z). let never = none.1 in absurd (omega arith)) inl (Contains-push_cases [] x z one)) inr (Contains-append_cases (x ∷ []) xs z h)

if_delivered_is : (event : ServiceEvent) (x : Exchange) → delivered_exchange event ≡ Some x → event ≡ Exchanged x
if_delivered_is (Exchanged y) x e = by (bytes_eq y.written (response_bytes y.answer)) e
  where
    by : (b : Bool) → (if b then Some y else None) ≡ Some x → Exchanged y ≡ Exchanged x
    by true e = cc
    by false e = cc
if_delivered_is _ x e = cc

-- where a whole response stands in a history
pub record Delivered (events : List ServiceEvent) (x : Exchange) : Type 0 where
  pub before : List ServiceEvent
  pub behind : List ServiceEvent
  pub is : events ≡ before ++ Exchanged x ∷ behind

pub delivered_is : (events : List ServiceEvent) (x : Exchange) → Contains (delivered_exchanges events) x → Delivered events x
delivered_is [] x h = let never = h.1 in absurd (omega arith)
delivered_is (event ∷ events) x h = by (delivered_exchange event) refl h (λ rest. further (delivered_is events x rest))
  where
    further : Delivered events x → Delivered (event ∷ events) x
    further d = record { before = event ∷ d.before; behind = d.behind; is = ap (λ l. event ∷ l) d.is }

    by : (o : Option Exchange) → delivered_exchange event ≡ o → Contains (cons_option o (delivered_exchanges events)) x → (Contains (delivered_exchanges events) x → Delivered (event ∷ events) x) → Delivered (event ∷ events) x
    by None e h rest = rest h
    by (Some one) e h rest = ⊎_elim
        (λ here. record { before = []; behind = events; is = ap (λ v. v ∷ events) (if_delivered_is event x (e ∙ ap Some here)) })
        rest
        (contains-cons one x (delivered_exchanges events) h)

-- ---- a command that was asked for

module _ (one_asked : RequestsMeanOne) (x : Exchange) (command : Command) (asks : AsksFor x command) where
  -- it was answered by the machine
  pub record Commanded : Type 0 where
    pub told : machine.Answer
    pub did : x.did ≡ Some (Answered command x.now told)
    pub answer : x.answer ≡ response_to told

  -- there was no memory before
  abbrev pub HadNoMemory : Type 0
  HadNoMemory = (x.did ≡ None) × (x.answer ≡ no_memory_response)

  pub commanded : (place : Place) → Responds place x → Commanded ⊎ HadNoMemory
  commanded place (inl r) =
      let g = subst (λ a. IsHandledIn a place x) (one_asked x.input r.0 (asks_for (Do command)) r.1 asks) r.2 in
      inl (record { told = g.0; did = g.1; answer = g.2 })
  commanded place (inr none) = inr none

  -- what its status says is said of the response that it is
  told_so : (test : ResponseStatus → Bool) {b : Bool} (answer : HttpResponse) → x.answer ≡ answer → test x.answer.status ≡ b → test answer.status ≡ b
  told_so test answer is says = sym (ap (λ (a : HttpResponse). test a.status) is) ∙ says

  -- where it is told that it is accepted
  pub record WasAccepted : Type 0 where
    pub reply : Reply
    pub did : x.did ≡ Some (Answered command x.now (Accepted reply))
    pub answer : x.answer ≡ response_to (Accepted reply)

  pub was_accepted : (place : Place) → Responds place x → tells_accepted x.answer.status ≡ true → WasAccepted
  was_accepted place r accepted = by (commanded place r)
    where
      of_told : (told : machine.Answer) → x.did ≡ Some (Answered command x.now told) → x.answer ≡ response_to told → WasAccepted
      of_told (Accepted reply) did is = record { reply = reply; did = did; answer = is }
      of_told (Refused q) did is = let status = told_so tells_accepted (refusal_response q) is accepted in cc
      of_told (Failed f) did is = let status = told_so tells_accepted (failure_response f) is accepted in cc

      by : Commanded ⊎ HadNoMemory → WasAccepted
      by (inl c) = of_told c.told c.did c.answer
      by (inr none) = let status = told_so tells_accepted no_memory_response none.1 accepted in cc

  -- where it is told otherwise than by a failure
  pub record WasDecided : Type 0 where
    pub told : machine.Answer
    pub did : x.did ≡ Some (Answered command x.now told)
    pub answer : x.answer ≡ response_to told
    pub decided : IsFailed told → ⊥

  pub was_decided : (place : Place) → Responds place x → tells_failure x.answer.status ≡ false → WasDecided
  was_decided place r decided = by (commanded place r)
    where
      fails : (told : machine.Answer) → x.answer ≡ response_to told → IsFailed told → ⊥
      fails (Failed f) is h = let status = sym (failure_told f) ∙ told_so tells_failure (failure_response f) is decided in cc
      fails _ is h = h

      by : Commanded ⊎ HadNoMemory → WasDecided
      by (inl c) = record { told = c.told; did = c.did; answer = c.answer; decided = fails c.told c.answer }
      by (inr none) = let status = told_so tells_failure no_memory_response none.1 decided in cc

-- ---- tries

-- the command that is asked for, if one is
abbrev pub command_in : RequestMeaning → Option Command
command_in (asks_for (Do command)) = Some command
command_in _ = None

-- what is no request is of the tries of any
pub quiet : (c : Option Command) (M : ℕ → Type 0) (state : State) (event : history.Event) → IsNoRequest event → IsTry c M state event
quiet c M state (Answered command now answer) h = absurd h
quiet c M state (history.StoppedWithin command now pair) h = absurd h
quiet c M state _ h = tt

module _ (one_asked : RequestsMeanOne) (input : List ℕ) (asked : RequestMeaning) (asks : RequestMeans input asked) (M : ℕ → Type 0) (state : State) where
  -- what happens to the custody is of the tries
  abbrev pub IsOfTry : Option history.Event → Type 0
  IsOfTry None = Unit {0}
  IsOfTry (Some event) = IsTry (command_in asked) M state event

  no_command : (sent : List ℕ) (did : Option history.Event) → IsNoCommandEvent sent did → IsOfTry did
  no_command sent None h = tt
  no_command sent (Some AnsweredOtherCall) h = tt
  no_command sent (Some ShutDown) h = tt
  no_command sent (Some _) h = absurd h

  rests : (b : Bool) → IsOfTry (Some (other_call_event b))
  rests true = tt
  rests false = tt

  -- what is sent for it asks for no command but its own
  same_command : (sent : List ℕ) (other : RequestMeaning) → IsBeginning sent input → RequestMeans sent other
      → (command : Command) → other ≡ asks_for (Do command) → command_in asked ≡ Some command
  same_command sent other begins means command is = by (beginning_asks input sent other begins means)
    where
      by : (other ≡ bad fault.Head) ⊎ ((other ≡ bad fault.BodyShort) ⊎ RequestMeans input other) → command_in asked ≡ Some command
      by (inl head) = cc
      by (inr (inl short)) = cc
      by (inr (inr same)) = ap command_in (one_asked input asked other asks same ∙ is)

  given : (other : RequestMeaning) → ((command : Command) → other ≡ asks_for (Do command) → command_in asked ≡ Some command)
      → (place : Place) (x : Exchange) → M x.now → IsHandledIn other place x → IsOfTry x.did
  given (bad fault.BodyShort) own place x at g = no_command x.input x.did g.1
  given (bad found) own place x at g = subst IsOfTry (sym g.1) tt
  given (asks_for (Do command)) own place x at g = subst IsOfTry (sym g.1) (own command refl, at)
  given (asks_for (Report tld)) own place x at g = subst IsOfTry (sym g.0) tt
  given (asks_for (Explain tld day rev)) own place x at g = subst IsOfTry (sym g.2) (rests (stays_open g.0))
  given (asks_for action.State) own place x at g = subst IsOfTry (sym g.0) tt
  given (asks_for Due) own place x at g = subst IsOfTry (sym g.0) tt
  given (asks_for (Digests tld)) own place x at g = subst IsOfTry (sym g.0) tt
  given (asks_for (Fetch reference name)) own place x at g = subst IsOfTry (sym g.2) (rests (stays_open g.0))

  stop_within : (sent : List ℕ) (now : ℕ) (stop : history.Event) → IsBeginning sent input → M now → IsStopWithin sent now stop → IsOfTry (Some stop)
  stop_within sent now (history.StoppedWithin command moment pair) begins at h = (same_command sent (asks_for (Do command)) begins h.1 command refl, subst M (sym h.0) at)
  stop_within sent now (StoppedAtRest pair) begins at h = tt
  stop_within sent now _ begins at h = absurd h

  responded : (place : Place) (x : Exchange) → IsBeginning x.input input → M x.now → Responds place x → IsOfTry x.did
  responded place x begins at (inr none) = subst IsOfTry (sym none.0) tt
  responded place x begins at (inl r) = given r.0 (same_command x.input r.0 begins r.1) place x at r.2

  pub try_of : (old next : Place) (event : ServiceEvent) → IsTryOf input event → ((n : ℕ) → IsMomentOf event n → M n) → ServiceMoves old event next → IsOfTry (custody_event event)
  try_of old next (Exchanged x) begins at s = responded old x begins (at x.now refl) s.1
  try_of old next (Unread sent did) begins at s = no_command sent did s.1
  try_of old next (StoppedInRequest sent now stop) begins at s = stop_within sent now stop begins (at now refl) s.1
  try_of old next (OutsideRequest event) own at s = quiet (command_in asked) M state event own
