-- The histories of the example service, event by event.
use Rattle.std.proofs.Common.{◌≡◌, ℕ, suc, List, [], ◌∷◌, ◌++◌, length, map, Option, Some, None, Bool, true, false, if◌then◌else◌, codes, inl, inr, refl, sym, ◌∙◌, ap, subst, arith, append_assoc, Contains, Ok}
use Rattle.std.specs.Fmt.{digits, padded}
use Rattle.std.specs.List.{cons_option}
use Rattle.std.proofs.Math.Seq.{take-length}
use Rattle.schedule.specs.Calendar.{date_of}
use Rattle.deposit_name.specs.Name.{Name}
use Rattle.custody_records.specs.Records.{key_of}
use Rattle.custody_records.specs.Rows.{Rows}
use Rattle.custody_machine.specs.State.{State, empty}
use Rattle.custody_machine.specs.Machine.{Command, Register, OfRegistry, Record, Reply, Accepted, Accept, TimedCommand, step}
use Rattle.custody_machine.specs.History as history
use Rattle.custody_machine.specs.History.{Answered, AnsweredOtherCall, StoppedAtRest, StoppedWithin, OpenedWith, Opened, Pair, none_found, FoundCommands, found_after, is_step_to}
use Rattle.custody_machine.specs.Moves.{Place, Left, IsBegun}
use Rattle.custody_machine.specs.FetchResult.{fetch_result}
use Rattle.custody_machine.specs.Examples.{pair_of}
use Rattle.custody_machine.specs.ExampleLife.{clock_moment, example_tld, new_reply, CustodyLives}
use Rattle.custody_machine.specs.Explaining.{explain_refusal}
use Rattle.custody_machine.proofs.SameValues.{text_decides}
use Rattle.custody.specs.declared.explanation.Explanation.{Explanation}
use Rattle.custody.specs.Explaining.{IsExplanation, IsSoundlyExplained}
use Rattle.http_request.specs.RequestMeaning.{RequestMeans, SendsPart, asks_for, bad}
use Rattle.http_request.specs.declared.faults.RequestFault.TheVariants as fault
use Rattle.http_request.specs.Action.{Do, Explain, Fetch}
use Rattle.http_api.specs.declared.status.ResponseStatus.{ResponseStatus}
use Rattle.http_api.specs.declared.status.ResponseStatus.TheVariants.{Created, Done}
use Rattle.http_api.specs.Responses.{response_bytes}
use Rattle.http_api.specs.Handling.{explanation_response, fault_response, fetch_response}
use Rattle.theorems.specs.Responses.{response_to}
use Rattle.theorems.specs.Service.{Exchange, ServiceEvent, Exchanged, StoppedInRequest, OutsideRequest, IsBeginning, IsServiceHistory, ServiceMoves, ServiceMovesAlong, custody_events, delivered_exchange, delivered_exchanges, found_by_service}
use Rattle.theorems.specs.Clients.{AreSent, AreTriesOf, ClientRequest, IsFoundOnce, IsSent}
use Rattle.theorems.specs.ExampleService.{ServiceLives, ServicesLive, accepted_exchange, command_request, entries_once, entries_twice, example_answers, example_explanation, example_part, example_requests, events_behind_stop, events_until_stop, example_service, opening_in, part_answered, part_begun, part_record, part_request, part_response_lost, part_stopped, part_stopped_after, part_stopped_before, part_unanswered, read_answer, receive_hello, registration_request, state_of_part, state_of_registry, statement_after_stop, whole_exchange}
use Rattle.theorems.proofs.ExamplePlaces.{AreIn, AreKept, Parts, accepted_move, drop_kept, dropped_digests, dropped_on_volume, dropped_record, held_digests, held_on_volume, held_record, image, no_parts, none_digests, none_kept, none_on_volume, one_part, other_move, place_at, records_at, same_kept, state_at}
use Rattle.theorems.proofs.ExampleStops.{IsLeft, opening_move, rest_move, part_left, part_rows, registry_left, registry_rows, stop_move}
use Rattle.theorems.proofs.ExampleStates.{AreStates, checked_parts, dropped_parts, fetched, held_parts, is_received, left_out, lifted_parts, one_part_of, receiving, registering, released_parts, repeats_at, stated_parts, states, taken_in}
use Rattle.theorems.proofs.ExampleReasons.{is_explained, is_failed, not_refused}
use Rattle.theorems.proofs.ExampleRequests.{check_asks, fetch_asks, hold_asks, lift_asks, part_asks, part_sent, part_short, purge_asks, reasons_asks, registration_asks, release_asks, statement_asks}
use Rattle.theorems.proofs.Told.{reply_told}

-- ---- one event

is_whole : (text : List ℕ) → IsBeginning text text
is_whole text = (length text, omega arith, sym (take-length text))

module _ (state : State) (parts : Parts) (here : AreIn state parts) where
  -- a command is accepted, and so much of the response is written
  served_so : (input : List ℕ) (command : Command) (now : ℕ) (reply : Reply) (written : List ℕ) (new : State) (behind : Parts) → RequestMeans input (asks_for (Do command)) → IsBeginning written (response_bytes (response_to (Accepted reply)))
      → AreIn new behind → AreKept parts behind → step state command now ≡ Accept reply new
      → ServiceMoves (place_at state parts) (Exchanged (record (accepted_exchange input command now reply) { written = written })) (place_at new behind)
  served_so input command now reply written new behind means begins there kept is =
      (tt, inl (asks_for (Do command), means, (Accepted reply, refl, refl)), begins, accepted_move state new parts behind command now reply here there kept is)

  served : (input : List ℕ) (command : Command) (now : ℕ) (reply : Reply) (new : State) (behind : Parts) → RequestMeans input (asks_for (Do command)) → AreIn new behind → AreKept parts behind → step state command now ≡ Accept reply new
      → ServiceMoves (place_at state parts) (Exchanged (accepted_exchange input command now reply)) (place_at new behind)
  served input command now reply new behind means =
      served_so input command now reply (response_bytes (response_to (Accepted reply))) new behind means (is_whole (response_bytes (response_to (Accepted reply))))

  -- a part is cut off
  cut_off : (input : List ℕ) (now : ℕ) → RequestMeans input (bad fault.BodyShort) → SendsPart input
      → ServiceMoves (place_at state parts) (Exchanged (whole_exchange input now (Some AnsweredOtherCall) (fault_response fault.BodyShort))) (place_at state parts)
  cut_off input now means sends = (tt, inl (bad fault.BodyShort, means, (refl, sends)), is_whole (response_bytes (fault_response fault.BodyShort)), other_move state parts)

  -- a part is fetched
  handed_over : (input reference name bytes : List ℕ) (now : ℕ) → RequestMeans input (asks_for (Fetch reference name)) → fetch_result state reference name ≡ Ok bytes
      → ServiceMoves (place_at state parts) (Exchanged (whole_exchange input now (Some AnsweredOtherCall) (fetch_response (Ok bytes)))) (place_at state parts)
  handed_over input reference name bytes now means is =
      let same = ap (λ s. fetch_result s reference name) (state_at state parts here.on_volume) ∙ is in
      let digest : (n : Name) → Rattle.custody_machine.specs.NameReading.read_name name ≡ Ok n → Rattle.custody_machine.specs.StoredState.HasDigestAt image (records_at state parts) (key_of n) = λ n read. here.digests (key_of n) in
      (tt, inl (asks_for (Fetch reference name), means, (Ok bytes, (same, digest), refl, refl)), is_whole (response_bytes (fetch_response (Ok bytes))), other_move state parts)

  -- why a revision has failed is told
  explained : (input tld : List ℕ) (day rev now : ℕ) (told : Explanation) → RequestMeans input (asks_for (Explain tld day rev)) → explain_refusal state tld day rev ≡ None → IsExplanation state tld day rev told
      → ServiceMoves (place_at state parts) (Exchanged (whole_exchange input now (Some AnsweredOtherCall) (explanation_response (Ok told)))) (place_at state parts)
  explained input tld day rev now told means held is =
      let same = sym (state_at state parts here.on_volume) in
      let sound : IsSoundlyExplained (records_at state parts) image tld day rev told = record { held = subst (λ s. explain_refusal s tld day rev ≡ None) same held; explained = subst (λ s. IsExplanation s tld day rev told) same is; sound = λ key hangs. here.digests key } in
      (tt, inl (asks_for (Explain tld day rev), means, (Ok told, sound, refl, inl refl)), is_whole (response_bytes (explanation_response (Ok told))), other_move state parts)

  -- the service is stopped within a command
  stopped : (input : List ℕ) (command : Command) (now : ℕ) (rows : Rows) (new : State) (behind : Parts) → RequestMeans input (asks_for (Do command)) → IsLeft rows new behind → AreKept parts behind → history.IsFoundWithin state command now new
      → ServiceMoves (place_at state parts) (StoppedInRequest input now (StoppedWithin command now (pair_of new))) (Left rows image)
  stopped input command now rows new behind means left kept found = (tt, (refl, means), stop_move rows new behind left state parts command now here kept found)

-- ---- all of them

with_hello : (state : State) → state.parts ≡ one_part_of example_part → AreIn state (one_part held_record)
with_hello state is = record { digests = held_digests; on_volume = held_on_volume ∙ sym is }

abbrev pub bare_place : Place
bare_place = place_at empty no_parts

abbrev pub registry_place : Place
registry_place = place_at state_of_registry no_parts

abbrev place_with_hello : State → Place
place_with_hello state = place_at state (one_part held_record)

no_parts_in : AreIn empty no_parts
no_parts_in = record { digests = none_digests; on_volume = none_on_volume }

-- nothing is there at the beginning
pub begun_bare : IsBegun empty bare_place
begun_bare = (state_at empty no_parts none_on_volume, none_digests)

module _ (stated checked released on_hold lifted purged : State) (are : AreStates stated checked released on_hold lifted purged) where
  stated_in : AreIn stated (one_part held_record)
  stated_in = with_hello stated (stated_parts _ _ _ _ _ _ are)

  checked_in : AreIn checked (one_part held_record)
  checked_in = with_hello checked (checked_parts _ _ _ _ _ _ are)

  released_in : AreIn released (one_part held_record)
  released_in = with_hello released (released_parts _ _ _ _ _ _ are)

  on_hold_in : AreIn on_hold (one_part held_record)
  on_hold_in = with_hello on_hold (held_parts _ _ _ _ _ _ are)

  lifted_in : AreIn lifted (one_part held_record)
  lifted_in = with_hello lifted (lifted_parts _ _ _ _ _ _ are)

  purged_in : AreIn purged (one_part dropped_record)
  purged_in = record { digests = dropped_digests; on_volume = dropped_on_volume ∙ sym (dropped_parts _ _ _ _ _ _ are) }

  -- a command that leaves the parts as they are
  goes : (old new : State) → AreIn old (one_part held_record) → AreIn new (one_part held_record) → (input : List ℕ) (command : Command) (now : ℕ) (entry : Record) → RequestMeans input (asks_for (Do command)) → step old command now ≡ Accept (new_reply entry) new
      → ServiceMoves (place_with_hello old) (Exchanged (accepted_exchange input command now (new_reply entry))) (place_with_hello new)
  goes old new here there input command now entry means is = served old (one_part held_record) here input command now (new_reply entry) new (one_part held_record) means there (same_kept (one_part held_record)) is

  later_along : ServiceMovesAlong (place_with_hello state_of_part) (OutsideRequest (StoppedAtRest (pair_of state_of_part)) ∷ opening_in state_of_part ∷ events_behind_stop) (place_at purged (one_part dropped_record))
  later_along = (
    Left part_rows image,
    rest_move part_rows state_of_part (one_part held_record) part_left,
    (
      place_with_hello state_of_part,
      opening_move part_rows state_of_part (one_part held_record) part_left,
      (
        place_with_hello stated,
        goes state_of_part stated part_left.here stated_in _ _ _ _ statement_asks are.stating,
        (
          place_with_hello stated,
          explained stated (one_part held_record) stated_in _ _ _ _ _ _ reasons_asks
              (subst (λ s. explain_refusal s example_tld 20_667 0 ≡ None) (sym (is_failed stated _ are.stating)) not_refused)
              (subst (λ s. IsExplanation s example_tld 20_667 0 example_explanation) (sym (is_failed stated _ are.stating)) is_explained),
          (
            place_with_hello checked,
            goes stated checked stated_in checked_in _ _ _ _ check_asks are.checking,
            (
              place_with_hello released,
              goes checked released checked_in released_in _ _ _ _ release_asks are.releasing,
              (
                place_with_hello on_hold,
                goes released on_hold released_in on_hold_in _ _ _ _ hold_asks are.holding,
                (
                  place_with_hello on_hold,
                  goes on_hold on_hold on_hold_in on_hold_in _ _ _ _ purge_asks are.sparing,
                  (
                    place_with_hello on_hold,
                    handed_over on_hold (one_part held_record) on_hold_in _ _ _ _ _ fetch_asks (fetched _ _ _ _ _ _ are),
                    (
                      place_with_hello lifted,
                      goes on_hold lifted on_hold_in lifted_in _ _ _ _ lift_asks are.lifting,
                      (
                        place_at purged (one_part dropped_record),
                        served lifted (one_part held_record) lifted_in _ _ _ _ purged (one_part dropped_record) purge_asks purged_in drop_kept are.purging,
                        refl,
                      ),
                    ),
                  ),
                ),
              ),
            ),
          ),
        ),
      ),
    ),
  )

-- all that happens behind the part
abbrev rest_events : List ServiceEvent
rest_events = OutsideRequest (StoppedAtRest (pair_of state_of_part)) ∷ opening_in state_of_part ∷ events_behind_stop

module _ (lives : CustodyLives) where
  abbrev last_place : Place
  last_place = place_at (states lives).purged (one_part dropped_record)

  rest_along : ServiceMovesAlong (place_with_hello state_of_part) rest_events last_place
  rest_along = let all = states lives in later_along all.stated all.checked all.released all.on_hold all.lifted all.purged all.are

  -- the registration, and the part without its last bytes
  pub registration_move : ServiceMoves bare_place (Exchanged (accepted_exchange registration_request (Register example_tld 20_667) (clock_moment 20_667 9 0) (new_reply (OfRegistry example_tld 20_667)))) registry_place
  registration_move = served empty no_parts no_parts_in _ _ _ _ state_of_registry no_parts registration_asks registry_left.here (none_kept no_parts) (registering lives).accepts

  begun_move : ServiceMoves registry_place (Exchanged (whole_exchange (part_request (codes "he")) (clock_moment 20_667 9 58) (Some AnsweredOtherCall) (fault_response fault.BodyShort))) registry_place
  begun_move = cut_off state_of_registry no_parts registry_left.here _ _ part_short part_sent

  -- the part, recorded now, or before
  record_along : ServiceMovesAlong registry_place (Exchanged (accepted_exchange (part_request (codes "hello")) receive_hello (clock_moment 20_667 10 0) (new_reply part_record)) ∷ rest_events) last_place
  record_along = (
    place_with_hello state_of_part,
    served state_of_registry no_parts registry_left.here _ _ _ _ state_of_part (one_part held_record) part_asks part_left.here (none_kept (one_part held_record)) (receiving lives).accepts,
    rest_along,
  )

  repeat_along : ServiceMovesAlong (place_with_hello state_of_part) (Exchanged part_stopped_after.last ∷ rest_events) last_place
  repeat_along = (
    place_with_hello state_of_part,
    served state_of_part (one_part held_record) part_left.here _ _ _ _ state_of_part (one_part held_record) part_asks part_left.here (same_kept (one_part held_record)) (repeats_at lives (clock_moment 20_667 10 1)),
    rest_along,
  )

  -- all of them, by the events after the first two tries
  along_of : (events : List ServiceEvent) (now : ℕ) (is_repeat : Bool) → ServiceMovesAlong registry_place ((events ++ Exchanged (part_answered events now is_repeat).last ∷ []) ++ rest_events) last_place
      → ServiceMovesAlong bare_place (example_service (part_answered events now is_repeat)) last_place
  along_of events now is_repeat rest = (registry_place, registration_move, (registry_place, (tt, tt, refl), (registry_place, begun_move, rest)))

  before_along : ServiceMovesAlong bare_place (example_service part_stopped_before) last_place
  before_along = along_of (part_stopped (clock_moment 20_667 9 59) state_of_registry) (clock_moment 20_667 10 0) false (
    Left registry_rows image,
    stopped state_of_registry no_parts registry_left.here _ _ _ registry_rows state_of_registry no_parts part_asks registry_left (none_kept no_parts) (inl refl),
    (
      registry_place,
      opening_move registry_rows state_of_registry no_parts registry_left,
      record_along,
    ),
  )

  after_along : ServiceMovesAlong bare_place (example_service part_stopped_after) last_place
  after_along = along_of (part_stopped (clock_moment 20_667 10 0) state_of_part) (clock_moment 20_667 10 1) true (
    Left part_rows image,
    stopped state_of_registry no_parts registry_left.here _ _ _ part_rows state_of_part (one_part held_record) part_asks part_left (none_kept (one_part held_record)) (inr (sym (is_received lives))),
    (
      place_with_hello state_of_part,
      opening_move part_rows state_of_part (one_part held_record) part_left,
      repeat_along,
    ),
  )

  unanswered_along : ServiceMovesAlong bare_place (example_service part_unanswered) last_place
  unanswered_along = along_of part_response_lost (clock_moment 20_667 10 1) true (
    place_with_hello state_of_part,
    served_so state_of_registry no_parts registry_left.here _ _ _ _ _ state_of_part (one_part held_record) part_asks (12, omega arith, refl) part_left.here (none_kept (one_part held_record)) (receiving lives).accepts,
    (
      Left part_rows image,
      rest_move part_rows state_of_part (one_part held_record) part_left,
      (
        place_with_hello state_of_part,
        opening_move part_rows state_of_part (one_part held_record) part_left,
        repeat_along,
      ),
    ),
  )

  history_of : (part : ClientRequest) → ServiceMovesAlong bare_place (example_service part) last_place → IsServiceHistory empty (example_service part)
  history_of part along = record { start = bare_place; end = last_place; begun = begun_bare; along = along }

-- ---- the client

sent_once : (input : List ℕ) (command : Command) (now : ℕ) (entry : Record) → RequestMeans input (asks_for (Do command)) → IsSent (command_request input command now entry)
sent_once input command now entry means = record { asks = means; tries = tt; whole = refl; decided = (reply_told (new_reply entry)).0 }

-- after tries that are no requests
sent_after : (sending : ClientRequest) → IsSent sending → (tries : List ServiceEvent) → AreTriesOf sending.last.input tries → IsSent (record sending { tries = tries })
sent_after sending is tries are = record { asks = is.asks; tries = are; whole = is.whole; decided = is.decided }

all_sent : (part : ClientRequest) → IsSent part → AreSent (example_requests part)
all_sent part is = (
  sent_once _ _ _ _ registration_asks,
  (
    is,
    (
      sent_after _ (sent_once _ _ _ _ statement_asks) statement_after_stop.tries (tt, (tt, tt)),
      (
        record { asks = reasons_asks; tries = tt; whole = refl; decided = refl },
        (
          sent_once _ _ _ _ check_asks,
          (
            sent_once _ _ _ _ release_asks,
            (
              sent_once _ _ _ _ hold_asks,
              (sent_once _ _ _ _ purge_asks, (record { asks = fetch_asks; tries = tt; whole = refl; decided = refl }, (sent_once _ _ _ _ lift_asks, (sent_once _ _ _ _ purge_asks, tt)))),
            ),
          ),
        ),
      ),
    ),
  ),
)

abbrev sent_whole : List ℕ
sent_whole = part_request (codes "hello")

-- the first two tries
begun_tries : (events : List ServiceEvent) → AreTriesOf sent_whole events → AreTriesOf sent_whole (part_begun ++ events)
begun_tries events rest = ((8, omega arith, refl), ((length (part_request (codes "he")), omega arith, refl), rest))

stopped_tries : (now : ℕ) (state : State) → AreTriesOf sent_whole (part_stopped now state)
stopped_tries now state = (is_whole sent_whole, (tt, tt))

lost_tries : AreTriesOf sent_whole part_response_lost
lost_tries = (is_whole sent_whole, (tt, (tt, tt)))

part_is_sent : (events : List ServiceEvent) (now : ℕ) (is_repeat : Bool) → AreTriesOf sent_whole events → IsSent (part_answered events now is_repeat)
part_is_sent events now is_repeat tries = record {
  asks = part_asks;
  tries = begun_tries events tries;
  whole = refl;
  decided = (reply_told (record { entry = part_record; is_repeat = is_repeat })).0;
}

-- ---- whole responses

contains_later : (y x : Exchange) (xs : List Exchange) → Contains xs x → Contains (y ∷ xs) x
contains_later y x xs (k, lt, at) = (suc k, omega (arith, lt), at)

is_delivered : (x : Exchange) → x.written ≡ response_bytes x.answer → delivered_exchange (Exchanged x) ≡ Some x
is_delivered x whole = ap (λ b. if b then Some x else None) ((text_decides x.written (response_bytes x.answer)).1 whole)

contains_delivered : (before behind : List ServiceEvent) (x : Exchange) → x.written ≡ response_bytes x.answer → Contains (delivered_exchanges (before ++ Exchanged x ∷ behind)) x
contains_delivered [] behind x whole = subst (λ o. Contains (cons_option o (delivered_exchanges behind)) x) (sym (is_delivered x whole)) (0, omega arith, refl)
contains_delivered (event ∷ before) behind x whole = by (delivered_exchange event) (contains_delivered before behind x whole)
  where
    by : (o : Option Exchange) → Contains (delivered_exchanges (before ++ Exchanged x ∷ behind)) x → Contains (cons_option o (delivered_exchanges (before ++ Exchanged x ∷ behind))) x
    by None h = h
    by (Some y) h = contains_later y x (delivered_exchanges (before ++ Exchanged x ∷ behind)) h

part_delivered : (part : ClientRequest) → part.last.written ≡ response_bytes part.last.answer → Contains (delivered_exchanges (events_until_stop part)) part.last
part_delivered part whole =
    let first = Exchanged (accepted_exchange registration_request (Register example_tld 20_667) (clock_moment 20_667 9 0) (new_reply (OfRegistry example_tld 20_667))) in
    let stop = OutsideRequest (StoppedAtRest (pair_of state_of_part)) ∷ [] in
    let same = append_assoc (part.tries ++ Exchanged part.last ∷ []) [] stop ∙ append_assoc part.tries (Exchanged part.last ∷ []) stop in
    subst (λ events. Contains (delivered_exchanges (first ∷ events)) part.last) (sym same) (contains_delivered (first ∷ part.tries) stop part.last whole)

-- ---- the commands found

abbrev registration : TimedCommand
registration = (Register example_tld 20_667, clock_moment 20_667 9 0)

-- by whether a stop has taken in the part of this moment
abbrev found_if : ClientRequest → State → ℕ → Bool → List TimedCommand
found_if part state now taken = (found_after empty (record { commands = if taken then registration ∷ (receive_hello, now) ∷ [] else registration ∷ []; in_doubt = None })
    (custody_events (opening_in state ∷ Exchanged part.last ∷ rest_events))).commands

-- ---- the answers

answers_read : (events : List ServiceEvent) (now : ℕ) (is_repeat : Bool) (status : ResponseStatus) → (if is_repeat then Done else Created) ≡ status → map read_answer (example_requests (part_answered events now is_repeat)) ≡ example_answers status
unfolding date_of digits padded
answers_read events now is_repeat status is = ap example_answers is

module _ (lives : CustodyLives) where
  found_before : found_by_service empty (example_service part_stopped_before) ≡ entries_once
  found_before = ap (found_if part_stopped_before state_of_registry (clock_moment 20_667 9 59)) (left_out lives (clock_moment 20_667 9 59))

  found_after_commit : found_by_service empty (example_service part_stopped_after) ≡ entries_twice
  found_after_commit = ap (found_if part_stopped_after state_of_part (clock_moment 20_667 10 0)) (taken_in lives)

  -- after these events the part is answered with this status
  lives_with : (events : List ServiceEvent) (now : ℕ) (is_repeat : Bool) (status : ResponseStatus) (entries : List TimedCommand) → (if is_repeat then Done else Created) ≡ status → AreTriesOf sent_whole events
      → ServiceMovesAlong bare_place (example_service (part_answered events now is_repeat)) (last_place lives)
      → example_service (part_answered events now is_repeat) ≡ events_until_stop (part_answered events now is_repeat) ++ opening_in state_of_part ∷ events_behind_stop
      → found_by_service empty (example_service (part_answered events now is_repeat)) ≡ entries → IsFoundOnce entries receive_hello → ServiceLives (part_answered events now is_repeat) status entries
  lives_with events now is_repeat status entries is tries along reopened found once = let part = part_answered events now is_repeat in record {
    lived = history_of lives part along;
    sent = all_sent part (part_is_sent events now is_repeat tries);
    answers = answers_read events now is_repeat status is;
    asks = part_asks;
    accepted = (reply_told (record { entry = part_record; is_repeat = is_repeat })).1;
    delivered = part_delivered part refl;
    reopened = reopened;
    found = found;
    once = once;
  }

  pub services_live : ServicesLive
  services_live = record {
    before = lives_with (part_stopped (clock_moment 20_667 9 59) state_of_registry) (clock_moment 20_667 10 0) false Created entries_once refl (stopped_tries (clock_moment 20_667 9 59) state_of_registry) (before_along lives) refl found_before (λ keyed. refl);
    after = lives_with (part_stopped (clock_moment 20_667 10 0) state_of_part) (clock_moment 20_667 10 1) true Done entries_twice refl (stopped_tries (clock_moment 20_667 10 0) state_of_part) (after_along lives) refl found_after_commit (λ keyed. refl);
    unanswered = lives_with part_response_lost (clock_moment 20_667 10 1) true Done entries_twice refl lost_tries (unanswered_along lives) refl refl (λ keyed. refl);
  }
