-- What a server does for its clients is events of a service.
use Rattle.std.proofs.Common.{◌≡◌, ℕ, zero, suc, List, [], ◌∷◌, ◌++◌, Option, Some, None, true, inl, inr, refl, sym, ◌∙◌, ap, subst, append_assoc, Ok, Err}
use Rattle.std.specs.Prelude.{IfSome, is_some, take, unwrap_or}
use Rattle.std.proofs.lemmas.List.{append-nil}
use Rattle.std.proofs.lemmas.List.Elements.{filter_map-append}
use Rattle.vault_volume.specs.declared.volume.Volume as volume
use Rattle.vault_volume.specs.Vault.{volume_of}
use Rattle.sqlite.specs.Store.{Ghosts}
use Rattle.custody_records.specs.Rows.{Rows}
use Rattle.custody_machine.specs.History.{Event, Pair, StoppedAtRest}
use Rattle.custody_machine.specs.Moves.{Place, Left, Finds}
use Rattle.custody.specs.declared.custody.Custody.{Custody}
use Rattle.custody.specs.OpenCustody.{store_state_of, MayLeaveImageSince}
use Rattle.custody.specs.Custody.{open_custody_of}
use Rattle.custody.proofs.OpenCustodyLemmas.{since_same}
use Rattle.http_api.specs.declared.connections.ServiceError.{ServiceError}
use Rattle.http_api.specs.declared.connections.ServiceError.TheVariants.{Socket, Clock, Closed}
use Rattle.http_api.specs.Clients.{FirstComes, GainsResponse}
use Rattle.http_api.specs.Connections.{AreConnections, IsConnection, ServerState, ServiceErrorLeaves}
use Rattle.http_api.specs.Handling.{IsNoCommand, IsServed}
use Rattle.http_api.specs.Responses.{HttpResponse, response_bytes}
use Rattle.theorems.specs.Service.{ServiceEvent, Exchanged, Unread, StoppedInRequest, OutsideRequest, IsBeginning, ServiceMoves, ServiceMovesAlong}
use Rattle.theorems.specs.Requests.{IsCustodyAt}
use Rattle.theorems.specs.Connections.{AreOfConnections, AreServerEvents, ConnectionsMayStop, ConnectionsMove, HasMovedByConnections, HaveCome, HaveTaken, IsServerAt, IsStopInConnection, event_request, event_response}
use Rattle.theorems.proofs.Beginnings.{whole_begins}
use Rattle.theorems.proofs.HonestLemmas.{IsHonestIn, honest_same, honest_served, honest_unserved}
use Rattle.theorems.proofs.RequestLemmas.{Went, exchange, is_up, nothing, responds_so}
use Rattle.theorems.proofs.ServingLemmas.{serves_join}
use Rattle.theorems.proofs.SessionLemmas.{stop_at_rest}

-- ---- the clients

abbrev Texts : Type 0
Texts = Option (List (List ℕ))

-- nobody has come, or taken anything
none_came : (old new : Texts) → new ≡ old → HaveCome [] old new
none_came None new same = tt
none_came (Some all) new same = (all, refl, same)

none_taken : (old new : Texts) → new ≡ old → HaveTaken [] old new
none_taken None new same = tt
none_taken (Some before) new same = same ∙ ap Some (sym (append-nil before))

-- one has
record FirstCame (request : Option (List ℕ)) (old new : Texts) : Type 0 where
  input : List ℕ
  is : request ≡ Some input
  came : HaveCome (input ∷ []) old new
  first : (others : List (List ℕ)) × (old ≡ Some (input ∷ others))
  known : is_some new ≡ true

first_came : (request : Option (List ℕ)) (old new : Texts) → is_some old ≡ true → FirstComes request old new → FirstCame request old new
first_came request None new known comes = cc
first_came request (Some []) new known comes = absurd comes
first_came request (Some (first ∷ others)) new known comes = record { input = first; is = comes.0; came = (others, refl, comes.1); first = (others, refl); known = ap is_some comes.1 }

one_taken : (response : List ℕ) (old new : Texts) → GainsResponse response old new → HaveTaken (response ∷ []) old new
one_taken response None new gains = tt
one_taken response (Some before) new gains = gains

-- some have, and then others
both_came : (old mid new : Texts) (xs ys : List (List ℕ)) → HaveCome xs old mid → HaveCome ys mid new → HaveCome (xs ++ ys) old new
both_came None mid new xs ys first then = tt
both_came (Some all) mid new xs ys first then =
    let rest = subst (λ o. HaveCome ys o new) first.2 then in
    (rest.0, first.1 ∙ ap (λ l. xs ++ l) rest.1 ∙ sym (append_assoc xs ys rest.0), rest.2)

both_taken : (old mid new : Texts) (xs ys : List (List ℕ)) → HaveTaken xs old mid → HaveTaken ys mid new → HaveTaken (xs ++ ys) old new
both_taken None mid new xs ys first then = tt
both_taken (Some before) mid new xs ys first then =
    let rest = subst (λ o. HaveTaken ys o new) first then in
    rest ∙ ap Some (append_assoc before xs ys)

-- ---- their events

both_are : (given : Option ℕ) (xs ys : List ServiceEvent) → AreOfConnections given xs → AreOfConnections given ys → AreOfConnections given (xs ++ ys)
both_are given [] ys first then = then
both_are given (x ∷ xs) ys first then = (first.0, both_are given xs ys first.1 then)

at_given : (given : Option ℕ) → IfSome given (λ moment. unwrap_or given 0 ≡ moment)
at_given None = tt
at_given (Some moment) = refl

module _ {C : Type 0} (given : Option ℕ) where
  no_events : (old new : ServerState C) → new ≡ old → AreServerEvents given old new []
  no_events old new same = record {
    each = tt;
    requests = none_came old.requests new.requests (ap (λ (s : ServerState C). s.requests) same);
    responses = none_taken old.responses new.responses (ap (λ (s : ServerState C). s.responses) same);
  }

  both_events : (old mid new : ServerState C) (xs ys : List ServiceEvent) → AreServerEvents given old mid xs → AreServerEvents given mid new ys → AreServerEvents given old new (xs ++ ys)
  both_events old mid new xs ys first then = record {
    each = both_are given xs ys first.each then.each;
    requests = subst (λ l. HaveCome l old.requests new.requests) (sym (filter_map-append event_request xs ys)) (both_came old.requests mid.requests new.requests _ _ first.requests then.requests);
    responses = subst (λ l. HaveTaken l old.responses new.responses) (sym (filter_map-append event_response xs ys)) (both_taken old.responses mid.responses new.responses _ _ first.responses then.responses);
  }

-- ---- honest before it

module _ {V S : Type 0} {g : volume.Ghosts V} {database : Ghosts S} where
  custody_same : (old new : ServerState (Custody V S g database)) → new ≡ old → IsHonestIn new.custody → IsHonestIn old.custody
  custody_same old new same = honest_same old.custody new.custody (ap (λ (s : ServerState (Custody V S g database)). s.custody) same)

  honest_connected : (given : Option ℕ) (old new : ServerState (Custody V S g database)) → IsConnection given old new → IsHonestIn new.custody → IsHonestIn old.custody
  honest_connected given old new (inl nobody) = custody_same old new nobody.1
  honest_connected given old new (inr (inl served)) = honest_served served.request served.now old.custody served.answer new.custody served.step
  honest_connected given old new (inr (inr (inl lost))) = honest_unserved lost.request old.custody new.custody lost.step
  honest_connected given old new (inr (inr (inr lost))) = honest_served lost.request lost.now old.custody lost.answer new.custody lost.step

  honest_ended : (fault : ServiceError) (old new : ServerState (Custody V S g database)) → ServiceErrorLeaves fault old new → IsHonestIn new.custody → IsHonestIn old.custody
  honest_ended (Socket port cause) old new left = custody_same old new left
  honest_ended Clock old new (inl nobody) = custody_same old new nobody.1
  honest_ended Clock old new (inr came) = honest_same old.custody new.custody came.3
  honest_ended (Closed why) old new left = custody_same old new left

-- ---- moves

module _ {V S : Type 0} {g : volume.Ghosts V} {database : Ghosts S} (tells : g.tells) (given : Option ℕ) where
  -- these events have taken it on
  moved : (old new : ServerState (Custody V S g database)) (place : Place) (events : List ServiceEvent) (next : Place) → AreServerEvents given old new events → ServiceMovesAlong place events next → IsServerAt new next
      → HasMovedByConnections given old new place
  moved old new place events next are_events moves there =
      record { events = events; are_events = are_events; next = next; moves = moves; there = there; history = λ first begun. record { start = place; end = next; begun = begun; along = moves } }

  stayed : (old new : ServerState (Custody V S g database)) (place : Place) → IsServerAt old place → new ≡ old → HasMovedByConnections given old new place
  stayed old new place at same = moved old new place [] place (no_events given old new same) refl (subst (λ (s : ServerState (Custody V S g database)). IsServerAt s place) (sym same) at)

  then_moved : (old mid new : ServerState (Custody V S g database)) (place : Place) (first : HasMovedByConnections given old mid place) → HasMovedByConnections given mid new first.next → HasMovedByConnections given old new place
  then_moved old mid new place first then = moved old new place (first.events ++ then.events) then.next
      (both_events given old mid new first.events then.events first.are_events then.are_events)
      (serves_join place first.events then.events first.next then.next first.moves then.moves)
      then.there

  -- a client has come, of which this is the event
  one_moved : (old new : ServerState (Custody V S g database)) (place : Place) (event : ServiceEvent) (next : Place) → AreServerEvents given old new (event ∷ []) → ServiceMoves place event next
      → is_some new.requests ≡ true → IsCustodyAt database new.custody next → HasMovedByConnections given old new place
  one_moved old new place event next are_events moves known there = moved old new place (event ∷ []) next are_events (next, moves, refl) (record { known = known; there = there })

  -- ---- one connection

  module _ (old new : ServerState (Custody V S g database)) (place : Place) (at : IsServerAt old place) where
    -- a request is answered, and so much of the response is taken
    exchanged : IsHonestIn new.custody → (request : Option (List ℕ)) (now : ℕ) (answer : HttpResponse) (written : List ℕ) → FirstComes request old.requests new.requests → IfSome given (λ moment. now ≡ moment)
        → IsServed request now old.custody answer new.custody → IsBeginning written (response_bytes answer) → GainsResponse written old.responses new.responses → HasMovedByConnections given old new place
    exchanged honest request now answer written comes moment served begins gains =
        let client = first_came request old.requests new.requests at.known comes in
        let r = responds_so tells old.custody new.custody honest client.input now place at.there answer (subst (λ known. IsServed known now old.custody answer new.custody) client.is served) in
        one_moved old new place (Exchanged (exchange client.input now r.did answer written)) r.went.next
        (record { each = (moment, tt); requests = client.came; responses = one_taken written old.responses new.responses gains })
        (is_up old.custody place at.there, r.responds written, begins, r.went.goes) client.known r.went.there

    one_connection : IsHonestIn new.custody → IsConnection given old new → HasMovedByConnections given old new place
    one_connection honest (inl nobody) = stayed old new place at nobody.1
    one_connection honest (inr (inl c)) = exchanged honest c.request c.now c.answer (response_bytes c.answer) c.comes c.at c.step (whole_begins (response_bytes c.answer)) c.response
    one_connection honest (inr (inr (inl c))) =
        let client = first_came c.request old.requests new.requests at.known c.comes in
        let none = nothing tells old.custody new.custody honest client.input 0 place at.there (subst (λ known. IsNoCommand known old.custody new.custody) client.is c.step) in
        one_moved old new place (Unread client.input none.did) none.went.next
        (record { each = (tt, tt); requests = client.came; responses = one_taken [] old.responses new.responses c.response })
        (is_up old.custody place at.there, none.no_command, none.went.goes) client.known none.went.there
    one_connection honest (inr (inr (inr c))) =
        exchanged honest c.request c.now c.answer (take c.taken (response_bytes c.answer)) c.comes c.at c.step (c.taken, c.within, refl) c.response

    -- and a stop within it
    module _ (rows : Rows) (image : List ℕ) (pair : Pair) (may : (store_state_of database (open_custody_of old.custody)).may_leave rows) (since : MayLeaveImageSince (open_custody_of old.custody) (open_custody_of new.custody) image) (finds : Finds rows image pair) where
      abbrev IsStopped : Type 0
      IsStopped = (stop : ServiceEvent) × IsStopInConnection given old pair stop × ServiceMoves place stop (Left rows image)

      stopped_within : {did : Option Event} (input : List ℕ) (now : ℕ) → (others : List (List ℕ)) × (old.requests ≡ Some (input ∷ others)) → IfSome given (λ moment. now ≡ moment)
          → Went tells old.custody new.custody place input now did → IsStopped
      stopped_within input now first moment went =
          let stop = went.stops rows image pair may since finds in
          (StoppedInRequest input now stop.0, (first, moment), (is_up old.custody place at.there, stop.1, stop.2))

      stopped_answering : IsHonestIn new.custody → (request : Option (List ℕ)) (now : ℕ) (answer : HttpResponse) → FirstComes request old.requests new.requests → IfSome given (λ moment. now ≡ moment) → IsServed request now old.custody answer new.custody → IsStopped
      stopped_answering honest request now answer comes moment served =
          let client = first_came request old.requests new.requests at.known comes in
          let r = responds_so tells old.custody new.custody honest client.input now place at.there answer (subst (λ known. IsServed known now old.custody answer new.custody) client.is served) in
          stopped_within client.input now client.first moment r.went

      stop_in_one : IsHonestIn new.custody → IsConnection given old new → IsStopped
      stop_in_one honest (inl nobody) =
          let same = ap (λ (s : ServerState (Custody V S g database)). s.custody) nobody.1 in
          let still = since_same g.moment g.left_at (volume_of (open_custody_of old.custody).vault) image (subst (λ (c : Custody V S g database). MayLeaveImageSince (open_custody_of old.custody) (open_custody_of c) image) same since) in
          (OutsideRequest (StoppedAtRest pair), (nobody.0, refl), stop_at_rest place rows image pair (at.there.leaves rows image may still) finds)
      stop_in_one honest (inr (inl c)) = stopped_answering honest c.request c.now c.answer c.comes c.at c.step
      stop_in_one honest (inr (inr (inl c))) =
          let client = first_came c.request old.requests new.requests at.known c.comes in
          let now = unwrap_or given 0 in
          let none = nothing tells old.custody new.custody honest client.input now place at.there (subst (λ known. IsNoCommand known old.custody new.custody) client.is c.step) in
          stopped_within client.input now client.first (at_given given) none.went
      stop_in_one honest (inr (inr (inr c))) = stopped_answering honest c.request c.now c.answer c.comes c.at c.step

    -- ---- no further connection

    ended : (fault : ServiceError) → ServiceErrorLeaves fault old new → HasMovedByConnections given old new place
    ended (Socket port cause) left = stayed old new place at left
    ended Clock (inl nobody) = stayed old new place at nobody.1
    ended Clock (inr came) =
        let client = first_came came.0 old.requests new.requests at.known came.1 in
        one_moved old new place (Unread client.input None) place
        (record { each = (tt, tt); requests = client.came; responses = one_taken [] old.responses new.responses came.2 })
        (is_up old.custody place at.there, tt, refl) client.known (subst (λ (c : Custody V S g database). IsCustodyAt database c place) (sym came.3) at.there)
    ended (Closed why) left = stayed old new place at left

  -- ---- all of them

  connected : (count : ℕ) (old new : ServerState (Custody V S g database)) (place : Place) → IsServerAt old place → AreConnections given count old new → IsHonestIn new.custody → HasMovedByConnections given old new place
  connected zero old new place at same honest = stayed old new place at same
  connected (suc n) old new place at turns honest =
      let first = connected n old turns.0 place at turns.1 (honest_connected given turns.0 new turns.2 honest) in
      then_moved old turns.0 new place first (one_connection turns.0 new first.next first.there honest turns.2)

-- ---- the law

module _ {V S : Type 0} (g : volume.Ghosts V) (database : Ghosts S) (tells : g.tells) where
  pub connections_move : ConnectionsMove g database
  connections_move given count (Ok done) old new place at turns honest = connected tells given count old new place at turns honest
  connections_move given count (Err fault) old new place at ends honest =
      let first = connected tells given ends.served old ends.last place at ends.turns (honest_ended fault ends.last new ends.left honest) in
      then_moved tells given old ends.last new place first (ended tells given ends.last new first.next first.there fault ends.left)

  pub connections_may_stop : ConnectionsMayStop g database
  connections_may_stop given count old last unfinished place at turns next honest rows image pair may since finds =
      let first = connected tells given count old last place at turns (honest_connected given last unfinished next honest) in
      let stop = stop_in_one tells given last unfinished first.next first.there rows image pair may since finds honest next in
      let moves = serves_join place first.events (stop.0 ∷ []) first.next (Left rows image) first.moves (Left rows image, stop.2, refl) in
      record { events = first.events; are_events = first.are_events; stop = stop.0; is_stop = stop.1; moves = moves; history = λ first begun. record { start = place; end = Left rows image; begun = begun; along = moves } }
