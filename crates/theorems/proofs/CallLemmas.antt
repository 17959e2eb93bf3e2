-- Each call of a custody is a move, and so is a stop within it.
use Rattle.std.proofs.Common.{◌≡◌, ◌⊎◌, inl, inr, ℕ, List, Option, Bool, true, false, refl, sym, ◌∙◌, ap, subst, Result, Ok, Err}
use Rattle.std.specs.Prelude.{is_none}
use Rattle.vault_volume.specs.declared.volume.Volume as volume
use Rattle.vault_volume.specs.Vault.{volume_of}
use Rattle.sqlite.specs.Store.{Ghosts}
use Rattle.custody_records.specs.Records.{Records}
use Rattle.custody_records.specs.Rows.{Rows}
use Rattle.custody_machine.specs.State.{State}
use Rattle.custody_machine.specs.Machine.{Command, TimedCommand, Receive}
use Rattle.custody_machine.specs.History.{IsFoundWithin, MayFind, Event, Pair, Answered, AnsweredOtherCall, ShutDown, StoppedAtRest, StoppedWithin}
use Rattle.custody_machine.specs.StoredState.{StandsFor, HasDigests, OpensFrom, state_in}
use Rattle.custody_machine.specs.Moves.{Place, Serving, Shut, Left, MayLeave, MayLeaveWithin, Moves, Finds, IsInState}
use Rattle.custody_machine.specs.Custody.{IsAtPlace, other_call_event}
use Rattle.custody_machine.proofs.Moves.{pair_of, finds_some}
use Rattle.custody_machine.proofs.Stored.{stands_of, sound_of}
use Rattle.custody.specs.declared.answers.Reply.{Reply}
use Rattle.custody.specs.declared.answers.Refused.{Refused}
use Rattle.custody.specs.declared.receiving.ReceiveError.{ReceiveError}
use Rattle.custody.specs.declared.receiving.ReceiveError.TheVariants as receive_error
use Rattle.custody.specs.declared.custody.Custody.{Custody}
use Rattle.custody.specs.Answers.{answer_of, stays_open}
use Rattle.custody.specs.OpenCustody.{current_records, store_state_of, image_of, MayLeaveImageSince}
use Rattle.custody.specs.OtherCalls.{RecordsNothing}
use Rattle.custody.specs.Custody.{open_custody_of, is_open, HasApplied}
use Rattle.custody.specs.Receiving.{IsPartBody}
use Rattle.custody.specs.Auditing.{as_refused}
use Rattle.custody.proofs.OpenCustodyLemmas.{since_same}
use Rattle.theorems.specs.Sessions.{IsServing, place_of}
use Rattle.theorems.specs.Requests.{IsCustodyAt}
use Rattle.theorems.specs.CustodyCalls.{CustodyCall, Applies, Receives, Fetches, Previews, Explains, Audits, IsReceived, IsCallEvent, IsStopWithinCall, HasCalled, CallsMove, CallsMayStop}
use Rattle.theorems.proofs.RunMoves.{is_serving, is_shut, serves_on}
use Rattle.theorems.proofs.SessionLemmas.{stop_at_rest}

-- ---- stops

-- A stop may leave rows and an image by this event, whatever is found of them; and of a place that is in a state something is.
pub record MayStopBy (place : Place) (stop : Pair → Event) (rows : Rows) (image : List ℕ) : Type 0 where
  pub moves : (pair : Pair) → Finds rows image pair → Moves place (stop pair) (Left rows image)
  pub finds : (state : State) → IsInState state place → (pair : Pair) × Finds rows image pair

pair_found : (records : Records) (image : List ℕ) (P : State → Type 0) (rows : Rows) (left : List ℕ) → HasDigests image records → OpensFrom records image P rows left → (pair : Pair) × Finds rows left pair
pair_found records image P rows left has o =
    let state = state_in o.records left in
    (pair_of state, finds_some rows left state (stands_of records image P rows left o) (sound_of records image P rows left o has))

pub stops_at_rest : (place : Place) (rows : Rows) (left : List ℕ) → MayLeave place rows left → MayStopBy place StoppedAtRest rows left
stops_at_rest place rows left may = record { moves = λ pair finds. stop_at_rest place rows left pair may finds; finds = by place may }
  where
    by : (place : Place) → MayLeave place rows left → (state : State) → IsInState state place → (pair : Pair) × Finds rows left pair
    by (Serving records image) may state here = pair_found records image (λ found. found ≡ state_in records image) rows left here.1 may
    by (Shut records image doubt) may state here = pair_found records image (MayFind (state_in records image) doubt) rows left here.1 may
    by (Left before image) may state here =
        let s : StandsFor before image state = here.0 in
        pair_found s.records image (λ found. found ≡ state_in s.records image) rows left (here.1 s.records s.in_form) (may s.records s.in_form s.good)

pub stops_within : (place : Place) (command : Command) (now : ℕ) (rows : Rows) (left : List ℕ) → MayLeaveWithin place command now rows left → MayStopBy place (StoppedWithin command now) rows left
stops_within (Serving records image) command now rows left may = record {
  moves = λ pair finds. (rows, left, may, finds, refl);
  finds = λ state here. pair_found records image (IsFoundWithin (state_in records image) command now) rows left here.1 may;
}
stops_within (Shut records image doubt) command now rows left may = record {
  moves = λ pair finds. (rows, left, may, finds, refl);
  finds = λ state here. pair_found records image (MayFind (state_in records image) doubt) rows left here.1 may;
}
stops_within (Left before image) command now rows left may = absurd may

-- a closed custody stays so
pub stays_shut : (records : Records) (image : List ℕ) (doubt : Option TimedCommand) (b : Bool) → Moves (Shut records image doubt) (other_call_event b) (Shut records image doubt)
stays_shut records image doubt true = refl
stays_shut records image doubt false = refl

-- one of two events
either_event : (b : Bool) → (other_call_event b ≡ AnsweredOtherCall) ⊎ (other_call_event b ≡ ShutDown)
either_event true = inl refl
either_event false = inr refl

module _ {V S : Type 0} {g : volume.Ghosts V} {database : Ghosts S} where
  -- An event has taken a custody from a place to another, and a stop at any moment of it is by this event.
  pub record IsTaken (old new : Custody V S g database) (place : Place) (event : Event) (stop : Pair → Event) : Type 0 where
    pub next : Place
    pub moves : Moves place event next
    pub there : IsCustodyAt database new next
    pub stops : (rows : Rows) (image : List ℕ) → (store_state_of database (open_custody_of old)).may_leave rows → MayLeaveImageSince (open_custody_of old) (open_custody_of new) image → MayStopBy place stop rows image

  -- a custody that stays as it was
  stays : (old new : Custody V S g database) (place : Place) → IsCustodyAt database old place → new ≡ old → (event : Event) → Moves place event place
      → (stop : Pair → Event) → ((rows : Rows) (image : List ℕ) → MayLeave place rows image → MayStopBy place stop rows image) → IsTaken old new place event stop
  stays old new place h same event moves stop may_stop = record {
    next = place;
    moves = moves;
    there = subst (λ c. IsCustodyAt database c place) (sym same) h;
    stops = λ rows image left since.
        let still = since_same g.moment g.left_at (volume_of (open_custody_of old).vault) image (subst (λ (c : Custody V S g database). MayLeaveImageSince (open_custody_of old) (open_custody_of c) image) same since) in
        may_stop rows image (h.leaves rows image left still);
  }

  -- from wherever it is: open, or closed
  from_place : (old new : Custody V S g database) (event : Event) (stop : Pair → Event) (place : Place) → IsCustodyAt database old place
      → (IsServing database old → IsTaken old new (place_of database old) event stop)
      → (is_open old ≡ false → (records : Records) (image : List ℕ) (doubt : Option TimedCommand) → IsCustodyAt database old (Shut records image doubt) → IsTaken old new (Shut records image doubt) event stop)
      → IsTaken old new place event stop
  from_place old new event stop place h opened closed = by (is_open old) refl
    where
      by : (b : Bool) → is_open old ≡ b → IsTaken old new place event stop
      by true is = subst (λ p. IsTaken old new p event stop) (sym (is_serving (is_open old) (current_records (open_custody_of old)) (image_of (open_custody_of old)) place is h.is_at)) (opened (h.serves is))
      by false is =
          let shut = is_shut (is_open old) (current_records (open_custody_of old)) (image_of (open_custody_of old)) place is h.is_at in
          subst (λ p. IsTaken old new p event stop) (sym shut.3) (closed is shut.0 shut.1 shut.2 (subst (IsCustodyAt database old) shut.3 h))

module _ {V S : Type 0} {g : volume.Ghosts V} {database : Ghosts S} (tells : g.tells) (old new : Custody V S g database) where
  -- ---- a call that is no command

  pub rested : (b : Bool) → is_open new ≡ b → IsServing database old → RecordsNothing database (open_custody_of old) (is_open new) (open_custody_of new) → IsTaken old new (place_of database old) (other_call_event b) StoppedAtRest
  rested b is serving h =
      let r = h.rests tells serving.image serving.rows in record {
        next = r.next;
        moves = subst (λ c. Moves (place_of database old) (other_call_event c) r.next) is r.moves;
        there = record { is_at = r.is_at; leaves = r.leaves.at_exit; serves = λ opened. record { opened = opened; image = h.image opened tells serving.image; rows = h.rows serving.rows } };
        stops = λ rows image left since. stops_at_rest (place_of database old) rows image (r.leaves.within rows image left since);
      }

  pub taken_by_other : (place : Place) → IsCustodyAt database old place → (b : Bool) → (is_open old ≡ false → new ≡ old) → (is_open old ≡ true → is_open new ≡ b)
      → (is_open old ≡ true → RecordsNothing database (open_custody_of old) (is_open new) (open_custody_of new)) → IsTaken old new place (other_call_event b) StoppedAtRest
  taken_by_other place h b closed opens did = from_place old new (other_call_event b) StoppedAtRest place h
      (λ serving. rested b (opens serving.opened) serving (did serving.opened))
      (λ is records image doubt at.
      stays old new (Shut records image doubt) at (closed is) (other_call_event b) (stays_shut records image doubt b) StoppedAtRest (stops_at_rest (Shut records image doubt)))

  -- ---- a command

  pub applied : (command : Command) (now : ℕ) (answer : Result Reply Refused) → (store_state_of database (open_custody_of new)).IsHonest → IsServing database old → HasApplied old command now answer new
      → IsTaken old new (place_of database old) (Answered command now (answer_of command answer)) (StoppedWithin command now)
  applied command now answer honest serving h =
      let did = (h.done serving.opened).serves tells honest serving.image serving.rows in
      let opens = sym (ap is_none (h.closes serving.opened)) in record {
        next = did.next;
        moves = did.moves;
        there = record {
          is_at = subst (λ b. IsAtPlace b (current_records (open_custody_of new)) (image_of (open_custody_of new)) did.next) opens did.is_at;
          leaves = did.leaves.at_exit;
          serves = λ opened. serves_on tells old new command now answer serving honest h (opens ∙ opened);
        };
        stops = λ rows image left since. stops_within (place_of database old) command now rows image (did.leaves.within rows image left since);
      }

  pub taken_by_command : (place : Place) → IsCustodyAt database old place → (command : Command) (now : ℕ) (answer : Result Reply Refused) → (store_state_of database (open_custody_of new)).IsHonest → HasApplied old command now answer new
      → IsTaken old new place (Answered command now (answer_of command answer)) (StoppedWithin command now)
  taken_by_command place h command now answer honest did = from_place old new (Answered command now (answer_of command answer)) (StoppedWithin command now) place h
      (λ serving. applied command now answer honest serving did)
      (λ is records image doubt at.
      stays old new (Shut records image doubt) at (did.closed is).1 (Answered command now (answer_of command answer)) (ap (answer_of command) (did.closed is).0, refl)
      (StoppedWithin command now) (stops_within (Shut records image doubt) command now))

  -- ---- any call

  -- The call is this event, and a stop within it that one.
  pub record IsTakenByCall (place : Place) (call : CustodyCall) : Type 0 where
    pub event : Event
    pub stop : Pair → Event
    pub is_event : IsCallEvent call event
    pub is_stop : (pair : Pair) → IsStopWithinCall call pair (stop pair)
    pub taken : IsTaken old new place event stop

  -- a part that came whole
  whole : (place : Place) (name : List ℕ) (len : ℕ) (first : List ℕ) (known : Option (List ℕ)) (now : ℕ) (result : Result Reply ReceiveError) (answer : Result Reply Refused)
      → ((event : Event) → IsReceived name len first known now answer event → IsCallEvent (Receives name len first known now result) event)
      → IsCustodyAt database old place → (store_state_of database (open_custody_of new)).IsHonest → (body : List ℕ) × IsPartBody known first len body × HasApplied old (Receive name body) now answer new
      → IsTakenByCall place (Receives name len first known now result)
  whole place name len first known now result answer is_event h honest came = record {
    event = Answered (Receive name came.0) now (answer_of (Receive name came.0) answer);
    stop = StoppedWithin (Receive name came.0) now;
    is_event = is_event (Answered (Receive name came.0) now (answer_of (Receive name came.0) answer)) (came.0, came.1, refl);
    is_stop = λ pair. inl (came.0, came.1, refl);
    taken = taken_by_command place h (Receive name came.0) now answer honest came.2;
  }

  -- and a call that is no command
  other : (place : Place) (call : CustodyCall) (b : Bool) → IsCallEvent call (other_call_event b) → ((pair : Pair) → IsStopWithinCall call pair (StoppedAtRest pair))
      → IsCustodyAt database old place → (is_open old ≡ false → new ≡ old) → (is_open old ≡ true → is_open new ≡ b)
      → (is_open old ≡ true → RecordsNothing database (open_custody_of old) (is_open new) (open_custody_of new)) → IsTakenByCall place call
  other place call b is_event is_stop h closed opens did = record { event = other_call_event b; stop = StoppedAtRest; is_event = is_event; is_stop = is_stop; taken = taken_by_other place h b closed opens did }

  pub taken_by_call : (place : Place) (call : CustodyCall) → IsCustodyAt database old place → (store_state_of database (open_custody_of new)).IsHonest → HasCalled old call new → IsTakenByCall place call
  taken_by_call place (Applies command now answer) h honest did = record {
    event = Answered command now (answer_of command answer);
    stop = StoppedWithin command now;
    is_event = refl;
    is_stop = λ pair. refl;
    taken = taken_by_command place h command now answer honest did;
  }
  taken_by_call place (Receives name len first known now (Ok reply)) h honest did = whole place name len first known now (Ok reply) (Ok reply) (λ event is. is) h honest did
  taken_by_call place (Receives name len first known now (Err (receive_error.Refused refused))) h honest did =
      whole place name len first known now (Err (receive_error.Refused refused)) (Err refused) (λ event is. is) h honest did
  taken_by_call place (Receives name len first known now (Err receive_error.Short)) h honest did = other place (Receives name len first known now (Err receive_error.Short)) (is_open new)
      (either_event (is_open new)) (λ pair. inr refl) h did.1.closed (λ _. refl) did.1.rested
  taken_by_call place (Receives name len first known now (Err receive_error.ReadFailed)) h honest did = other place (Receives name len first known now (Err receive_error.ReadFailed)) (is_open new)
      (either_event (is_open new)) (λ pair. inr refl) h did.closed (λ _. refl) did.rested
  taken_by_call place (Fetches reference name answer) h honest did = other place (Fetches reference name answer) (stays_open answer)
      refl (λ pair. refl) h (λ is. (did.closed is).1) (λ is. ap is_none (did.closes is)) did.rested
  taken_by_call place (Previews stated now answer) h honest did = other place (Previews stated now answer) (stays_open answer)
      refl (λ pair. refl) h (λ is. (did.closed is).1) (λ is. ap is_none (did.closes is)) did.rested
  taken_by_call place (Explains tld day rev answer) h honest did = other place (Explains tld day rev answer) (stays_open answer)
      refl (λ pair. refl) h (λ is. (did.closed is).1) (λ is. ap is_none (did.closes is)) did.rested
  taken_by_call place (Audits answer) h honest did = other place (Audits answer) (stays_open (as_refused answer))
      refl (λ pair. refl) h (λ is. (did.closed is).1) (λ is. ap is_none (did.closes is)) did.rested

  -- ---- the laws

  pub calls_move : CallsMove database old new
  calls_move place call h did honest =
      let c = taken_by_call place call h honest did in
      record { event = c.event; is_event = c.is_event; next = c.taken.next; moves = c.taken.moves; there = c.taken.there }

  pub calls_may_stop : CallsMayStop database old new
  calls_may_stop place call h did honest rows image pair left since finds =
      let c = taken_by_call place call h honest did in
      (c.stop pair, c.is_stop pair, (c.taken.stops rows image left since).moves pair finds)
