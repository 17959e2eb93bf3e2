-- What `serve_one` does to a custody is an event of a service.
use Rattle.std.proofs.Common.{◌≡◌, ℕ, List, [], ◌++◌, Option, Some, None, Bool, true, false, inl, inr, refl, sym, ◌∙◌, ap, subst, if◌then◌else◌, Result, Ok, Err}
use Rattle.std.specs.Prelude.{is_none, length, take}
use Rattle.vault_volume.specs.declared.volume.Volume as volume
use Rattle.vault_volume.specs.Vault.{volume_of}
use Rattle.sqlite.specs.Store.{Ghosts}
use Rattle.custody_records.specs.Rows.{Rows}
use Rattle.custody_records.specs.Records.{Records, key_of}
use Rattle.custody_machine.specs.declared.answers.Failure.TheVariants.{Closed}
use Rattle.custody_machine.specs.Machine.{Command, TimedCommand, Failed}
use Rattle.custody_machine.specs.Rulings.{command_bytes}
use Rattle.custody_machine.specs.History as history
use Rattle.custody_machine.specs.History.{Answered, StoppedAtRest, Pair}
use Rattle.custody_machine.specs.Moves.{Place, Serving, Shut, Left, Moves, Finds}
use Rattle.custody_machine.specs.Custody.{IsAtPlace, other_call_event}
use Rattle.custody.specs.declared.answers.Record as code
use Rattle.custody.specs.declared.answers.Record.TheVariants as record_of
use Rattle.custody.specs.declared.answers.Reply.{Reply}
use Rattle.custody.specs.declared.answers.Refused as not_accepted
use Rattle.custody.specs.declared.answers.Refused.TheVariants as refused
use Rattle.custody.specs.declared.custody.Custody.{Custody}
use Rattle.custody.specs.Answers.{answer_of, machine_record, stays_open}
use Rattle.custody.specs.Custody.{HasApplied, open_custody_of, is_open}
use Rattle.custody.specs.OpenCustody.{current_records, store_state_of, image_of, MayLeaveImageSince}
use Rattle.custody.specs.OtherCalls.{RecordsNothing}
use Rattle.theorems.specs.Sessions.{IsServing, place_of}
use Rattle.custody.specs.ReplyRecords.{HoldsBytes, IsRecorded}
use Rattle.custody.proofs.Uploads.{long_part}
use Rattle.custody.proofs.OpenCustodyLemmas.{since_same}
use Rattle.answer_lines.specs.Lines.{line_text}
use Rattle.answer_lines.specs.Printing.{as_line, reply_text}
use Rattle.answer_lines.specs.declared.lines.Line.TheVariants as line
use Rattle.http_request.specs.RequestMeaning.{RequestMeaning, RequestMeans, SendsPart, asks_for, bad}
use Rattle.http_request.specs.declared.faults.RequestFault.{RequestFault}
use Rattle.http_request.specs.declared.faults.RequestFault.TheVariants as fault
use Rattle.http_request.specs.Action.{RequestAction, Do, Report, Explain, State, Due, Digests, Fetch}
use Rattle.http_api.specs.declared.handling.Served.{Served}
use Rattle.http_api.specs.declared.handling.ServeError.{ServeError}
use Rattle.http_api.specs.declared.handling.ServeError.TheVariants as failed
use Rattle.http_api.specs.declared.status.ResponseStatus.TheVariants.{Done}
use Rattle.http_api.specs.Responses.{HttpResponse, response_bytes, text_response}
use Rattle.http_api.specs.Handling as served
use Rattle.http_api.specs.Handling.{IsServed, response_of, reply_status}
use Rattle.theorems.specs.Responses.{response_to, accepted_status, record_text, status_of}
use Rattle.theorems.specs.Service.{Exchange, Exchanged, Unread, StoppedInRequest, MovesIfAny, IsBeginning, IsNoCommandEvent, IsStopWithin, IsUp, Responds, ServiceMoves}
use Rattle.theorems.proofs.RunMoves.{is_serving, is_shut, serves_on}
use Rattle.theorems.proofs.CallLemmas.{IsTaken, stays_shut, rested, applied}
use Rattle.theorems.proofs.SessionLemmas.{stop_at_rest}
use Rattle.theorems.proofs.Beginnings.{whole_begins}
use Rattle.theorems.specs.Requests.{ServeCall, ServeReturns, HasAnswered, HasMovedByCall, IsEventOf, IsCustodyAt, RequestsMove, RequestsMayStop, MayStopAfterwards}

-- ---- what is told of a reply

-- the length that is told of a part is that of the command's bytes
abbrev HasLength : List ℕ → code.Record → Type 0
HasLength bytes (record_of.Part name received len digest extents) = len ≡ length bytes
HasLength bytes _ = Unit {0}

same_text : (bytes : List ℕ) (told : code.Record) → HasLength bytes told → reply_text told ≡ record_text (machine_record bytes told)
same_text bytes (record_of.Part name received len digest extents) h = ap (λ n. as_line (line_text (line.Received name n received)) ++ []) h
same_text bytes _ h = refl

same_status : (bytes : List ℕ) (reply : Reply) → reply_status reply ≡ status_of (record { entry = machine_record bytes reply.record; is_repeat = reply.is_repeat })
same_status bytes reply = ap (λ s. if reply.is_repeat then Done else s) (by reply.record)
  where
    by : (told : code.Record) → served.new_record_status told ≡ accepted_status (machine_record bytes told)
    by (record_of.Registry tld first_day) = refl
    by _ = refl

-- ---- places and texts

abbrev pub exchange : List ℕ → ℕ → Option history.Event → HttpResponse → List ℕ → Exchange
exchange input now did answer written = record { input = input; now = now; did = did; answer = answer; written = written }

sends : (b : Bool) (input : List ℕ) → SendsPart input → IsNoCommandEvent input (Some (other_call_event b))
sends true input part = part
sends false input part = part

module _ {V S : Type 0} {g : volume.Ghosts V} {database : Ghosts S} where
  pub is_up : (custody : Custody V S g database) (place : Place) → IsCustodyAt database custody place → IsUp place
  is_up custody (Serving records image) h = tt
  is_up custody (Shut records image doubt) h = tt
  is_up custody (Left rows image) h = none (is_open custody) h.is_at
    where
      none : (b : Bool) → IsAtPlace b (current_records (open_custody_of custody)) (image_of (open_custody_of custody)) (Left rows image) → ⊥
      none true at = at
      none false at = at

  pub may_stop_afterwards : (new : Custody V S g database) → MayStopAfterwards database new
  may_stop_afterwards new place h rows image may left pair finds = stop_at_rest place rows image pair (h.leaves rows image may left) finds

module _ {V S : Type 0} {g : volume.Ghosts V} {database : Ghosts S} (tells : g.tells) where
  -- a part that is told has its length
  has_length : (new : Custody V S g database) (bytes : List ℕ) → IsServing database new → (told : code.Record) → IsRecorded (current_records (open_custody_of new)) told → HoldsBytes (image_of (open_custody_of new)) told bytes → HasLength bytes told
  has_length new bytes serving (record_of.Part name received len digest extents) at holds =
      let order = new.order serving.opened in
      let are = order.whole.extents (key_of name) _ at in
      sym (long_part (image_of (open_custody_of new)) (current_records (open_custody_of new)).blocks extents.items len serving.image.volume.size are) ∙ ap length holds
  has_length new bytes serving _ at holds = tt

  -- ---- from a place

  -- it has gone from its place by what it did, and a stop at any moment of it is one within the request
  pub record Went (old new : Custody V S g database) (place : Place) (input : List ℕ) (now : ℕ) (did : Option history.Event) : Type 0 where
    pub next : Place
    pub goes : MovesIfAny place did next
    pub there : IsCustodyAt database new next
    pub stops : (rows : Rows) (image : List ℕ) (pair : Pair) → (store_state_of database (open_custody_of old)).may_leave rows → MayLeaveImageSince (open_custody_of old) (open_custody_of new) image → Finds rows image pair
        → (stop : history.Event) × IsStopWithin input now stop × Moves place stop (Left rows image)

  -- a custody that stays as it was
  stays : (old new : Custody V S g database) (place : Place) (input : List ℕ) (now : ℕ) → IsCustodyAt database old place → new ≡ old → (did : Option history.Event) → MovesIfAny place did place → Went old new place input now did
  stays old new place input now h same did goes = record {
    next = place;
    goes = goes;
    there = subst (λ c. IsCustodyAt database c place) (sym same) h;
    stops = λ rows image pair may since finds.
        let left = since_same g.moment g.left_at (volume_of (open_custody_of old).vault) image (subst (λ (c : Custody V S g database). MayLeaveImageSince (open_custody_of old) (open_custody_of c) image) same since) in
        (StoppedAtRest pair, tt, stop_at_rest place rows image pair (h.leaves rows image may left) finds);
  }

  -- one that an event has taken on
  by_event : (old new : Custody V S g database) (place : Place) (input : List ℕ) (now : ℕ) (event : history.Event) (stop : Pair → history.Event) → IsTaken old new place event stop → ((pair : Pair) → IsStopWithin input now (stop pair))
      → Went old new place input now (Some event)
  by_event old new place input now event stop taken is_stop = record {
    next = taken.next;
    goes = taken.moves;
    there = taken.there;
    stops = λ rows image pair may since finds. (stop pair, is_stop pair, (taken.stops rows image may since).moves pair finds);
  }

  -- ---- an open custody

  module _ (old new : Custody V S g database) (serving : IsServing database old) (honest : (store_state_of database (open_custody_of new)).IsHonest) (input : List ℕ) (now : ℕ) where
    -- a call that is no command
    went_rested : (b : Bool) → is_open new ≡ b → RecordsNothing database (open_custody_of old) (is_open new) (open_custody_of new) → Went old new (place_of database old) input now (Some (other_call_event b))
    went_rested b is h = by_event old new (place_of database old) input now (other_call_event b) StoppedAtRest (rested tells old new b is serving h) (λ pair. tt)

    -- a command
    went_applied : (command : Command) (r : Result Reply not_accepted.Refused) → RequestMeans input (asks_for (Do command)) → HasApplied old command now r new → Went old new (place_of database old) input now (Some (Answered command now (answer_of command r)))
    went_applied command r asks h =
        by_event old new (place_of database old) input now (Answered command now (answer_of command r)) (history.StoppedWithin command now) (applied tells old new command now r honest serving h) (λ pair. (refl, asks))

    -- and its response
    answered : (command : Command) (r : Result Reply not_accepted.Refused) → HasApplied old command now r new → response_of r ≡ response_to (answer_of command r)
    answered command (Ok reply) h =
        let all = h.done serving.opened in
        let on = serves_on tells old new command now (Ok reply) serving honest h refl in
        λ i. text_response (same_status (command_bytes command) reply i) (same_text (command_bytes command) reply.record (has_length new (command_bytes command) on reply.record all.shown (all.holds tells)) i)
    answered command (Err (refused.Refusal refusal)) h = refl
    answered command (Err (refused.Failure failure)) h = refl

  -- ---- from any place on

  -- what a request did, and its answer
  pub record Response (old new : Custody V S g database) (place : Place) (input : List ℕ) (now : ℕ) (answer : HttpResponse) : Type 0 where
    pub did : Option history.Event
    pub responds : (written : List ℕ) → Responds place (exchange input now did answer written)
    pub went : Went old new place input now did

  -- no command was did
  pub record Nothing (old new : Custody V S g database) (place : Place) (input : List ℕ) (now : ℕ) : Type 0 where
    pub did : Option history.Event
    pub no_command : IsNoCommandEvent input did
    pub went : Went old new place input now did

  module _ (old new : Custody V S g database) (honest : (store_state_of database (open_custody_of new)).IsHonest) (input : List ℕ) (now : ℕ) where
    pub nothing : (place : Place) → IsCustodyAt database old place → served.IsNoCommand (Some input) old new → Nothing old new place input now
    nothing place h (inl same) = record { did = None; no_command = tt; went = stays old new place input now h same None refl }
    nothing place h (inr ended) = by (is_open old) refl
      where
        by : (b : Bool) → is_open old ≡ b → Nothing old new place input now
        by false closed = record { did = None; no_command = tt; went = stays old new place input now h (ended.1.closed closed) None refl }
        by true opened = subst (λ p. Nothing old new p input now) (sym (is_serving (is_open old) (current_records (open_custody_of old)) (image_of (open_custody_of old)) place opened h.is_at)) (record {
          did = Some (other_call_event (is_open new));
          no_command = sends (is_open new) input ended.0;
          went = went_rested old new (h.serves opened) honest input now (is_open new) refl (ended.1.rested opened);
        })

    -- nothing was done, and it is answered so
    unmoved : (place : Place) → IsCustodyAt database old place → new ≡ old → (answer : HttpResponse)
        → ((written : List ℕ) → Responds place (exchange input now None answer written)) → Response old new place input now answer
    unmoved place h same answer responds = record { did = None; responds = responds; went = stays old new place input now h same None refl }

    -- a fault of the request
    faulty : (place : Place) → IsCustodyAt database old place → (found : RequestFault) (answer : HttpResponse) → RequestMeans input (bad found) → answer ≡ served.fault_response found → served.FaultLeaves (Some input) found old new → Response old new place input now answer
    faulty place h fault.BodyShort answer asks is left = let none = nothing place h left in record { did = none.did; responds = λ written. inl (bad fault.BodyShort, asks, (is, none.no_command)); went = none.went }
    faulty place h found answer asks is left = unmoved place h left answer (λ written. inl (bad found, asks, (is, refl)))

    -- what the records tell, where the custody is open
    abbrev told_if : (Records → HttpResponse) → Bool → HttpResponse
    told_if told b = if b then told (current_records (open_custody_of old)) else served.failure_response Closed

    -- what an open custody does
    does_open : (serving : IsServing database old) → IsCustodyAt database old (place_of database old) → (wanted : RequestAction) (answer : HttpResponse) → RequestMeans input (asks_for wanted) → served.Performs wanted now old answer new → Response old new (place_of database old) input now answer
    does_open serving h (Do command) answer asks did = record {
      did = Some (Answered command now (answer_of command did.0));
      responds = λ written. inl (asks_for (Do command), asks, (answer_of command did.0, refl, did.2 ∙ answered old new serving honest input now command did.0 did.1));
      went = went_applied old new serving honest input now command did.0 asks did.1;
    }
    does_open serving h (Report tld) answer asks did = unmoved (place_of database old) h did.1 answer
        (λ written. inl (asks_for (Report tld), asks, (refl, did.0 ∙ ap (told_if (λ records. served.registry_report records tld)) serving.opened)))
    does_open serving h (Explain tld day rev) answer asks did = record {
      did = Some (other_call_event (stays_open did.0));
      responds = λ written. inl (asks_for (Explain tld day rev), asks, (did.0, did.1.told serving.opened tells, refl, did.2));
      went = went_rested old new serving honest input now (stays_open did.0) (ap is_none (did.1.closes serving.opened)) (did.1.rested serving.opened);
    }
    does_open serving h State answer asks did = unmoved (place_of database old) h did.1 answer
        (λ written. inl (asks_for State, asks, (refl, did.0 ∙ ap (told_if served.records_state) serving.opened)))
    does_open serving h Due answer asks did = unmoved (place_of database old) h did.1 answer
        (λ written. inl (asks_for Due, asks, (refl, did.0 ∙ ap (told_if (λ records. served.records_due records now)) serving.opened)))
    does_open serving h (Digests tld) answer asks did = unmoved (place_of database old) h did.1 answer
        (λ written. inl (asks_for (Digests tld), asks, (refl, did.0 ∙ ap (told_if (λ records. served.registry_digests records tld)) serving.opened)))
    does_open serving h (Fetch reference name) answer asks did = record {
      did = Some (other_call_event (stays_open did.0));
      responds = λ written. inl (asks_for (Fetch reference name), asks, (did.0, did.1.bytes serving.opened tells, refl, did.2));
      went = went_rested old new serving honest input now (stays_open did.0) (ap is_none (did.1.closes serving.opened)) (did.1.rested serving.opened);
    }

    -- and a closed one
    does_closed : (records : Records) (image : List ℕ) (doubt : Option TimedCommand) → is_open old ≡ false → IsCustodyAt database old (Shut records image doubt) → (wanted : RequestAction) (answer : HttpResponse) → RequestMeans input (asks_for wanted) → served.Performs wanted now old answer new
        → Response old new (Shut records image doubt) input now answer
    does_closed records image doubt closed h (Do command) answer asks did = let same = did.1.closed closed in record {
      did = Some (Answered command now (Failed Closed));
      responds = λ written. inl (asks_for (Do command), asks, (Failed Closed, refl, did.2 ∙ ap response_of same.0));
      went = stays old new (Shut records image doubt) input now h same.1 (Some (Answered command now (Failed Closed))) (refl, refl);
    }
    does_closed records image doubt closed h (Report tld) answer asks did = unmoved (Shut records image doubt) h did.1 answer
        (λ written. inl (asks_for (Report tld), asks, (refl, did.0 ∙ ap (told_if (λ records. served.registry_report records tld)) closed)))
    does_closed records image doubt closed h (Explain tld day rev) answer asks did = let same = did.1.closed closed in record {
      did = Some (other_call_event (stays_open did.0));
      responds = λ written. inl (asks_for (Explain tld day rev), asks, (did.0, same.0, refl, did.2));
      went = stays old new (Shut records image doubt) input now h same.1 (Some (other_call_event (stays_open did.0))) (stays_shut records image doubt (stays_open did.0));
    }
    does_closed records image doubt closed h State answer asks did = unmoved (Shut records image doubt) h did.1 answer
        (λ written. inl (asks_for State, asks, (refl, did.0 ∙ ap (told_if served.records_state) closed)))
    does_closed records image doubt closed h Due answer asks did = unmoved (Shut records image doubt) h did.1 answer
        (λ written. inl (asks_for Due, asks, (refl, did.0 ∙ ap (told_if (λ records. served.records_due records now)) closed)))
    does_closed records image doubt closed h (Digests tld) answer asks did = unmoved (Shut records image doubt) h did.1 answer
        (λ written. inl (asks_for (Digests tld), asks, (refl, did.0 ∙ ap (told_if (λ records. served.registry_digests records tld)) closed)))
    does_closed records image doubt closed h (Fetch reference name) answer asks did = let same = did.1.closed closed in record {
      did = Some (other_call_event (stays_open did.0));
      responds = λ written. inl (asks_for (Fetch reference name), asks, (did.0, same.0, refl, did.2));
      went = stays old new (Shut records image doubt) input now h same.1 (Some (other_call_event (stays_open did.0))) (stays_shut records image doubt (stays_open did.0));
    }

    does : (place : Place) → IsCustodyAt database old place → (wanted : RequestAction) (answer : HttpResponse) → RequestMeans input (asks_for wanted) → served.Performs wanted now old answer new → Response old new place input now answer
    does place h wanted answer asks did = by (is_open old) refl
      where
        by : (b : Bool) → is_open old ≡ b → Response old new place input now answer
        by false closed = let shut = is_shut (is_open old) (current_records (open_custody_of old)) (image_of (open_custody_of old)) place closed h.is_at in
            subst (λ p. Response old new p input now answer) (sym shut.3) (does_closed shut.0 shut.1 shut.2 closed (subst (IsCustodyAt database old) shut.3 h) wanted answer asks did)
        by true opened = let is = is_serving (is_open old) (current_records (open_custody_of old)) (image_of (open_custody_of old)) place opened h.is_at in
            subst (λ p. Response old new p input now answer) (sym is) (does_open (h.serves opened) (subst (IsCustodyAt database old) is h) wanted answer asks did)

    given : (place : Place) → IsCustodyAt database old place → (asked : RequestMeaning) (answer : HttpResponse) → RequestMeans input asked → served.HandlesRequest (Some input) asked now old answer new → Response old new place input now answer
    given place h (bad found) answer asks g = faulty place h found answer asks g.0 g.1
    given place h (asks_for wanted) answer asks g = does place h wanted answer asks g

    pub responds_so : (place : Place) → IsCustodyAt database old place → (answer : HttpResponse) → IsServed (Some input) now old answer new → Response old new place input now answer
    responds_so place h answer (inl r) = given place h r.0 answer r.1 r.2
    responds_so place h answer (inr none) = unmoved place h none.1 answer (λ written. inr (refl, none.0))

  -- ---- the laws

  -- a response, of which this much was written
  answered_so : (old new : Custody V S g database) (place : Place) (call : ServeCall) (result : Result Served ServeError)
      → IsCustodyAt database old place → (store_state_of database (open_custody_of new)).IsHonest → (answer : HttpResponse) → HasAnswered call old new answer → (written : List ℕ) → IsBeginning written (response_bytes answer)
      → ((did : Option history.Event) → IsEventOf call result (Exchanged (exchange call.input call.now did answer written))) → HasMovedByCall database new place call result
  answered_so old new place call result h honest answer was written begins is_event =
      let r = responds_so old new honest call.input call.now place h answer was in record {
        event = Exchanged (exchange call.input call.now r.did answer written);
        is_event = is_event r.did;
        next = r.went.next;
        moves = (is_up old place h, r.responds written, begins, r.went.goes);
        there = r.went.there;
      }

  pub requests_move : (old new : Custody V S g database) → RequestsMove database old new
  requests_move old new place call (Ok ended) h out honest =
      let bytes = response_bytes out.0 in answered_so old new place call (Ok ended) h honest out.0 out.1 bytes (whole_begins bytes) (λ did. (refl, refl, refl, out.2))
  requests_move old new place call (Err failed.Read) h out honest =
      let none = nothing old new honest call.input call.now place h out.0 in record {
        event = Unread call.input none.did;
        is_event = (refl, out.1);
        next = none.went.next;
        moves = (is_up old place h, none.no_command, none.went.goes);
        there = none.went.there;
      }
  requests_move old new place call (Err failed.Write) h out honest =
      let begun = out.2 in
      answered_so old new place call (Err failed.Write) h honest out.0 out.1 (take begun.0 (response_bytes out.0)) (begun.0, begun.1, refl) (λ did. (refl, refl, begun.2))

  pub requests_stop : (old new : Custody V S g database) → RequestsMayStop database old new
  requests_stop old new place call result h out honest rows image pair may since finds = by result out
    where
      Stopped : Type 0
      Stopped = (stop : history.Event) × ServiceMoves place (StoppedInRequest call.input call.now stop) (Left rows image)

      within : {did : Option history.Event} → Went old new place call.input call.now did → Stopped
      within w = let s = w.stops rows image pair may since finds in (s.0, (is_up old place h, s.1, s.2))

      by : (result : Result Served ServeError) → ServeReturns call old result new → Stopped
      by (Err failed.Read) out = within (nothing old new honest call.input call.now place h out.0).went
      by _ out = within (responds_so old new honest call.input call.now place h out.0 out.1).went
