-- The laws of clients. What happens to the custody is a history of the machine, of which the laws of histories and of commands that come again hold.
use Rattle.std.proofs.Common.{◌≡◌, ℕ, List, [], ◌∷◌, ◌++◌, Option, Some, None, is_some, true, false, ◌⊎◌, inl, inr, refl, sym, ◌∙◌, ap, subst, cond, if◌then◌else◌, append_assoc, append-nil}
use Rattle.std.specs.Prelude.{count_by, map}
use Rattle.std.specs.List.{cons_option, flat_map}
use Rattle.custody_machine.specs.declared.answers.Failure.TheVariants.{NoMemory}
use Rattle.custody_machine.specs.State.{State}
use Rattle.custody_machine.specs.StoredState.{StandsFor, state_in}
use Rattle.custody_machine.specs.Machine as machine
use Rattle.custody_machine.specs.Machine.{Command, Purge, TimedCommand, Record, Reply, Accept, Accepted, Refused, Failed, after, state_after, step}
use Rattle.custody_machine.specs.History as history
use Rattle.custody_machine.specs.History.{Answered, OpenedWith, Opened, Pair, Condition, Running, Halted, Stopped, HappensAlong}
use Rattle.custody_machine.specs.Moves.{Place, Serving, Shut, Left, Moves, IsBegun, IsInState}
use Rattle.custody_machine.specs.Retries.{AsksAgain, IsAnsweredAgain, are_same_keys, first_record, has_same_key, command_key, once, step_record}
use Rattle.custody_machine.proofs.Histories.{accepted_is_found, openings_are_right}
use Rattle.custody_machine.proofs.Moves.{Follows, moves_follow, pair_of}
use Rattle.custody_machine.proofs.Keeping.{key_of_asked}
use Rattle.custody_machine.proofs.Retries.{acknowledged_is_kept, acts_once, keys_are_compared, repeats_are_answered}
use Rattle.http_request.specs.RequestMeaning.{RequestMeaning, RequestMeans, RequestsMeanOne, asks_for}
use Rattle.http_request.specs.Action.{Do}
use Rattle.http_api.specs.declared.status.ResponseStatus.TheVariants.{Done}
use Rattle.http_api.specs.Responses.{HttpResponse, text_response}
use Rattle.http_api.specs.Handling.{refusal_response}
use Rattle.theorems.specs.Responses.{response_to, accepted_status, record_text, status_of, tells_accepted, tells_failure}
use Rattle.theorems.specs.Service.{ServiceEvent, Exchange, Exchanged, OutsideRequest, MovesIfAny, IsServiceHistory, IsUp, ServiceMovesAlong, custody_event, custody_events, found_by_service, state_by_service}
use Rattle.theorems.specs.Clients.{AcceptedIsFoundOnce, AreNoRequests, AreSent, AreTriesOf, AsksFor, BodiesAreTheSame, ClientsEndAsOnce, AreRequestsDoneOnce, IsRequestDoneOnce, HasSameBody, IsAnsweredIn, IsDoneOnce, IsFoundOnce, IsMomentIn, TellsFirstRecord, IsRepeatResponse, TellsKeptRecord, ServiceAnswersRepeats, ClientRequest, ContainsSameCommand, request_events}
use Rattle.theorems.proofs.Beginnings.{whole_begins}
use Rattle.theorems.proofs.OnceLemmas.{counted_once}
use Rattle.theorems.proofs.ServingLemmas.{Commanded, Delivered, HadNoMemory, IsOfTry, WasAccepted, command_in, commanded, custody_events-append, custody_events-at, cut, delivered_is, ends_in, lived, moves_of, quiet, serves_join, serves_split, try_of, was_accepted, was_decided}
use Rattle.theorems.proofs.Told.{kept_text, refusal_is_none, reply_told}
use Rattle.theorems.proofs.Tries.{AreTries, IsAtRest, IsToldAs, last_try, one_value, only_state, still_at_rest, still_tried, tried_after}

module _ (one_asked : RequestsMeanOne) where
  -- ---- what was told as accepted is found once

  module _ (first : State) (earlier later : List ServiceEvent) (pair : Pair) (state : State) (h : IsServiceHistory first (earlier ++ OutsideRequest (OpenedWith pair (Opened state)) ∷ later)) where
    abbrev opening : history.Event
    opening = OpenedWith pair (Opened state)

    whole : history.IsHistory first (custody_events earlier ++ opening ∷ custody_events later)
    whole = subst (history.IsHistory first) (custody_events-at earlier later (OutsideRequest opening) opening refl) (lived first (earlier ++ OutsideRequest opening ∷ later) h)

    until : IsServiceHistory first earlier
    until = (cut first earlier (OutsideRequest opening ∷ later) h).until

    is_once : state ≡ after first (once (found_by_service first earlier))
    is_once = opened ∙ acts_once first (custody_events earlier) (lived first earlier until)
      where
        opened : state ≡ state_by_service first earlier
        opened = let same = (openings_are_right first (custody_events earlier) (custody_events later) pair (Opened state) whole).1 in cc

    -- a request that was served before, and told as accepted
    module _ (x : Exchange) (command : Command) (accepted : tells_accepted x.answer.status ≡ true) (asks : AsksFor x command) (there : Delivered earlier x) where
      was : WasAccepted one_asked x command asks
      was =
          let here = cut first there.before (Exchanged x ∷ there.behind) (subst (IsServiceHistory first) there.is until) in
          was_accepted one_asked x command asks here.until.end here.rest.1.1 accepted

      abbrev acceptance : history.Event
      acceptance = Answered command x.now (Accepted was.reply)

      events_are : custody_events earlier ≡ custody_events there.before ++ acceptance ∷ custody_events there.behind
      events_are = ap custody_events there.is ∙ custody_events-at there.before there.behind (Exchanged x) acceptance was.did

      is_found : IsFoundOnce (found_by_service first earlier) command
      is_found keyed =
          let more = accepted_is_found first (custody_events there.before) (custody_events there.behind) command x.now was.reply in
          ap (λ entries. count_by (λ (entry : TimedCommand). has_same_key command entry.0) (once entries)) (ap (history.found first) events_are ∙ more.1)
          ∙ counted_once command (history.found first (custody_events there.before)) more.0 x.now keyed

      is_kept : TellsKeptRecord state command x.answer
      is_kept =
          let kept = acknowledged_is_kept first (custody_events there.before) (custody_events there.behind) (custody_events later) command x.now was.reply pair state
          (subst (λ l. history.IsHistory first (l ++ opening ∷ custody_events later)) events_are whole) in
          (was.reply.entry, ap (λ (a : HttpResponse). a.body) was.answer, kept.0, kept.1)

  pub accepted_is_found_once : (first : State) → AcceptedIsFoundOnce first
  accepted_is_found_once first earlier later pair state h = (
    is_once first earlier later pair state h,
    λ x command there accepted asks. let d = delivered_is earlier x there in (
      is_found first earlier later pair state h x command accepted asks d,
      is_kept first earlier later pair state h x command accepted asks d,
    ),
  )

  -- ---- a request that is sent again

  -- what the machine answers again, as a response
  told_again : (state : State) (command : Command) (first : Option Record) (IsBody : List ℕ → Type 0) (told : machine.Answer) (answer : HttpResponse) → answer ≡ response_to told → ((made : Record) → first ≡ Some made → IsBody (record_text made))
      → IsAnsweredAgain state command first told → IsRepeatResponse state command IsBody answer
  told_again state command first IsBody (Accepted reply) answer is body again =
      inl (record_text again.0, body again.0 again.1, is ∙ (λ i. text_response (done_status i) (kept_text again.0 reply.entry again.2 i)))
    where
      done_status : status_of reply ≡ Done
      done_status = ap (λ b. if b then Done else accepted_status reply.entry) again.4
  told_again state command first IsBody (Refused refusal) answer is body again = inr (inl (is ∙ ap refusal_response again.0, again.1))
  told_again state command first IsBody (Failed NoMemory) answer is body again = inr (inr (NoMemory, again, is))
  told_again state command first IsBody (Failed failure) answer is body again = inr (inr (failure, again, is))

  -- the first command with a key is the same for all that have it
  same_first : (state : State) (entries : List TimedCommand) (a b : Command) → command_key a ≡ command_key b → first_record state entries a ≡ first_record state entries b
  same_first state [] a b is = refl
  same_first state (entry ∷ entries) a b is =
      λ i. cond (are_same_keys (is i) (command_key entry.0)) (step_record (step state entry.0 entry.1)) (same_first (state_after state entry.0 entry.1) entries a b is i)

  key_of_same : (a b : Command) → AsksAgain a b → command_key a ≡ command_key b
  key_of_same a b same = sym (key_of_asked a) ∙ ap command_key same.1 ∙ key_of_asked b

  module _ (first : State) (earlier later : List ServiceEvent) (x : Exchange) (command : Command) (h : IsServiceHistory first (earlier ++ Exchanged x ∷ later)) (asks : AsksFor x command) (was : ContainsSameCommand (found_by_service first earlier) command) where
    answered_again : Commanded one_asked x command asks ⊎ HadNoMemory one_asked x command asks
        → IsRepeatResponse (state_by_service first earlier) command (TellsFirstRecord first (found_by_service first earlier) command) x.answer × (state_by_service first (earlier ++ Exchanged x ∷ []) ≡ state_by_service first earlier)
    answered_again (inl c) =
        let one : history.Event = Answered command x.now c.told in
        let events = subst (history.IsHistory first) (custody_events-at earlier later (Exchanged x) one c.did) (lived first (earlier ++ Exchanged x ∷ later) h) in
        let answered = repeats_are_answered first (custody_events earlier) (custody_events later) was.before was.behind was.entry command x.now c.told events was.is was.same in
        let of_first = same_first first (found_by_service first earlier) command was.entry.0 (sym (key_of_same was.entry.0 command was.same)) in (
          told_again (state_by_service first earlier) command (first_record first (found_by_service first earlier) was.entry.0) (TellsFirstRecord first (found_by_service first earlier) command) c.told x.answer c.answer (λ made e. (made, of_first ∙ e, refl)) answered.0,
          ap (λ l. after first (history.found first l)) (custody_events-at earlier [] (Exchanged x) one c.did) ∙ answered.1,
        )
    answered_again (inr none) = (
      inr (inr (NoMemory, tt, none.1)),
      ap (λ l. after first (history.found first l)) (custody_events-append earlier (Exchanged x ∷ []) ∙ ap (λ d. custody_events earlier ++ cons_option d []) none.0 ∙ append-nil (custody_events earlier)),
    )

  pub repeats_are_told : (first : State) → ServiceAnswersRepeats first
  repeats_are_told first earlier later x command h asks was =
      let here = cut first earlier (Exchanged x ∷ later) h in answered_again first earlier later x command h asks was (commanded one_asked x command asks here.until.end here.rest.1.1)

  -- two states in which a custody is are one
  same_state : (a b : State) (place : Place) → IsUp place → IsInState a place → IsInState b place → a ≡ b
  same_state a b (Left rows image) up x y = absurd up
  same_state a b _ up x y = sym x.0 ∙ y.0

  -- an acceptance comes of an open custody, in a state with each held part's digest
  pub record WasServing (place : Place) (command : Command) (now : ℕ) (reply : Reply) : Type 0 where
    pub old : State
    pub new : State
    pub begun : IsBegun old place
    pub accepts : step old command now ≡ Accept reply new

  was_serving : (state : State) (place next : Place) (command : Command) (now : ℕ) (reply : Reply) → IsInState state place → Moves place (Answered command now (Accepted reply)) next → WasServing place command now reply
  was_serving state (Serving records image) next command now reply here m = record { old = state_in records image; new = state_in m.0 m.1; begun = (refl, here.1); accepts = m.2 }
  was_serving state (Shut records image doubt) next command now reply here m = let never = m.0 in cc
  was_serving state (Left rows image) next command now reply here m = absurd m

  -- from the first of the two requests on there is a history of its own
  module _ (old new : State) (start end : Place) (between later : List ServiceEvent) (x again : Exchange) (command other : Command) (reply : Reply) (begun : IsBegun old start) (along : ServiceMovesAlong start ((Exchanged x ∷ between) ++ Exchanged again ∷ later) end)
      (accepts : step old command x.now ≡ Accept reply new) (did : x.did ≡ Some (Answered command x.now (Accepted reply))) (told : x.answer ≡ response_to (Accepted reply)) (asks_again : AsksFor again other) (same : AsksAgain command other) where
    abbrev earlier : List ServiceEvent
    earlier = Exchanged x ∷ between

    abbrev there : IsServiceHistory old (earlier ++ Exchanged again ∷ later)
    there = record { start = start; end = end; begun = begun; along = along }

    first_of_all : (more : List TimedCommand) × (found_by_service old earlier ≡ (command, x.now) ∷ more)
    first_of_all =
        let more = accepted_is_found old [] (custody_events between) command x.now reply in
        (more.0, ap (λ d. history.found old (cons_option d (custody_events between))) did ∙ more.1)

    -- the record of the first request, as its body tells it
    first_body : (made : Record) → first_record old (found_by_service old earlier) command ≡ Some made → record_text made ≡ x.answer.body
    first_body made e = ap record_text (one_value made reply.entry _ e first_is) ∙ ap (λ (a : HttpResponse). a.body) (sym told)
      where
        itself : has_same_key command command ≡ true
        itself = (keys_are_compared command command).1 (same.0, refl)

        first_is : first_record old (found_by_service old earlier) command ≡ Some reply.entry
        first_is = ap (λ l. first_record old l command) first_of_all.1
            ∙ ap (λ b. cond b (step_record (step old command x.now)) (first_record (state_after old command x.now) first_of_all.0 command)) itself ∙ ap step_record accepts

    second_told : IsRepeatResponse (state_by_service old earlier) other (λ body. body ≡ x.answer.body) again.answer
    second_told =
        by (repeats_are_told old earlier later again other there asks_again (record { before = []; entry = (command, x.now); behind = first_of_all.0; is = first_of_all.1; same = same })).0
      where
        by : IsRepeatResponse (state_by_service old earlier) other (TellsFirstRecord old (found_by_service old earlier) other) again.answer → IsRepeatResponse (state_by_service old earlier) other (λ body. body ≡ x.answer.body) again.answer
        by (inl r) = inl (r.0, r.1.2 ∙ first_body r.1.0 (same_first old (found_by_service old earlier) command other (key_of_same command other same) ∙ r.1.1), r.2)
        by (inr r) = inr r

  pub bodies_are_the_same : (first : State) → BodiesAreTheSame first
  bodies_are_the_same first earlier between later x again command other h asks asks_again same accepted =
      let behind = cut first (earlier ++ Exchanged x ∷ between) (Exchanged again ∷ later) h in
      let here = cut first earlier (Exchanged x ∷ between) behind.until in
      let was = was_accepted one_asked x command asks here.until.end here.rest.1.1 accepted in
      let serving = was_serving (state_by_service first earlier) here.until.end here.rest.0 command x.now was.reply (ends_in first earlier here.until) (subst (λ d. MovesIfAny here.until.end d here.rest.0) was.did here.rest.1.3) in
      let joined = serves_join here.until.end (Exchanged x ∷ between) (Exchanged again ∷ later) behind.until.end h.end here.rest behind.rest in
      let from_here : IsServiceHistory serving.old (Exchanged x ∷ between) = record { start = here.until.end; end = behind.until.end; begun = serving.begun; along = here.rest } in
      let states_are = same_state (state_by_service serving.old (Exchanged x ∷ between)) (state_by_service first (earlier ++ Exchanged x ∷ between)) behind.until.end behind.rest.1.0
      (ends_in serving.old (Exchanged x ∷ between) from_here) (ends_in first (earlier ++ Exchanged x ∷ between) behind.until) in
      subst (λ s. IsRepeatResponse s other (λ body. body ≡ x.answer.body) again.answer) states_are
      (second_told serving.old serving.new here.until.end h.end between later x again command other was.reply serving.begun joined serving.accepts was.did was.answer asks_again same)

  -- ---- a client

  in_tries : (xs ys : List ServiceEvent) (n : ℕ) → IsMomentIn xs n → IsMomentIn (xs ++ ys) n
  in_tries [] ys n h = absurd h
  in_tries (x ∷ xs) ys n (inl h) = inl h
  in_tries (x ∷ xs) ys n (inr h) = inr (in_tries xs ys n h)

  in_last : (xs : List ServiceEvent) (x : Exchange) → IsMomentIn (xs ++ Exchanged x ∷ []) x.now
  in_last [] x = inl refl
  in_last (event ∷ xs) x = inr (in_last xs x)

  module _ (input : List ℕ) (asked : RequestMeaning) (asks : RequestMeans input asked) (M : ℕ → Type 0) (state : State) where
    one_more : (did : Option history.Event) (rest : List history.Event) → IsOfTry one_asked input asked asks M state did → AreTries (command_in asked) M state rest → AreTries (command_in asked) M state (cons_option did rest)
    one_more None rest h t = t
    one_more (Some event) rest h t = (h, t)

    -- what happens to the custody for a request is of its tries
    tries_of : (events : List ServiceEvent) (old new : Place) → ((n : ℕ) → IsMomentIn events n → M n) → AreTriesOf input events → ServiceMovesAlong old events new → AreTries (command_in asked) M state (custody_events events)
    tries_of [] old new at own s = tt
    tries_of (event ∷ events) old new at own s =
        one_more (custody_event event) (custody_events events) (try_of one_asked input asked asks M state old s.0 event own.0 (λ n h. at n (inl h)) s.1) (tries_of events s.0 new (λ n h. at n (inr h)) own.1 s.2)

  -- but for a purge
  same_unless_purge : (command : Command) (told : machine.Answer) (answer : HttpResponse)
      → (is_some (command_key command) ≡ true → (response_to told).body ≡ answer.body) → HasSameBody command told answer
  same_unless_purge Purge told answer same = tt
  same_unless_purge command told answer same = same refl

  same_body : (command : Command) (told was : machine.Answer) (answer : HttpResponse) → answer ≡ response_to was → IsToldAs command told was → (tells_failure (response_to told).status ≡ false) × HasSameBody command told answer
  same_body command (Accepted reply) (Accepted told) answer is kept =
      ((reply_told reply).0, same_unless_purge command (Accepted reply) answer (λ keyed. sym (kept_text reply.entry told.entry (kept keyed)) ∙ ap (λ (a : HttpResponse). a.body) (sym is)))
  same_body command (Refused refusal) (Refused told) answer is kept =
      (refusal_is_none refusal, same_unless_purge command (Refused refusal) answer (λ keyed. ap (λ q. (refusal_response q).body) kept ∙ ap (λ (a : HttpResponse). a.body) (sym is)))
  same_body command _ _ answer is kept = absurd kept

  -- the custody is at a place, at rest in a state
  record RestsAt (state : State) (place : Place) : Type 0 where
    condition : Condition
    follows : Follows place condition
    at_rest : IsAtRest state condition

  rests_in : (state : State) (place : Place) (condition : Condition) → Follows place condition → IsAtRest state condition → IsInState state place
  rests_in state (Serving records image) (Running s) follows rest = (sym follows.0 ∙ only_state (λ _. ⊥) state s rest, follows.1)
  rests_in state (Shut records image doubt) (Halted s entry) follows rest = (sym follows.0 ∙ only_state (λ _. ⊥) state s rest.0, follows.2)
  rests_in state (Left rows image) (Stopped pair) follows rest =
      (subst (StandsFor rows image) (one_value follows.0 rest.0 pair.opens (ap (λ (p : Pair). p.opens) follows.3) rest.1 ∙ only_state (λ _. ⊥) state rest.0 rest.2) follows.1, follows.2)
  rests_in state _ _ follows rest = absurd follows

  begins_at : (first : State) (place : Place) → IsBegun first place → RestsAt first place
  begins_at first (Serving records image) h = record { condition = Running (state_in records image); follows = (refl, h.1); at_rest = inl h.0 }
  begins_at first (Shut records image doubt) h = absurd h
  begins_at first (Left rows image) h = record { condition = Stopped (pair_of first); follows = (first, h.0, h.1, refl); at_rest = (first, refl, inl refl, refl) }

  module _ (tries : List ServiceEvent) (last : Exchange) (own : AreTriesOf last.input tries) (decided : tells_failure last.answer.status ≡ false) (state : State) (old new : Place)
      (s : ServiceMovesAlong old (tries ++ Exchanged last ∷ []) new) (rest : RestsAt state old) where
    abbrev M : ℕ → Type 0
    M = IsMomentIn (tries ++ Exchanged last ∷ [])

    -- before the last try, and behind it
    places : (mid : Place) × ServiceMovesAlong old tries mid × ServiceMovesAlong mid (Exchanged last ∷ []) new
    places = serves_split old tries (Exchanged last ∷ []) new s

    after_tries : (mid : Condition) × HappensAlong rest.condition (custody_events tries) mid × Follows places.0 mid
    after_tries = moves_follow old rest.condition (custody_events tries) places.0 rest.follows (moves_of old tries places.0 places.1)

    after_last : (end : Condition) × HappensAlong after_tries.0 (custody_events (Exchanged last ∷ [])) end × Follows new end
    after_last = moves_follow places.0 after_tries.0 (custody_events (Exchanged last ∷ [])) new after_tries.2 (moves_of places.0 (Exchanged last ∷ []) new places.2)

    -- a command that was sent until it was answered
    does_command : (command : Command) → AsksFor last command → (next : State) × IsDoneOnce command M last.answer state next × RestsAt next new
    does_command command asks =
        let was = was_decided one_asked last command asks places.0 places.2.1.1 decided in
        let tried = tried_after (Some command) M state rest.condition (custody_events tries) after_tries.0 (still_tried (λ _. ⊥) (Some command) M state rest.condition rest.at_rest)
        (tries_of last.input (asks_for (Do command)) asks M state tries old places.0 (in_tries tries (Exchanged last ∷ [])) own places.1) after_tries.1 in
        let run = subst (λ d. HappensAlong after_tries.0 (cons_option d []) after_last.0) was.did after_last.1 in
        let end = last_try command M state after_tries.0 run.0 last.now was.told tried (in_last tries last) was.decided run.1 in
        let body = same_body command end.1.answer was.told last.answer was.answer end.1.told_as in (
          end.0,
          record { moment = end.1.now; tried = end.1.moment; told = end.1.answer; answers = end.1.answers; decided = body.0; body = body.1 },
          record { condition = after_last.0; follows = after_last.2; at_rest = subst (IsAtRest end.0) (sym run.2) end.2 },
        )

    -- a request that asks for no command leaves the state
    still_at : (asked : RequestMeaning) → RequestMeans last.input asked → command_in asked ≡ None → (next : State) × ((next ≡ state) × IsAnsweredIn state last) × RestsAt next new
    still_at asked asks none = (
      state,
      (refl, (places.0, places.2.1.0, rests_in state places.0 after_tries.0 after_tries.2 before, places.2.1.1)),
      record { condition = after_last.0; follows = after_last.2; at_rest = behind },
    )
      where
        before : IsAtRest state after_tries.0
        before = still_at_rest M state rest.condition (custody_events tries) after_tries.0 rest.at_rest
            (subst (λ c. AreTries c M state (custody_events tries)) none (tries_of last.input asked asks M state tries old places.0 (in_tries tries (Exchanged last ∷ [])) own places.1)) after_tries.1

        last_moment : (n : ℕ) → IsMomentIn (Exchanged last ∷ []) n → M n
        last_moment n (inl is) = subst M is (in_last tries last)
        last_moment n (inr never) = absurd never

        behind : IsAtRest state after_last.0
        behind = still_at_rest M state after_tries.0 (custody_events (Exchanged last ∷ [])) after_last.0 before
            (subst (λ c. AreTries c M state (custody_events (Exchanged last ∷ []))) none (tries_of last.input asked asks M state (Exchanged last ∷ []) places.0 new last_moment (whole_begins last.input, tt) places.2)) after_last.1

    does_once : (asked : RequestMeaning) → RequestMeans last.input asked → (next : State) × IsRequestDoneOnce asked M last state next × RestsAt next new
    does_once (asks_for (Do command)) asks = does_command command asks
    does_once asked asks = still_at asked asks refl

  -- stops, openings and closings behind the last request
  rests_still : (state : State) (old new : Place) (rest : List history.Event) → AreNoRequests rest → RestsAt state old → ServiceMovesAlong old (map OutsideRequest rest) new → RestsAt state new
  rests_still state old new rest own here s =
      let end = moves_follow old here.condition (custody_events (map OutsideRequest rest)) new here.follows (moves_of old (map OutsideRequest rest) new s) in
      record { condition = end.0; follows = end.2; at_rest = tried_after None (λ _. ⊥) state here.condition (custody_events (map OutsideRequest rest)) end.0 here.at_rest (all rest own) end.1 }
    where
      all : (events : List history.Event) → AreNoRequests events → AreTries None (λ _. ⊥) state (custody_events (map OutsideRequest events))
      all [] h = tt
      all (event ∷ events) h = (quiet None (λ _. ⊥) state event h.0, all events h.1)

  do_once : (sendings : List ClientRequest) (rest : List history.Event) → AreSent sendings → AreNoRequests rest → (state : State) (old new : Place)
      → ServiceMovesAlong old (flat_map request_events sendings ++ map OutsideRequest rest) new → RestsAt state old → (end : State) × AreRequestsDoneOnce state sendings end × RestsAt end new
  do_once [] rest sent quiet state old new s here = (state, refl, rests_still state old new rest quiet here s)
  do_once (sending ∷ others) rest sent quiet state old new s here =
      let joined = append_assoc (request_events sending) (flat_map request_events others) (map OutsideRequest rest) in
      let places = serves_split old (request_events sending) (flat_map request_events others ++ map OutsideRequest rest) new (subst (λ l. ServiceMovesAlong old l new) joined s) in
      let one = does_once sending.tries sending.last sent.0.tries sent.0.decided state old places.0 places.1 here sending.asked sent.0.asks in
      let more = do_once others rest sent.1 quiet one.0 places.0 new places.2 one.2 in
      (more.0, (one.0, one.1, more.1), more.2)

  pub clients_end_as_once : (first : State) → ClientsEndAsOnce first
  clients_end_as_once first sendings rest sent quiet h =
      let done = do_once sendings rest sent quiet first h.start h.end h.along (begins_at first h.start h.begun) in
      let end = done.2 in
      (done.0, rests_in done.0 h.end end.condition end.follows end.at_rest, done.1)
