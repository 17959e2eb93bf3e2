-- What a client reads of parts and failures: no request is answered by 500, a part is answered by the bytes that were sent, and a failure is explained as the state has it.
use Rattle.std.proofs.Common.{◌≡◌, ◌≢◌, ◌⊎◌, inl, inr, ℕ, List, [], ◌∷◌, ◌++◌, Some, Bool, true, false, refl, sym, ◌∙◌, ap, subst, if◌then◌else◌, Result, Ok, Err}
use Rattle.std.specs.Prelude.{Contains, is_some}
use Rattle.std.specs.FinMap.{get}
use Rattle.std.proofs.lemmas.List.Elements.{Contains-append_left, Contains-push}
use Rattle.custody_records.specs.Records.{Records, key_of}
use Rattle.custody_machine.specs.declared.answers.Failure.{Failure}
use Rattle.custody_machine.specs.declared.answers.Failure.TheVariants.{NoMemory, VolumeFailed, StoreFailed, Closed, Damaged}
use Rattle.custody_machine.specs.declared.answers.Refusal.{Refusal}
use Rattle.custody_machine.specs.declared.answers.Refusal.TheVariants.{RegistryUnknown}
use Rattle.custody_machine.specs.declared.codes.HttpStatus.TheVariants.{InternalServerError}
use Rattle.custody_machine.specs.declared.damage.Damage.{Damage}
use Rattle.custody_machine.specs.NameReading.{read_name}
use Rattle.custody_machine.specs.State.{State, Part}
use Rattle.custody_machine.specs.Machine as machine
use Rattle.custody_machine.specs.Machine.{Command, Receive, TimedCommand, Accepted, Refused, Failed, bytes_held}
use Rattle.custody_machine.specs.History as history
use Rattle.custody_machine.specs.History.{Answered}
use Rattle.custody_machine.specs.StoredState.{state_in}
use Rattle.custody_machine.specs.FetchResult.{fetch_result, part_named}
use Rattle.custody_machine.specs.Moves.{Place, Serving, Shut, Left, MovesAlong, IsInState}
use Rattle.custody_machine.proofs.Fetching.{fetches_one}
use Rattle.custody_machine.proofs.Histories.{accepted_is_found}
use Rattle.custody_machine.proofs.Moves.{no_damage_is_told}
use Rattle.custody.specs.declared.answers.Refused as not_accepted
use Rattle.custody.specs.declared.answers.Refused.TheVariants as refused
use Rattle.custody.specs.declared.explanation.Explanation.{Explanation}
use Rattle.answer_lines.specs.Digests.{digests_text}
use Rattle.answer_lines.specs.State.{registry_report_text}
use Rattle.http_request.specs.RequestMeaning.{RequestMeaning, RequestsMeanOne, asks_for, bad}
use Rattle.http_request.specs.declared.faults.RequestFault.{RequestFault}
use Rattle.http_request.specs.declared.faults.RequestFault.TheVariants as fault
use Rattle.http_request.specs.Action as action
use Rattle.http_request.specs.Action.{Do, Report, Explain, Due, Digests, Fetch}
use Rattle.http_api.specs.declared.status.ResponseStatus.{ResponseStatus}
use Rattle.http_api.specs.declared.status.ResponseStatus.TheVariants.{Coded, Done}
use Rattle.http_api.specs.Responses.{HttpResponse, text_response}
use Rattle.http_api.specs.Handling.{IsExplanationTold, explanation_response, failure_response, fault_response, fetch_response, no_memory_response, records_due, records_state, refusal_response, registry_digests, registry_report, registry_text}
use Rattle.theorems.specs.Responses.{response_to, tells_accepted, tells_failure}
use Rattle.theorems.specs.Service.{ServiceEvent, Exchange, Exchanged, ExplainsRevision, FetchesPart, IsHandledIn, IsServiceHistory, Responds, TellsRecords, custody_events, found_by_service, state_by_service}
use Rattle.theorems.specs.Reading.{IsExplainedInState, IsReadAsReceived}
use Rattle.theorems.specs.Clients.{AsksFor, AsksToFetch, AsksWhy, MayFailAgain, NoInternalError, PartsAreFetched, PartsAreFetchedAsSent, ReleasesBytes, RevisionsAreExplained}
use Rattle.theorems.proofs.ReadingLemmas.{explained_in_state, fetched_as_received, fetched_under, found_accepted, found_is_recorded}
use Rattle.theorems.proofs.ServingLemmas.{Cut, custody_events-at, cut, ends_in, lived, moves_of, was_accepted}
use Rattle.theorems.proofs.Told.{refusal_is_none, reply_told}

-- ---- statuses

abbrev is_internal_error : ResponseStatus → Bool
is_internal_error (Coded InternalServerError) = true
is_internal_error _ = false

-- a response is not 500, by which damage is told
abbrev TellsNoDamage : HttpResponse → Type 0
TellsNoDamage answer = answer.status ≢ Coded InternalServerError

another : (answer : HttpResponse) → is_internal_error answer.status ≡ false → TellsNoDamage answer
another answer other is = let clash : true ≡ false = sym (ap is_internal_error is) ∙ other in cc

-- what tells no failure
no_failure : (answer : HttpResponse) → tells_failure answer.status ≡ false → TellsNoDamage answer
no_failure answer none is = let clash : true ≡ false = sym (ap tells_failure is) ∙ none in cc

sound_failure : (failure : Failure) → ((damage : Damage) → failure ≢ Damaged damage) → TellsNoDamage (failure_response failure)
sound_failure NoMemory none = another (failure_response NoMemory) refl
sound_failure VolumeFailed none = another (failure_response VolumeFailed) refl
sound_failure StoreFailed none = another (failure_response StoreFailed) refl
sound_failure Closed none = another (failure_response Closed) refl
sound_failure (Damaged damage) none = absurd (none damage refl)

sound_refusal : (refusal : Refusal) → TellsNoDamage (refusal_response refusal)
sound_refusal refusal = no_failure (refusal_response refusal) (refusal_is_none refusal)

sound_fault : (found : RequestFault) → TellsNoDamage (fault_response found)
sound_fault found = no_failure (fault_response found) (by found)
  where
    by : (found : RequestFault) → tells_failure (fault_response found).status ≡ false
    by (fault.Method allowed) = refl
    by found = refl

sound_registry : (text : Records → List ℕ → List ℕ) (records : Records) (tld : List ℕ) → TellsNoDamage (registry_text text records tld)
sound_registry text records tld = by (is_some (get records.registries tld))
  where
    by : (b : Bool) → TellsNoDamage (if b then text_response Done (text records tld) else refusal_response RegistryUnknown)
    by true = another (text_response Done (text records tld)) refl
    by false = sound_refusal RegistryUnknown

-- ---- a fetch, in a state

-- a part of a custody that is in a state is sound
sound_fetch : (state : State) (place : Place) (reference name : List ℕ) (r : Result (List ℕ) not_accepted.Refused) → IsInState state place → FetchesPart place reference name r → TellsNoDamage (fetch_response r)
sound_fetch state (Serving records image) reference name (Ok bytes) here f = another (fetch_response (Ok bytes)) refl
sound_fetch state (Serving records image) reference name (Err (refused.Refusal refusal)) here f = sound_refusal refusal
sound_fetch state (Serving records image) reference name (Err (refused.Failure (Damaged damage))) here f = absurd (f (λ read is. here.1 (key_of read)))
sound_fetch state (Serving records image) reference name (Err (refused.Failure failure)) here f = sound_failure failure (λ damage is. cc)
sound_fetch state (Shut records image doubt) reference name r here f = subst (λ a. TellsNoDamage (fetch_response a)) (sym f) (another (failure_response Closed) refl)
sound_fetch state (Left rows image) reference name r here f = absurd f

-- and so is each on which an explanation hangs
sound_explanation : (state : State) (place : Place) (tld : List ℕ) (day rev : ℕ) (r : Result Explanation not_accepted.Refused) → IsInState state place → ExplainsRevision place tld day rev r → TellsNoDamage (explanation_response r)
sound_explanation state (Serving records image) tld day rev (Ok told) here f = another (explanation_response (Ok told)) refl
sound_explanation state (Serving records image) tld day rev (Err (refused.Refusal refusal)) here f = sound_refusal refusal
sound_explanation state (Serving records image) tld day rev (Err (refused.Failure (Damaged damage))) here f = absurd (f.broken (here.1 f.place))
sound_explanation state (Serving records image) tld day rev (Err (refused.Failure failure)) here f = sound_failure failure (λ damage is. cc)
sound_explanation state (Shut records image doubt) tld day rev r here f = subst (λ a. TellsNoDamage (explanation_response a)) (sym f) (another (explanation_response (Err (refused.Failure Closed))) refl)
sound_explanation state (Left rows image) tld day rev r here f = absurd f

-- ---- no request is answered by 500

module _ (first : State) (earlier later : List ServiceEvent) (x : Exchange) (h : IsServiceHistory first (earlier ++ Exchanged x ∷ later)) where
  abbrev parted : Cut first earlier (Exchanged x ∷ later) h.end
  parted = cut first earlier (Exchanged x ∷ later) h

  abbrev place : Place
  place = parted.until.end

  in_state : IsInState (state_by_service first earlier) place
  in_state = ends_in first earlier parted.until

  responds : Responds place x
  responds = parted.rest.1.1

  -- no command tells of damage
  undamaged : (command : Command) (failure : Failure) → x.did ≡ Some (Answered command x.now (Failed failure)) → (damage : Damage) → failure ≢ Damaged damage
  undamaged command failure did damage is =
      let event : history.Event = Answered command x.now (Failed failure) in
      let moves = subst (λ l. MovesAlong h.start l h.end) (custody_events-at earlier later (Exchanged x) event did) (moves_of h.start (earlier ++ Exchanged x ∷ later) h.end h.along) in
      no_damage_is_told first h.start h.end (custody_events earlier) (custody_events later) event damage h.begun moves (ap Some is)

  sound_answer : (command : Command) (answer : machine.Answer) → x.did ≡ Some (Answered command x.now answer) → TellsNoDamage (response_to answer)
  sound_answer command (Accepted reply) did = no_failure (response_to (Accepted reply)) (reply_told reply).0
  sound_answer command (Refused refusal) did = sound_refusal refusal
  sound_answer command (Failed failure) did = sound_failure failure (undamaged command failure did)

  -- neither does what is told of the records
  sound_records : (told : Records → HttpResponse) → ((records : Records) → TellsNoDamage (told records)) → (there : Place) → TellsRecords there told x.answer → TellsNoDamage x.answer
  sound_records told each (Serving records image) is = subst TellsNoDamage (sym is) (each records)
  sound_records told each (Shut records image doubt) is = subst TellsNoDamage (sym is) (another (failure_response Closed) refl)
  sound_records told each (Left rows image) is = absurd is

  -- nor an explanation, for which there may be no memory
  sound_told : (r : Result Explanation not_accepted.Refused) → TellsNoDamage (explanation_response r) → IsExplanationTold r x.answer → TellsNoDamage x.answer
  sound_told r sound (inl is) = subst TellsNoDamage (sym is) sound
  sound_told r sound (inr none) = subst TellsNoDamage (sym none.1) (another no_memory_response refl)

  sound : (asked : RequestMeaning) → IsHandledIn asked place x → TellsNoDamage x.answer
  sound (bad fault.BodyShort) g = subst TellsNoDamage (sym g.0) (sound_fault fault.BodyShort)
  sound (bad found) g = subst TellsNoDamage (sym g.0) (sound_fault found)
  sound (asks_for (Do command)) g = subst TellsNoDamage (sym g.2) (sound_answer command g.0 g.1)
  sound (asks_for (Report tld)) g = sound_records (λ records. registry_report records tld) (λ records. sound_registry registry_report_text records tld) place g.1
  sound (asks_for (Explain tld day rev)) g = sound_told g.0 (sound_explanation (state_by_service first earlier) place tld day rev g.0 in_state g.1) g.3
  sound (asks_for action.State) g = sound_records records_state (λ records. another (records_state records) refl) place g.1
  sound (asks_for Due) g = sound_records (λ records. records_due records x.now) (λ records. another (records_due records x.now) refl) place g.1
  sound (asks_for (Digests tld)) g = sound_records (λ records. registry_digests records tld) (λ records. sound_registry digests_text records tld) place g.1
  sound (asks_for (Fetch reference name)) g = subst TellsNoDamage (sym g.3) (sound_fetch (state_by_service first earlier) place reference name g.0 in_state g.1)

  all_sound : Responds place x → TellsNoDamage x.answer
  all_sound (inl r) = sound r.0 r.2
  all_sound (inr none) = subst TellsNoDamage (sym none.1) (another no_memory_response refl)

pub no_internal_error : (first : State) → NoInternalError first
no_internal_error first earlier later x h = all_sound first earlier later x h (responds first earlier later x h)

-- ---- failures that are explained

module _ (one_asked : RequestsMeanOne) (first : State) (earlier later : List ServiceEvent) (x : Exchange) (tld : List ℕ) (day rev : ℕ) (h : IsServiceHistory first (earlier ++ Exchanged x ∷ later)) (asks : AsksWhy x tld day rev) where
  abbrev state_then : State
  state_then = state_by_service first earlier

  abbrev IsAnsweredWhy : Type 0
  IsAnsweredWhy = ((told : Result Explanation not_accepted.Refused) × (x.answer ≡ explanation_response told) × IsExplainedInState state_then tld day rev told) ⊎ (x.answer ≡ failure_response Closed)

  told_why : (told : Result Explanation not_accepted.Refused) → IsExplainedInState state_then tld day rev told → IsExplanationTold told x.answer → IsAnsweredWhy
  told_why told explained (inl is) = inl (told, is, explained)
  told_why told explained (inr none) = inl (Err (refused.Failure NoMemory), none.1, tt)

  why_in : (there : Place) (r : Result Explanation not_accepted.Refused) → IsInState state_then there → ExplainsRevision there tld day rev r → IsExplanationTold r x.answer → IsAnsweredWhy
  why_in (Serving records image) r here f is = told_why r (explained_in_state state_then records image here.0 here.1 tld day rev r f) is
  why_in (Shut records image doubt) r here f (inl is) = inr (is ∙ ap explanation_response f)
  why_in (Shut records image doubt) r here f (inr none) = inl (Err (refused.Failure NoMemory), none.1, tt)
  why_in (Left rows image) r here f is = absurd f

  answered_why : (there : Place) → IsInState state_then there → Responds there x → IsAnsweredWhy
  answered_why there here (inl r) =
      let g = subst (λ a. IsHandledIn a there x) (one_asked x.input r.0 (asks_for (Explain tld day rev)) r.1 asks) r.2 in
      why_in there g.0 here g.1 g.3
  answered_why there here (inr none) = inl (Err (refused.Failure NoMemory), none.1, tt)

  explained : IsAnsweredWhy
  explained = let here = cut first earlier (Exchanged x ∷ later) h in answered_why here.until.end (ends_in first earlier here.until) here.rest.1.1

pub revisions_are_explained : RequestsMeanOne → (first : State) → RevisionsAreExplained first
revisions_are_explained one_asked first earlier later x tld day rev h asks = explained one_asked first earlier later x tld day rev h asks

-- ---- parts

module _ (one_asked : RequestsMeanOne) where
  module _ (first : State) (earlier later : List ServiceEvent) (x : Exchange) (reference name : List ℕ) (part : Part) (h : IsServiceHistory first (earlier ++ Exchanged x ∷ later)) (asks : AsksToFetch x reference name)
      (recorded : part_named (state_by_service first earlier) (read_name name) ≡ Some part) where
    abbrev entries : List TimedCommand
    entries = found_by_service first earlier

    abbrev IsAnswered : Type 0
    IsAnswered = ((read : Result (List ℕ) not_accepted.Refused) × (x.answer ≡ fetch_response read) × IsReadAsReceived first entries reference name read) ⊎ (x.answer ≡ failure_response Closed)

    read_in : (there : Place) (r : Result (List ℕ) not_accepted.Refused) → IsInState (state_by_service first earlier) there → FetchesPart there reference name r → x.answer ≡ fetch_response r → IsAnswered
    read_in (Serving records image) r here f is =
        let all = found_accepted first (custody_events earlier) (lived first earlier (cut first earlier (Exchanged x ∷ later) h).until) in
        let there : part_named (state_in records image) (read_name name) ≡ Some part = subst (λ s. part_named s (read_name name) ≡ Some part) (sym here.0) recorded in
        inl (r, is, fetched_as_received first entries all records image here.0 here.1 reference name r (λ bytes e. fetched_under (state_in records image) reference name bytes part there e) f)
    read_in (Shut records image doubt) r here f is = inr (is ∙ ap fetch_response f)
    read_in (Left rows image) r here f is = absurd f

    answered : (there : Place) → IsInState (state_by_service first earlier) there → Responds there x → IsAnswered
    answered there here (inl r) =
        let g = subst (λ a. IsHandledIn a there x) (one_asked x.input r.0 (asks_for (Fetch reference name)) r.1 asks) r.2 in
        read_in there g.0 here g.1 g.3
    answered there here (inr none) = inl (Err (refused.Failure NoMemory), none.1, tt)

    all_answered : IsAnswered
    all_answered = let here = cut first earlier (Exchanged x ∷ later) h in answered here.until.end (ends_in first earlier here.until) here.rest.1.1

  pub parts_are_fetched : (first : State) → PartsAreFetched first
  parts_are_fetched first earlier later x reference name part h asks recorded = all_answered first earlier later x reference name part h asks recorded

  -- a part that was sent, and told as accepted
  module _ (first : State) (earlier between later : List ServiceEvent) (sent x : Exchange) (reference name bytes : List ℕ) (h : IsServiceHistory first (earlier ++ Exchanged sent ∷ between ++ Exchanged x ∷ later))
      (sends : AsksFor sent (Receive name bytes)) (accepted : tells_accepted sent.answer.status ≡ true) (asks : AsksToFetch x reference name) (may : ReleasesBytes (state_by_service first (earlier ++ Exchanged sent ∷ between)) reference name) where
    abbrev before : List ServiceEvent
    before = earlier ++ Exchanged sent ∷ between

    abbrev state : State
    state = state_by_service first before

    until : IsServiceHistory first before
    until = (cut first before (Exchanged x ∷ later) h).until

    abbrev entry : TimedCommand
    entry = (Receive name bytes, sent.now)

    is_found : Contains (found_by_service first before) entry
    is_found =
        let here = cut first earlier (Exchanged sent ∷ between) until in
        let was = was_accepted one_asked sent (Receive name bytes) sends here.until.end here.rest.1.1 accepted in
        let more = accepted_is_found first (custody_events earlier) (custody_events between) (Receive name bytes) sent.now was.reply in
        let old = history.found first (custody_events earlier) in
        let events_are = custody_events-at earlier between (Exchanged sent) (Answered (Receive name bytes) sent.now (Accepted was.reply)) was.did in
        subst (λ l. Contains l entry) (sym (ap (history.found first) events_are ∙ more.1)) (Contains-append_left (old ++ entry ∷ []) more.0 entry (Contains-push old entry))

    recorded : (part : Part) × (part_named state (read_name name) ≡ Some part)
    recorded = found_is_recorded first (found_by_service first before) (found_accepted first (custody_events before) (lived first before until)) entry name bytes is_found refl

    -- it is no refusal
    no_refusal : (refusal : Refusal) → fetch_result state reference name ≡ Err refusal → ⊥
    no_refusal refusal e = let both = sym (((fetches_one state reference name).held (bytes_held (part_named state (read_name name)))).1 (may.0, may.1, refl)) ∙ e in cc

    abbrev IsAnsweredAsSent : Type 0
    IsAnsweredAsSent = (x.answer ≡ fetch_response (Ok bytes)) ⊎ ((failure : Failure) × MayFailAgain failure × (x.answer ≡ failure_response failure))

    read_so : (read : Result (List ℕ) not_accepted.Refused) → x.answer ≡ fetch_response read → IsReadAsReceived first (found_by_service first before) reference name read → IsAnsweredAsSent
    read_so (Ok own) is as_received = inl (is ∙ ap (λ l. fetch_response (Ok l)) (sym (as_received.1.only entry bytes is_found refl)))
    read_so (Err (refused.Refusal refusal)) is as_received = absurd (no_refusal refusal as_received)
    read_so (Err (refused.Failure NoMemory)) is as_received = inr (NoMemory, tt, is)
    read_so (Err (refused.Failure VolumeFailed)) is as_received = inr (VolumeFailed, tt, is)
    read_so (Err (refused.Failure StoreFailed)) is as_received = absurd as_received
    read_so (Err (refused.Failure Closed)) is as_received = absurd as_received
    read_so (Err (refused.Failure (Damaged damage))) is as_received = absurd as_received

    answered_so : ((read : Result (List ℕ) not_accepted.Refused) × (x.answer ≡ fetch_response read) × IsReadAsReceived first (found_by_service first before) reference name read) ⊎ (x.answer ≡ failure_response Closed) → IsAnsweredAsSent
    answered_so (inl r) = read_so r.0 r.1 r.2
    answered_so (inr closed) = inr (Closed, tt, closed)

    as_sent : IsAnsweredAsSent
    as_sent = answered_so (parts_are_fetched first before later x reference name recorded.0 h asks recorded.1)

  pub parts_are_fetched_as_sent : (first : State) → PartsAreFetchedAsSent first
  parts_are_fetched_as_sent first earlier between later sent x reference name bytes h sends accepted asks may = as_sent first earlier between later sent x reference name bytes h sends accepted asks may
