-- Sessions of a custody, and one after another, as moves of the machine.
use Rattle.std.proofs.Common.{◌≡◌, ◌≢◌, ℕ, suc, length, ap, List, [], ◌∷◌, refl, sym, ◌∙◌, subst, Result}
use Rattle.vault_volume.specs.declared.volume.Volume as volume
use Rattle.sqlite.specs.Store.{Ghosts}
use Rattle.custody_records.specs.Records.{Records}
use Rattle.custody_records.specs.Rows.{Rows}
use Rattle.custody_records.specs.Form.{form_of, InForm}
use Rattle.custody_machine.specs.declared.damage.Damage.{Damage}
use Rattle.custody_machine.specs.declared.answers.Failure.{Failure}
use Rattle.custody_machine.specs.declared.answers.Failure.TheVariants.{Closed, Damaged}
use Rattle.custody_machine.specs.Damage.{IsFirstDamage}
use Rattle.custody_machine.specs.State.{State, empty as nothing}
use Rattle.custody_machine.specs.Machine.{TimedCommand, after, Answer}
use Rattle.custody_machine.specs.History.{Pair, Event, Opened, NotOpened, StoppedAtRest, OpenedWith, found}
use Rattle.custody_machine.specs.StoredState.{StandsFor, AreWholeOnVolume, HasDigests, state_in}
use Rattle.custody_machine.specs.Moves.{Place, Serving, Left, MayLeave, MayNotOpen, Finds, Moves, MovesAlong, AnswersAlong, MovesBy, answer_events, IsBegun, IsInState}
use Rattle.custody_records.proofs.FormLemmas.{InForm-injective}
use Rattle.custody_machine.proofs.Moves.{chains_move, pair_of, places_are_right, finds_some}
use Rattle.custody_machine.proofs.Stored.{stands_for_one}
use Rattle.custody.specs.declared.answers.Reply.{Reply}
use Rattle.custody.specs.declared.answers.Refused as not_accepted
use Rattle.custody.specs.declared.custody.Custody.{Custody}
use Rattle.custody.specs.OpenCustody.{current_records, store_state_of, image_of, MayLeaveImage}
use Rattle.custody.specs.Custody.{open_custody_of, HasRun}
use Rattle.theorems.specs.Sessions.{answers_of, IsStateAfter, IsServing, place_of, state_of_custody, IsSession, IsReopened, IsResumed, MayStopAtRest, SessionsGoOn, OpeningsMayFail}
use Rattle.theorems.proofs.RunMoves.{along_join, runs_move}

-- what a stop leaves of a place where each held part has its digest has them too
still_sound : (state : State) (place : Place) (rows : Rows) (left : List ℕ) (records : Records) → IsInState state place → MayLeave place rows left → form_of rows ≡ InForm records → HasDigests left records
still_sound state (Left before image) rows left records here may is =
    let s : StandsFor before image state = here.0 in
    let o = may s.records s.in_form s.good in
    subst (HasDigests left) (InForm-injective o.records records (sym o.in_form ∙ is)) (λ key. o.keeps.digests key (here.1 s.records s.in_form key))
still_sound state _ rows left records here may is = subst (HasDigests left) (InForm-injective may.records records (sym may.in_form ∙ is)) (λ key. may.keeps.digests key (here.1 key))

-- rows in form, with each part on the volume, stand for a state
stands_in : (rows : Rows) (image : List ℕ) (records : Records) → form_of rows ≡ InForm records → AreWholeOnVolume records image → StandsFor rows image (state_in records image)
stands_in rows image records is good = record { records = records; in_form = is; good = good; meaning = refl }

-- commands that were answered one after the other
same_length : (old new : Place) (entries : List TimedCommand) (answers : List Answer) → AnswersAlong MovesBy old entries answers new → length answers ≡ length entries
same_length old new [] [] c = refl
same_length old new (e ∷ entries) (a ∷ answers) c = ap suc (same_length c.0 new entries answers c.2)
same_length old new _ _ c = absurd c

-- why an opening failed
pub may_not_open : (rows : Rows) (image : List ℕ) (failure : Failure) → failure ≢ Closed → ((damage : Damage) → failure ≡ Damaged damage → IsFirstDamage damage rows image) → MayNotOpen rows image failure
may_not_open rows image Closed open_not damaged = open_not refl
may_not_open rows image (Damaged damage) open_not damaged = damaged damage refl
may_not_open rows image _ open_not damaged = tt

-- a stop at rest
pub stop_at_rest : (place : Place) (rows : Rows) (left : List ℕ) (pair : Pair) → MayLeave place rows left → Finds rows left pair → Moves place (StoppedAtRest pair) (Left rows left)
stop_at_rest (Serving before image) rows left pair may finds = (rows, left, may, finds, refl)
stop_at_rest _ rows left pair may finds = (rows, left, may, finds, refl)

-- and an opening of what it left
stop_and_open : (place : Place) (rows : Rows) (left : List ℕ) (records : Records) (pair : Pair) → MayLeave place rows left → Finds rows left pair → form_of rows ≡ InForm records → AreWholeOnVolume records left
    → MovesAlong place (StoppedAtRest pair ∷ OpenedWith pair (Opened (state_in records left)) ∷ []) (Serving records left)
stop_and_open place rows left records pair may finds is good = (Left rows left, stop_at_rest place rows left pair may finds, (Serving records left, (finds, (records, is, good, refl, refl)), refl))

-- whatever was before
pub rests_may_stop : MayStopAtRest
rests_may_stop start place events before rows image pair may finds = along_join start events (StoppedAtRest pair ∷ []) place (Left rows image) before (Left rows image, stop_at_rest place rows image pair may finds, refl)

pub sessions_go_on : (rows_left : Rows → Type 0) (images_left : List ℕ → Type 0) → SessionsGoOn rows_left images_left
sessions_go_on rows_left images_left start events rows image before pair finds entries answers session =
    along_join start events (OpenedWith pair (Opened session.first) ∷ answer_events entries answers) (Left rows image) session.end before (session.moves pair finds)

pub openings_may_fail : (rows_left : Rows → Type 0) (images_left : List ℕ → Type 0) → OpeningsMayFail rows_left images_left
openings_may_fail rows_left images_left start events rows image before pair finds failure failed left later h w =
    along_join start events (OpenedWith pair (NotOpened failure) ∷ []) (Left rows image) (Left left later) before (Left left later, (finds, failed.cause, (left, later, failed.leaves left later h w, refl)), refl)

-- a session, a stop that left these rows and this image, and their opening
pub reopened : (rows : Rows) (image : List ℕ) (entries : List TimedCommand) (answers : List Answer) (rows_left : Rows → Type 0) (images_left : List ℕ → Type 0) (session : IsSession rows image entries answers rows_left images_left)
    (left : Rows) (later : List ℕ) (records : Records) → rows_left left → images_left later → form_of left ≡ InForm records → AreWholeOnVolume records later → IsReopened rows image entries answers left records later
reopened rows image entries answers rows_left images_left session left later records h w is good = record {
  answered = session.answered;
  first = session.first;
  stands = session.stands;
  state = subst (IsStateAfter session.first entries answers) (stands_for_one left later state_found.0 (state_in records later) state_found.1 (stands_in left later records is good)) state_found.2;
  sound = λ sound.
      let events : List Event = OpenedWith (pair_of session.first) (Opened session.first) ∷ answer_events entries answers in
      let moves = session.moves (pair_of session.first) (finds_some rows image session.first session.stands sound) in
      let here = places_are_right session.first (Left rows image) session.end events (session.stands, sound) moves in
      still_sound (after session.first (found session.first events)) session.end left later records here may is;
  moves = λ before then finds finds_then.
      along_join (Left rows image) (OpenedWith before (Opened session.first) ∷ answer_events entries answers) (StoppedAtRest then ∷ OpenedWith then (Opened (state_in records later)) ∷ []) session.end (Serving records later)
      (session.moves before finds) (stop_and_open session.end left later records then may finds_then is good);
}
  where
    state_found : (state : State) × StandsFor left later state × IsStateAfter session.first entries answers state
    state_found = session.finds left later h w

    may : MayLeave session.end left later
    may = session.leaves left later h w

module _ {V S : Type 0} {g : volume.Ghosts V} {database : Ghosts S} (tells : g.tells) where
  -- an opening of rows and an image, and then commands
  pub session_made : (old new : Custody V S g database) (rows : Rows) (image : List ℕ) (entries : List TimedCommand) (answers : List (Result Reply not_accepted.Refused)) → IsServing database old
      → form_of rows ≡ InForm (current_records (open_custody_of old)) → AreWholeOnVolume (current_records (open_custody_of old)) image → image_of (open_custody_of old) ≡ image → HasRun old entries answers new → (store_state_of database (open_custody_of new)).IsHonest
      → IsSession rows image entries (answers_of entries answers) (store_state_of database (open_custody_of new)).may_leave (MayLeaveImage (open_custody_of new))
  session_made old new rows image entries answers serving is good same run honest =
      let records = current_records (open_custody_of old) in
      let moved = runs_move tells old new serving honest entries answers run in
      record {
        answered = same_length (place_of database old) moved.next entries (answers_of entries answers) moved.moves;
        first = state_in records image;
        stands = stands_in rows image records is good;
        end = moved.next;
        moves = λ pair finds. (
          Serving records image,
          (finds, (records, is, good, refl, refl)),
          subst (λ i. MovesAlong (Serving records i) (answer_events entries (answers_of entries answers)) moved.next) same (chains_move (place_of database old) moved.next entries (answers_of entries answers) moved.moves),
        );
        leaves = moved.leaves;
        finds = λ r j h w. subst (λ i. (state : State) × StandsFor r j state × IsStateAfter (state_in records i) entries (answers_of entries answers) state) same (moved.finds r j h w);
      }

  -- a beginning, commands, a stop that left rows and an image, and their opening
  pub resumed : (old new later : Custody V S g database) (entries : List TimedCommand) (answers : List (Result Reply not_accepted.Refused)) → IsServing database old → IsBegun nothing (place_of database old)
      → HasRun old entries answers new → (store_state_of database (open_custody_of new)).IsHonest
      → (rows : Rows) (image : List ℕ) → (store_state_of database (open_custody_of new)).may_leave rows → MayLeaveImage (open_custody_of new) image
      → form_of rows ≡ InForm (current_records (open_custody_of later)) → AreWholeOnVolume (current_records (open_custody_of later)) image → image_of (open_custody_of later) ≡ image → IsServing database later → IsResumed database entries (answers_of entries answers) later
  resumed old new later entries answers serving begun run honest rows image h w is good same serves =
      let records = current_records (open_custody_of later) in
      let told = answers_of entries answers in
      let moved = runs_move tells old new serving honest entries answers run in
      let there = moved.finds rows image h w in
      let state = subst (IsStateAfter (state_of_custody database old) entries told) (stands_for_one rows image there.0 (state_in records image) there.1 (stands_in rows image records is good)) there.2 in
      let here = places_are_right nothing (place_of database old) moved.next (answer_events entries told) begun (chains_move (place_of database old) moved.next entries told moved.moves) in
      record {
        answered = same_length (place_of database old) moved.next entries told moved.moves;
        state = subst (λ i. IsStateAfter nothing entries told (state_in records i)) (sym same) (subst (λ s. IsStateAfter s entries told (state_in records image)) begun.0 state);
        sound = subst (λ i. HasDigests i records) (sym same) (still_sound (after nothing (found nothing (answer_events entries told))) moved.next rows image records here (moved.leaves rows image h w) is);
        serves = serves;
      }
