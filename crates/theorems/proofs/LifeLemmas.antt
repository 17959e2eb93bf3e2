-- The life of an agent is a history.
use Rattle.std.proofs.Common.{◌≡◌, ℕ, List, [], ◌∷◌, ◌++◌, Bool, true, false, refl, sym, ◌∙◌, ap, subst, Ok, Err}
use Rattle.vault_volume.specs.declared.volume.Volume as volume
use Rattle.sqlite.specs.Store.{Ghosts}
use Rattle.sqlite.specs.Held.{Held, state}
use Rattle.custody_records.specs.Rows.{Rows}
use Rattle.custody_records.specs.Form.{form_of}
use Rattle.custody_store.specs.StoreState.{store_state, has_earlier_tables}
use Rattle.custody_machine.specs.State.{State}
use Rattle.custody_machine.specs.Machine.{after}
use Rattle.custody_machine.specs.History.{Event, Opened, NotOpened, StoppedAtRest, OpenedWith, found}
use Rattle.custody_machine.specs.StoredState.{AreWholeOnVolume, state_in}
use Rattle.custody_machine.specs.Moves.{Place, Serving, Left, MayLeave, Moves, MovesAlong, Finds, IsBegun, IsInState}
use Rattle.custody_machine.specs.Custody.{LeftSince}
use Rattle.custody_machine.proofs.Moves.{pair_of, finds_some, places_are_right}
use Rattle.custody.specs.declared.custody.Custody.{Custody}
use Rattle.custody.specs.OpenCustody.{current_records, image_of}
use Rattle.custody.specs.Custody.{open_custody_of}
use Rattle.custody.specs.Opening.{ReadsVolume}
use Rattle.custody.specs.Calls.{IsLoaded}
use Rattle.custody.proofs.Migrated.{left_of_all}
use Rattle.custody.proofs.Opened.{all_rests, first_of_all, known_of_all, left_same}
use Rattle.theorems.specs.Sessions.{IsServing, place_of}
use Rattle.theorems.specs.Lives.{IsRestart, OpenResult, volume_after, HasOpened, OpeningsMove, OpeningsMayStop, Agent, Up, Down, LifeStep, Calls, StopsWithin, StopsAtRest, Opens, DoesNotOpen, StopsInOpening, IsStepEvent, AreStepEvents, IsBeginningOf, BeginsEmpty, AgentGoes, AgentGoesAlong, IsAgentAt, AgentsLiveOn}
use Rattle.theorems.proofs.RunMoves.{along_join, is_there}
use Rattle.theorems.proofs.SessionLemmas.{may_not_open}
use Rattle.theorems.proofs.CallLemmas.{stops_at_rest, taken_by_call, calls_move}

-- ---- a beginning

module _ {V S : Type 0} {g : volume.Ghosts V} {database : Ghosts S} (tells : g.tells) (volume : V) (db : Held S) (number : ℕ) (custody : Custody V S g database) where
  pub begins_empty : IsBeginningOf database volume db number custody → BeginsEmpty database custody
  begins_empty b =
      let serving : IsServing database custody = record { opened = b.begun.opened; image = b.durable.image tells; rows = b.durable.rows b.tables b.honest } in
      (b.begun.begun, is_there custody serving)

-- ---- openings

module _ {V S : Type 0} (g : volume.Ghosts V) (database : Ghosts S) (tells : g.tells) (volume : V) (db : Held S) where
  -- what holds of the rows of the database and the image of the volume holds of those of the restart
  at_restart : (P : Rows → List ℕ → Type 0) (rows : Rows) (image : List ℕ) → IsRestart g database volume db rows image → P (store_state database db).rows (g.image volume) → P rows image
  at_restart P rows image r h = subst (P rows) r.image_is (subst (λ there. P there (g.image volume)) r.rows_are h)

  pub openings_move : (result : OpenResult g database) → OpeningsMove g database volume db result
  openings_move (Ok custody) rows image r did honest =
      let loaded : IsLoaded g database volume db custody = did.loaded in
      let serving : IsServing database custody = record { opened = did.opened.opened; image = loaded.image tells r.settled; rows = loaded.rows r.tables honest } in
      let records = current_records (open_custody_of custody) in
      let form = loaded.in_form (first_of_all (state database db) r.tables) honest in
      let same = loaded.same_image tells ∙ r.image_is in
      record {
        moves = λ pair finds. (
          finds,
          (records, ap form_of (sym r.rows_are) ∙ form, subst (AreWholeOnVolume records) r.image_is (loaded.good tells), ap (state_in records) same, ap (λ i. Serving records i) same),
        );
        there = is_there custody serving;
      }
  openings_move (Err e) rows image r did honest = λ left later h w pair.
      let why = may_not_open (store_state database db).rows (g.image volume) e.0 did.cause.not_closed
      (λ damage same. (did.damaged (known_of_all (state database db) r.tables) honest damage same).is_first tells) in
      let may = left_of_all g database volume db e.1 e.2 _ did.reads did.migrates tells r.settled r.tables honest left later h w in
      at_restart (λ rows image. Finds rows image pair → Moves (Left rows image) (OpenedWith pair (NotOpened e.0)) (Left left later)) rows image r (λ finds. (finds, why, (left, later, may, refl)))

  -- the volume is read, and not written, whatever the tables are
  reads_volume : (result : OpenResult g database) → HasOpened g database volume db result → ReadsVolume g volume (volume_after g database result)
  reads_volume result did = by (has_earlier_tables (store_state database db)) refl
    where
      by : (b : Bool) → has_earlier_tables (store_state database db) ≡ b → ReadsVolume g volume (volume_after g database result)
      by true earlier = (did.migrates earlier).image
      by false other = (did.reads other).image

  -- a stop within an opening leaves what its restart may leave
  left_in_opening : (result : OpenResult g database) (rows : Rows) (image : List ℕ) → IsRestart g database volume db rows image → HasOpened g database volume db result
      → (left : Rows) (later : List ℕ) → (store_state database db).may_leave left → LeftSince g.moment g.left_at volume (volume_after g database result) later → MayLeave (Left rows image) left later
  left_in_opening result rows image r did left later h since =
      let only = (reads_volume result did).any_moment tells in
      let same_rows = (all_rests (state database db) r.tables).only left h in
      let same_image = (r.settled later).0 (only.since since.0 later since.1 since.2 since.3) in
      at_restart (λ rows image. MayLeave (Left rows image) left later) rows image r (left_same (store_state database db).rows (g.image volume) left later same_rows same_image)

  pub openings_may_stop : (result : OpenResult g database) → OpeningsMayStop g database volume db result
  openings_may_stop result rows image r did left later pair h since finds = (left, later, left_in_opening result rows image r did left later h since, finds, refl)

-- ---- steps

module _ {V S : Type 0} {g : volume.Ghosts V} {database : Ghosts S} where
  -- A step is an event that takes the agent from a place to another.
  record IsStepTaken (place : Place) (step : LifeStep) (new : Agent (Custody V S g database)) : Type 0 where
    event : Event
    is_event : IsStepEvent step event
    next : Place
    moves : Moves place event next
    there : IsAgentAt database new next

module _ {V S : Type 0} {g : volume.Ghosts V} {database : Ghosts S} (tells : g.tells) where
  from_down : (first : State) (rows : Rows) (image : List ℕ) → IsInState first (Left rows image) → (step : LifeStep) (new : Agent (Custody V S g database)) → AgentGoes database (Down rows image) step new → IsStepTaken (Left rows image) step new
  from_down first rows image here Opens (Up custody) goes =
      let opened = openings_move g database tells goes.0 goes.1 (Ok custody) rows image goes.2 goes.3 goes.4 in
      let pair = pair_of first in record {
        event = OpenedWith pair (Opened (state_in (current_records (open_custody_of custody)) (image_of (open_custody_of custody))));
        is_event = (pair, state_in (current_records (open_custody_of custody)) (image_of (open_custody_of custody)), refl);
        next = place_of database custody;
        moves = opened.moves pair (finds_some rows image first here.0 here.1);
        there = opened.there;
      }
  from_down first rows image here (DoesNotOpen failure) (Down left later) goes =
      let pair = pair_of first in record {
        event = OpenedWith pair (NotOpened failure);
        is_event = (pair, refl);
        next = Left left later;
        moves = openings_move g database tells goes.0 goes.1 (Err (failure, goes.2, goes.3)) rows image goes.4 goes.5 goes.6 left later goes.7 goes.8 pair (finds_some rows image first here.0 here.1);
        there = refl;
      }
  from_down first rows image here StopsInOpening (Down left later) goes =
      let stop = stops_at_rest (Left rows image) left later (left_in_opening g database tells goes.0 goes.1 goes.2 rows image goes.3 goes.4 left later goes.5 goes.6) in
      let pair = stop.finds first here in record { event = StoppedAtRest pair.0; is_event = (pair.0, refl); next = Left left later; moves = stop.moves pair.0 pair.1; there = refl }
  from_down first rows image here step new goes = absurd goes

  one_step : (first : State) (place : Place) → IsInState first place → (old : Agent (Custody V S g database)) (step : LifeStep) (new : Agent (Custody V S g database)) → IsAgentAt database old place → AgentGoes database old step new → IsStepTaken place step new
  one_step first place here (Up old) (Calls call) (Up new) at goes =
      let c = calls_move tells old new place call at goes.0 goes.1 in record { event = c.event; is_event = c.is_event; next = c.next; moves = c.moves; there = c.there }
  one_step first place here (Up old) (StopsWithin call) (Down rows image) at goes =
      let c = taken_by_call tells old goes.0 place call at goes.2 goes.1 in
      let stop = c.taken.stops rows image goes.3 goes.4 in
      let pair = stop.finds first here in record { event = c.stop pair.0; is_event = (pair.0, c.is_stop pair.0); next = Left rows image; moves = stop.moves pair.0 pair.1; there = refl }
  one_step first place here (Up old) StopsAtRest (Down rows image) at goes =
      let stop = stops_at_rest place rows image (at.leaves rows image goes.0 goes.1) in
      let pair = stop.finds first here in record { event = StoppedAtRest pair.0; is_event = (pair.0, refl); next = Left rows image; moves = stop.moves pair.0 pair.1; there = refl }
  one_step first place here (Down rows image) step new at goes = subst (λ p. IsStepTaken p step new) (sym at) (from_down first rows image (subst (IsInState first) at here) step new goes)
  one_step first place here old step new at goes = absurd goes

  -- ---- a life

  -- steps are events that take the agent from a place to another
  record AreStepsTaken (place : Place) (steps : List LifeStep) (new : Agent (Custody V S g database)) : Type 0 where
    events : List Event
    are_events : AreStepEvents steps events
    end : Place
    moves : MovesAlong place events end
    there : IsAgentAt database new end

  -- whatever was before
  along : (first : State) (start : Place) → IsBegun first start → (steps : List LifeStep) (before : List Event) (place : Place) → MovesAlong start before place
      → (old new : Agent (Custody V S g database)) → IsAgentAt database old place → AgentGoesAlong database old steps new → AreStepsTaken place steps new
  along first start begun [] before place came old new at goes = record { events = []; are_events = tt; end = place; moves = refl; there = subst (λ a. IsAgentAt database a place) (sym goes) at }
  along first start begun (step ∷ steps) before place came old new at goes =
      let t = one_step (after first (found first before)) place (places_are_right first start place before begun came) old step goes.0 at goes.1 in
      let rest = along first start begun steps (before ++ t.event ∷ []) t.next (along_join start before (t.event ∷ []) place t.next came (t.next, t.moves, refl)) goes.0 new t.there goes.2 in
      record { events = t.event ∷ rest.events; are_events = (t.is_event, rest.are_events); end = rest.end; moves = (t.next, t.moves, rest.moves); there = rest.there }

  pub agents_live_on : AgentsLiveOn g database
  agents_live_on first start agent begun at steps later goes =
      let life = along first start begun steps [] start refl agent later at goes in record {
        events = life.events;
        are_events = life.are_events;
        place = life.end;
        moves = life.moves;
        there = life.there;
        state = places_are_right first start life.end life.events begun life.moves;
      }
