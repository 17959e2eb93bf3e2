-- What commands in order do to an open custody, as moves of the machine.
use Rattle.std.proofs.Common.{◌≡◌, ℕ, List, [], ◌∷◌, ◌++◌, Option, Some, None, Bool, true, false, refl, sym, ◌∙◌, ap, subst, Result}
use Rattle.std.specs.Prelude.{is_none}
use Rattle.vault_volume.specs.declared.volume.Volume as volume
use Rattle.vault_volume.specs.Vault.{volume_of, IsFree}
use Rattle.sqlite.specs.Store.{Ghosts}
use Rattle.custody_records.specs.Records.{Records}
use Rattle.custody_records.specs.Rows.{Rows}
use Rattle.custody_records.specs.Form.{form_of}
use Rattle.custody_machine.specs.State.{State}
use Rattle.custody_machine.specs.Machine as machine
use Rattle.custody_machine.specs.Machine.{Command, TimedCommand, after, Answer, Accepted, Refused, Failed}
use Rattle.custody_machine.specs.declared.answers.Failure.TheVariants.{VolumeFailed, StoreFailed, Closed}
use Rattle.custody_machine.specs.History.{MayFind, Event, StoppedWithin}
use Rattle.custody_machine.specs.StoredState.{IsPartBlock, StandsFor, state_in}
use Rattle.custody_machine.specs.Moves.{Place, Serving, Shut, Left, MayLeave, Moves, MovesAlong, AnswersAlong, MovesBy, answer_events}
use Rattle.custody_machine.specs.Custody.{IsAtPlace}
use Rattle.custody_machine.proofs.Composed.{at_rest, named_used}
use Rattle.custody_records.proofs.FormLemmas.{InForm-injective}
use Rattle.custody_machine.proofs.Moves.{chains_move}
use Rattle.custody_machine.proofs.Stored.{stands_of}
use Rattle.custody.specs.declared.answers.Reply.{Reply}
use Rattle.custody.specs.declared.answers.Refused as not_accepted
use Rattle.custody.specs.declared.custody.Custody.{Custody}
use Rattle.custody.specs.Answers.{answer_of, stays_open}
use Rattle.custody.specs.OpenCustody.{current_records, store_state_of, image_of, failures_of, MayLeaveImage, MayLeaveImageSince, KeepsPast, KeepsOrder}
use Rattle.custody.specs.Custody.{open_custody_of, is_open, HasApplied, HasRun}
use Rattle.theorems.specs.Sessions.{answers_of, accepted_commands, command_in_doubt, IsServing, place_of, state_of_custody, StopLeaves, SparesFreeBlocks, HasMoved, RunsMove, StopsMove}
use Rattle.theorems.specs.Requests.{IsCustodyAt}
use Rattle.custody.proofs.OpenCustodyLemmas.{since_same, past_same, past_join}

-- ---- moves and states

-- moves, and then others
pub along_join : (place : Place) (xs ys : List Event) (mid end : Place) → MovesAlong place xs mid → MovesAlong mid ys end → MovesAlong place (xs ++ ys) end
along_join place [] ys mid end first then = subst (λ p. MovesAlong p ys end) first then
along_join place (x ∷ xs) ys mid end first then = (first.0, first.1, along_join first.0 xs ys mid end first.2 then)

-- the state at a place, and the command in doubt
abbrev IsStill : Place → State → Option TimedCommand → Type 0
IsStill (Serving records image) state doubt = (state_in records image ≡ state) × (doubt ≡ None)
IsStill (Shut records image entry) state doubt = (state_in records image ≡ state) × (doubt ≡ entry)
IsStill (Left rows image) state doubt = ⊥

-- a closed custody does nothing
shut_chain : (records : Records) (image : List ℕ) (doubt : Option TimedCommand) (entries : List TimedCommand) (answers : List Answer) (next : Place) → AnswersAlong MovesBy (Shut records image doubt) entries answers next
    → (next ≡ Shut records image doubt) × (accepted_commands entries answers ≡ []) × (command_in_doubt entries answers ≡ None)
shut_chain records image doubt [] [] next c = (c, refl, refl)
shut_chain records image doubt (e ∷ entries) (a ∷ answers) next c =
    let m = c.1 in
    let rest = shut_chain records image doubt entries answers next (subst (λ p. AnswersAlong MovesBy p entries answers next) m.1 c.2) in
    (rest.0, ap (λ x. accepted_commands (e ∷ entries) (x ∷ answers)) m.0 ∙ rest.1, ap (λ x. command_in_doubt (e ∷ entries) (x ∷ answers)) m.0 ∙ rest.2)
shut_chain records image doubt _ _ next c = absurd c

-- a custody that a failure has closed: what is in doubt is what was before, since no command is in doubt behind it
then_shut : (records : Records) (image : List ℕ) (doubt : Option TimedCommand) (entries : List TimedCommand) (answers : List Answer) (mid next : Place) → mid ≡ Shut records image doubt → AnswersAlong MovesBy mid entries answers next
    → (d : Option TimedCommand) → (command_in_doubt entries answers ≡ None → d ≡ doubt) → IsStill next (after (state_in records image) (accepted_commands entries answers)) d
then_shut records image doubt entries answers mid next is c d same =
    let shut = shut_chain records image doubt entries answers next (subst (λ p. AnswersAlong MovesBy p entries answers next) is c) in
    subst (λ p. IsStill p (after (state_in records image) (accepted_commands entries answers)) d) (sym shut.0) (ap (after (state_in records image)) (sym shut.1), same shut.2)

-- commands in order lead to the state after those that were accepted, with the one in doubt
pub still_at : (records : Records) (image : List ℕ) (entries : List TimedCommand) (answers : List Answer) (next : Place) → AnswersAlong MovesBy (Serving records image) entries answers next → IsStill next (after (state_in records image) (accepted_commands entries answers)) (command_in_doubt entries answers)
still_at records image [] [] next c = subst (λ p. IsStill p (state_in records image) None) (sym c) (refl, refl)
still_at records image (e ∷ entries) (Accepted reply ∷ answers) next c =
    let m = c.1 in
    let rest = still_at m.0 m.1 entries answers next (subst (λ p. AnswersAlong MovesBy p entries answers next) m.5 c.2) in
    subst (λ s. IsStill next (after s (accepted_commands entries answers)) (command_in_doubt entries answers)) (sym (ap (machine.state_of (state_in records image)) m.2)) rest
still_at records image (e ∷ entries) (Failed VolumeFailed ∷ answers) next c = then_shut records image None entries answers c.0 next c.1.5 c.2 (command_in_doubt entries answers) (λ none. none)
still_at records image (e ∷ entries) (Failed StoreFailed ∷ answers) next c = then_shut records image (Some (e.0, e.1)) entries answers c.0 next c.1.5 c.2 (Some (e.0, e.1)) (λ none. refl)
still_at records image (e ∷ entries) (Failed Closed ∷ answers) next c = absurd c.1.2.0
still_at records image (e ∷ entries) (answer ∷ answers) next c =
    let m = c.1 in
    let rest = still_at m.0 m.1 entries answers next (subst (λ p. AnswersAlong MovesBy p entries answers next) m.5 c.2) in
    subst (λ s. IsStill next (after s (accepted_commands entries answers)) (command_in_doubt entries answers)) m.2.1 rest
still_at records image _ _ next c = absurd c

-- what a stop leaves there stands for it, or for the state after the command in doubt
pub found_at : (place : Place) (state : State) (doubt : Option TimedCommand) (rows : Rows) (left : List ℕ) → IsStill place state doubt → MayLeave place rows left → (found : State) × StandsFor rows left found × MayFind state doubt found
found_at (Serving records image) state doubt rows left still may =
    let found = state_in may.records left in (
      found,
      stands_of records image (λ found. found ≡ state_in records image) rows left may,
      subst (λ d. MayFind state d found) (sym still.1) (may.state ∙ still.0),
    )
found_at (Shut records image entry) state doubt rows left still may =
    let found = state_in may.records left in (
      found,
      stands_of records image (MayFind (state_in records image) entry) rows left may,
      subst (λ d. MayFind state d found) (sym still.1) (subst (λ s. MayFind s entry found) still.0 may.state),
    )
found_at (Left before image) state doubt rows left still may = absurd still

-- ---- the place of a custody

pub is_serving : (b : Bool) (records : Records) (image : List ℕ) (next : Place) → b ≡ true → IsAtPlace b records image next → next ≡ Serving records image
is_serving true records image (Serving there left) e at = λ k. Serving (at.0 k) (at.1 k)
is_serving true records image _ e at = absurd at
is_serving false records image next e at = cc

pub is_shut : (b : Bool) (records : Records) (image : List ℕ) (next : Place) → b ≡ false → IsAtPlace b records image next → (r : Records) × (i : List ℕ) × (doubt : Option TimedCommand) × (next ≡ Shut r i doubt)
is_shut false records image (Shut there left doubt) e at = (there, left, doubt, refl)
is_shut false records image _ e at = absurd at
is_shut true records image next e at = cc

module _ {V S : Type 0} {g : volume.Ghosts V} {database : Ghosts S} where
  -- ---- at rest

  module _ (c : Custody V S g database) (serving : IsServing database c) where
    order : KeepsOrder (open_custody_of c)
    order = c.order serving.opened

    pub rests : StopLeaves database c (MayLeave (place_of database c))
    rests rows left h w =
        let held = open_custody_of c in
        at_rest (current_records held) (store_state_of database held).rows (image_of held) (g.size (volume_of held.vault)) (failures_of held) (IsFree held.vault) (store_state_of database held).IsReady (store_state_of database held).may_leave (MayLeaveImage held) order serving.image serving.rows rows left h w

    pub rests_in_state : StopLeaves database c (λ rows image. StandsFor rows image (state_of_custody database c))
    rests_in_state rows left h w =
        let may = rests rows left h w in
        subst (StandsFor rows left) may.state (stands_of (current_records (open_custody_of c)) (image_of (open_custody_of c)) (λ found. found ≡ state_of_custody database c) rows left may)

    pub rests_apart : StopLeaves database c (λ rows image. SparesFreeBlocks database c rows)
    rests_apart rows left h w records is b named =
        let held = open_custody_of c in
        let form = ap form_of (serving.rows.settled rows h) ∙ serving.rows.in_form in
        let same : current_records held ≡ records = InForm-injective (current_records held) records (sym form ∙ is) in
        named_used (current_records held) (g.size (volume_of held.vault)) (failures_of held) (IsFree held.vault) order b (subst (λ r. IsPartBlock r b) (sym same) named)

  -- ---- commands in order

  closed_run : (records : Records) (image : List ℕ) (doubt : Option TimedCommand) (old new : Custody V S g database) (entries : List TimedCommand) (answers : List (Result Reply not_accepted.Refused)) → is_open old ≡ false → HasRun old entries answers new
      → (new ≡ old) × AnswersAlong MovesBy (Shut records image doubt) entries (answers_of entries answers) (Shut records image doubt)
  closed_run records image doubt old new [] [] shut run = (run, refl)
  closed_run records image doubt old new (e ∷ entries) (a ∷ answers) shut run =
      let applied = run.1 in
      let one = applied.closed shut in
      let rest = closed_run records image doubt run.0 new entries answers (ap is_open one.1 ∙ shut) run.2 in
      (rest.0 ∙ one.1, (Shut records image doubt, (ap (answer_of e.0) one.0, refl), rest.1))
  closed_run records image doubt old new _ _ shut run = absurd run

  -- so a database that is honest was so before a command
  pub trusts : (old new : Custody V S g database) (command : Command) (now : ℕ) (answer : Result Reply not_accepted.Refused) → HasApplied old command now answer new → (store_state_of database (open_custody_of new)).IsHonest → (store_state_of database (open_custody_of old)).IsHonest
  trusts old new command now answer applied honest = by (is_open old) refl
    where
      by : (b : Bool) → is_open old ≡ b → (store_state_of database (open_custody_of old)).IsHonest
      by true opened = (applied.done opened).trust honest
      by false shut = subst (λ c. (store_state_of database (open_custody_of c)).IsHonest) (applied.closed shut).1 honest

  -- and before commands in order
  pub honest_then : (old new : Custody V S g database) (entries : List TimedCommand) (answers : List (Result Reply not_accepted.Refused)) → HasRun old entries answers new → (store_state_of database (open_custody_of new)).IsHonest → (store_state_of database (open_custody_of old)).IsHonest
  honest_then old new [] [] run honest = subst (λ c. (store_state_of database (open_custody_of c)).IsHonest) run honest
  honest_then old new (e ∷ entries) (a ∷ answers) run honest = trusts old run.0 e.0 e.1 a run.1 (honest_then run.0 new entries answers run.2 honest)
  honest_then old new _ _ run honest = absurd run

  -- an open custody is at its place
  pub is_there : (custody : Custody V S g database) → IsServing database custody → IsCustodyAt database custody (place_of database custody)
  is_there custody serving = record {
    is_at = subst (λ b. IsAtPlace b (current_records (open_custody_of custody)) (image_of (open_custody_of custody)) (place_of database custody)) (sym serving.opened) (refl, refl);
    leaves = rests custody serving;
    serves = λ _. serving;
  }

  -- it is at a place, and no transaction is open
  abbrev IsThere : (c : Custody V S g database) → Place → Type 0
  IsThere c next = IsCustodyAt database c next × ((store_state_of database (open_custody_of c)).in_transaction ≡ false)

  module _ (tells : g.tells) where
    -- a command after which it is open leaves it serving
    pub serves_on : (old new : Custody V S g database) (command : Command) (now : ℕ) (answer : Result Reply not_accepted.Refused)
        → IsServing database old → (store_state_of database (open_custody_of new)).IsHonest → HasApplied old command now answer new → stays_open answer ≡ true → IsServing database new
    serves_on old new command now answer serving honest applied stays =
        let all = applied.done serving.opened in
        record { opened = ap is_none (applied.closes serving.opened) ∙ stays; image = all.image stays tells serving.image; rows = all.rows stays honest serving.rows }

    run_from : (old new : Custody V S g database) (entries : List TimedCommand) (answers : List (Result Reply not_accepted.Refused)) → IsServing database old → (store_state_of database (open_custody_of new)).IsHonest → HasRun old entries answers new
        → (next : Place) × AnswersAlong MovesBy (place_of database old) entries (answers_of entries answers) next × IsThere new next × KeepsPast (open_custody_of old) (open_custody_of new)
    run_from old new [] [] serving honest run = (
      place_of database old,
      refl,
      subst (λ c. IsThere c (place_of database old)) (sym run) (is_there old serving, serving.rows.ready.rest.autocommit),
      subst (λ c. KeepsPast (open_custody_of old) (open_custody_of c)) (sym run) (past_same (open_custody_of old)),
    )
    run_from old new (e ∷ entries) (a ∷ answers) serving honest run = by (λ serving_mid. run_from run.0 new entries answers serving_mid honest run.2) (stays_open a) refl
      where
        mid : Custody V S g database
        mid = run.0

        honest_mid : (store_state_of database (open_custody_of mid)).IsHonest
        honest_mid = honest_then mid new entries answers run.2 honest

        past : KeepsPast (open_custody_of old) (open_custody_of mid)
        past = let moment = (run.1.done serving.opened).any_moment tells serving.image in (moment.later, moment.past)

        by : (IsServing database mid → (next : Place) × AnswersAlong MovesBy (place_of database mid) entries (answers_of entries answers) next × IsThere new next × KeepsPast (open_custody_of mid) (open_custody_of new))
            → (b : Bool) → stays_open a ≡ b → (next : Place) × AnswersAlong MovesBy (place_of database old) (e ∷ entries) (answers_of (e ∷ entries) (a ∷ answers)) next × IsThere new next × KeepsPast (open_custody_of old) (open_custody_of new)
        by go_on true stays =
            let s = (run.1.done serving.opened).serves tells honest_mid serving.image serving.rows in
            let is = is_serving (stays_open a) (current_records (open_custody_of mid)) (image_of (open_custody_of mid)) s.next stays s.is_at in
            let more = go_on (serves_on old mid e.0 e.1 a serving honest_mid run.1 stays) in
            (more.0, (s.next, s.moves, subst (λ p. AnswersAlong MovesBy p entries (answers_of entries answers) more.0) (sym is) more.1), more.2, past_join (open_custody_of old) (open_custody_of mid) (open_custody_of new) past more.3)
        by go_on false stays =
            let s = (run.1.done serving.opened).serves tells honest_mid serving.image serving.rows in
            let opened = ap is_none (run.1.closes serving.opened) in
            let shut = is_shut (stays_open a) (current_records (open_custody_of mid)) (image_of (open_custody_of mid)) s.next stays s.is_at in
            let closed = closed_run shut.0 shut.1 shut.2 mid new entries answers (opened ∙ stays) run.2 in
            let there : IsCustodyAt database mid s.next = record {
              is_at = subst (λ b. IsAtPlace b (current_records (open_custody_of mid)) (image_of (open_custody_of mid)) s.next) (sym opened) s.is_at;
              leaves = s.leaves.at_exit;
              serves = λ is. let clash : true ≡ false = sym is ∙ (opened ∙ stays) in cc;
            } in (
              s.next,
              (s.next, s.moves, subst (λ p. AnswersAlong MovesBy p entries (answers_of entries answers) p) (sym shut.3) closed.1),
              subst (λ c. IsThere c s.next) (sym closed.0) (there, (run.1.done serving.opened).mode honest_mid serving.rows),
              subst (λ c. KeepsPast (open_custody_of old) (open_custody_of c)) (sym closed.0) past,
            )
    run_from old new _ _ serving honest run = absurd run

    pub runs_move : (old new : Custody V S g database) → RunsMove database old new
    runs_move old new serving honest entries answers run =
        let moved = run_from old new entries answers serving honest run in
        let there = moved.2 in
        let still = still_at (current_records (open_custody_of old)) (image_of (open_custody_of old)) entries (answers_of entries answers) moved.0 moved.1 in
        record {
          next = moved.0;
          moves = moved.1;
          is_at = there.0.is_at;
          leaves = there.0.leaves;
          finds = λ rows image h w. found_at moved.0 _ _ rows image still (there.0.leaves rows image h w);
          past = moved.3;
          mode = there.1;
          serves = there.0.serves;
        }

    pub stops_move : (old mid new : Custody V S g database) → StopsMove database old mid new
    stops_move old mid new serving honest entries answers run command now answer applied rows image pair left since finds = by (is_open mid) refl
      where
        moved : HasMoved database old mid entries (answers_of entries answers)
        moved = runs_move old mid serving (trusts mid new command now answer applied honest) entries answers run

        then : (place : Place) → moved.next ≡ place → Moves place (StoppedWithin command now pair) (Left rows image)
            → MovesAlong (place_of database old) (answer_events entries (answers_of entries answers) ++ StoppedWithin command now pair ∷ []) (Left rows image)
        then place is stop = along_join (place_of database old) (answer_events entries (answers_of entries answers)) (StoppedWithin command now pair ∷ []) moved.next (Left rows image)
            (chains_move (place_of database old) moved.next entries (answers_of entries answers) moved.moves) (Left rows image, subst (λ p. Moves p (StoppedWithin command now pair) (Left rows image)) (sym is) stop, refl)

        by : (b : Bool) → is_open mid ≡ b → MovesAlong (place_of database old) (answer_events entries (answers_of entries answers) ++ StoppedWithin command now pair ∷ []) (Left rows image)
        by true opened =
            let serving_mid = moved.serves opened in
            let s = (applied.done opened).serves tells honest serving_mid.image serving_mid.rows in
            let is = is_serving (is_open mid) (current_records (open_custody_of mid)) (image_of (open_custody_of mid)) moved.next opened moved.is_at in
            then (place_of database mid) is (rows, image, s.leaves.within rows image left since, finds, refl)
        by false shut =
            let place = is_shut (is_open mid) (current_records (open_custody_of mid)) (image_of (open_custody_of mid)) moved.next shut moved.is_at in
            let same = applied.closed shut in
            let here = since_same g.moment g.left_at (volume_of (open_custody_of mid).vault) image (subst (λ (c : Custody V S g database). MayLeaveImageSince (open_custody_of mid) (open_custody_of c) image) same.1 since) in
            let may : MayLeave (Shut place.0 place.1 place.2) rows image = subst (λ p. MayLeave p rows image) place.3 (moved.leaves rows image left here) in
            then (Shut place.0 place.1 place.2) place.3 (rows, image, may, finds, refl)
