-- The laws of histories. Nothing here looks into the machine's `step`: they hold whatever the commands are.
use Rattle.std.specs.Option.{option_or}
use Rattle.std.proofs.Common.{◌≡◌, ℕ, List, [], ◌∷◌, ◌++◌, Option, Some, None, Bool, true, false, ◌⊎◌, inl, inr, refl, sym, ◌∙◌, ap, subst, if◌then◌else◌, append_assoc, append-nil}
use Rattle.custody_machine.specs.State.{State}
use Rattle.custody_machine.specs.Machine.{Command, TimedCommand, Step, Refuse, Accept, step, state_of, state_after, after, Answer, Accepted, Refused, Failed, NoMemory, VolumeFailed, StoreFailed, Closed, Damaged}
use Rattle.custody_machine.specs.SameValues.{is_same_state}
use Rattle.custody_machine.specs.History.{IsFoundWithin, MayFind, Pair, OpenAnswer, Opened, NotOpened, MayOpen, Event, Answered, AnsweredOtherCall, ShutDown, StoppedAtRest, StoppedWithin, OpenedWith, Condition, Running, Halted, Stopped, OpensSoundly, Happens, HappensAlong, IsStart, FoundCommands, is_step_to, found_at_stop, found_after_event, found_after, none_found, OpeningsAreRight, NothingIsTakenBack, AcceptedIsFound}
use Rattle.custody_machine.proofs.SameValues.{state_decides}

pub after-append : (state : State) (xs ys : List TimedCommand) → after state (xs ++ ys) ≡ after (after state xs) ys
after-append state [] ys = refl
after-append state (x ∷ xs) ys = after-append (state_after state x.0 x.1) xs ys

-- a run of two parts passes through a condition
pub run_split : (c : Condition) (xs ys : List Event) (last : Condition) → HappensAlong c (xs ++ ys) last → (mid : Condition) × HappensAlong c xs mid × HappensAlong mid ys last
run_split c [] ys last run = (c, refl, run)
run_split c (x ∷ xs) ys last run = let rest = run_split run.0 xs ys last run.2 in (rest.0, (run.0, run.1, rest.1), rest.2)

-- of what P holds, Q holds
pub weaker : {P Q : State → Type 0} (pair : Pair) → ((s : State) → P s → Q s) → OpensSoundly P pair → OpensSoundly Q pair
weaker pair f h = (h.0, h.1, f h.0 h.2, h.3)

-- the command in doubt is found exactly where the state found is the new one
chosen : (first : State) (r : Step) (old s : State) (xs ys : List TimedCommand) → after first xs ≡ old → after first ys ≡ state_of old r → (s ≡ old) ⊎ (s ≡ state_of old r) → s ≡ after first (if is_step_to r (Some s) then ys else xs)
chosen first (Refuse q) old s xs ys is_old is_new (inl p) = p ∙ sym is_old
chosen first (Refuse q) old s xs ys is_old is_new (inr p) = p ∙ sym is_old
chosen first (Accept reply new) old s xs ys is_old is_new w = by_test (is_same_state s new) refl w
  where
    by_test : (b : Bool) → is_same_state s new ≡ b → (s ≡ old) ⊎ (s ≡ new) → s ≡ after first (if b then ys else xs)
    by_test true e w = (state_decides s new).0 e ∙ sym is_new
    by_test false e (inl p) = p ∙ sym is_old
    by_test false e (inr p) = let same : is_same_state s new ≡ true = (state_decides s new).1 p in cc

module _ (first : State) where
  -- what the account of the commands found says of the condition
  abbrev pub Fits : Condition → FoundCommands → Type 0
  Fits (Running state) f = (after first f.commands ≡ state) × (f.in_doubt ≡ None)
  Fits (Halted old doubt) f = (after first f.commands ≡ old) × (f.in_doubt ≡ doubt)
  Fits (Stopped pair) f = OpensSoundly (λ state. state ≡ after first f.commands) pair × (f.in_doubt ≡ None)

  settled_by : (commands : List TimedCommand) (entry : TimedCommand) (pair : Pair) → OpensSoundly (IsFoundWithin (after first commands) entry.0 entry.1) pair
      → OpensSoundly (λ s. s ≡ after first (found_at_stop first commands (Some entry) pair).commands) pair
  settled_by commands entry pair h =
      let r : Step = step (after first commands) entry.0 entry.1 in (
        h.0,
        h.1,
        subst (λ o. h.0 ≡ after first (if is_step_to r o then commands ++ entry ∷ [] else commands)) (sym h.1)
            (chosen first r (after first commands) h.0 commands (commands ++ entry ∷ []) refl (after-append first commands (entry ∷ [])) h.2),
        h.3,
      )

  -- a session has ended with a command in doubt, or with none
  settles : (commands : List TimedCommand) (doubt : Option TimedCommand) (pair : Pair) → OpensSoundly (MayFind (after first commands) doubt) pair → Fits (Stopped pair) (found_at_stop first commands doubt pair)
  settles commands None pair h = (h, refl)
  settles commands (Some entry) pair h = (settled_by commands entry pair h, refl)

  -- in the state and the doubt that the account names
  settles_as : (f : FoundCommands) (old : State) (doubt : Option TimedCommand) (pair : Pair) → after first f.commands ≡ old → f.in_doubt ≡ doubt → OpensSoundly (MayFind old doubt) pair → Fits (Stopped pair) (found_at_stop first f.commands f.in_doubt pair)
  settles_as f old doubt pair is in_doubt h = settles f.commands f.in_doubt pair (weaker pair (λ s m. subst (λ d. MayFind (after first f.commands) d s) (sym in_doubt) (subst (λ o. MayFind o doubt s) (sym is) m)) h)

  -- a stop within a command leaves no more
  or_within : (old : State) (doubt : Option TimedCommand) (command : Command) (now : ℕ) (s : State) → MayFind old doubt s → MayFind old (option_or doubt (Some (command, now))) s
  or_within old None command now s h = inl h
  or_within old (Some entry) command now s h = h

  settles_within : (f : FoundCommands) (old : State) (doubt : Option TimedCommand) (command : Command) (now : ℕ) (pair : Pair) → after first f.commands ≡ old → f.in_doubt ≡ doubt → OpensSoundly (MayFind old (option_or doubt (Some (command, now)))) pair
      → Fits (Stopped pair) (found_at_stop first f.commands (option_or f.in_doubt (Some (command, now))) pair)
  settles_within f old doubt command now pair is in_doubt h =
      settles f.commands (option_or f.in_doubt (Some (command, now))) pair
      (weaker pair (λ s m. subst (λ d. MayFind (after first f.commands) (option_or d (Some (command, now))) s) (sym in_doubt) (subst (λ o. MayFind o (option_or doubt (Some (command, now))) s) (sym is) m)) h)

  -- an open custody has answered
  answered_fits : (old new : State) (command : Command) (now : ℕ) (answer : Answer) (next : Condition) (f : FoundCommands) → Fits (Running old) f → Happens (Running old) (Answered command now answer) next → Fits next (found_after_event first f (Answered command now answer))
  answered_fits old new command now (Accepted reply) next f fits h =
      subst (λ c. Fits c (found_after_event first f (Answered command now (Accepted reply)))) (sym h.2)
      (after-append first f.commands ((command, now) ∷ []) ∙ ap (λ s. state_after s command now) fits.0 ∙ ap (state_of old) h.1, fits.1)
  answered_fits old new command now (Refused q) next f fits h = subst (λ c. Fits c f) (sym h.2) (fits.0 ∙ sym h.1.1, fits.1)
  answered_fits old new command now (Failed NoMemory) next f fits h = subst (λ c. Fits c (found_after_event first f (Answered command now (Failed NoMemory)))) (sym h.2) (fits.0 ∙ sym h.1.1, ap (λ d. option_or d None) fits.1)
  answered_fits old new command now (Failed VolumeFailed) next f fits h = subst (λ c. Fits c (found_after_event first f (Answered command now (Failed VolumeFailed)))) (sym h.2) (fits.0, ap (λ d. option_or d None) fits.1)
  answered_fits old new command now (Failed StoreFailed) next f fits h = subst (λ c. Fits c (found_after_event first f (Answered command now (Failed StoreFailed)))) (sym h.2) (fits.0, ap (λ d. option_or d (Some (command, now))) fits.1)
  answered_fits old new command now (Failed Closed) next f fits h = absurd h.1.0
  answered_fits old new command now (Failed (Damaged damage)) next f fits h = subst (λ c. Fits c (found_after_event first f (Answered command now (Failed (Damaged damage))))) (sym h.2) (fits.0 ∙ sym h.1.1, ap (λ d. option_or d None) fits.1)

  pub or_none : (d : Option TimedCommand) → option_or d None ≡ d
  or_none None = refl
  or_none (Some entry) = refl

  -- each event keeps the account right
  pub fits_then : (c : Condition) (event : Event) (next : Condition) (f : FoundCommands) → Fits c f → Happens c event next → Fits next (found_after_event first f event)
  fits_then (Running old) (Answered command now answer) next f fits h = answered_fits old old command now answer next f fits h
  fits_then (Running old) AnsweredOtherCall next f fits h = subst (λ c. Fits c f) (sym h) fits
  fits_then (Running old) ShutDown next f fits h = subst (λ c. Fits c f) (sym h) fits
  fits_then (Running old) (StoppedAtRest pair) next f fits h = subst (λ c. Fits c (found_at_stop first f.commands f.in_doubt pair)) (sym h.1) (settles_as f old None pair fits.0 fits.1 h.0)
  fits_then (Running old) (StoppedWithin command now pair) next f fits h =
      subst (λ c. Fits c (found_at_stop first f.commands (option_or f.in_doubt (Some (command, now))) pair)) (sym h.1) (settles_within f old None command now pair fits.0 fits.1 h.0)
  fits_then (Halted old doubt) (Answered command now answer) next f fits h =
      subst (λ c. Fits c (found_after_event first f (Answered command now answer))) (sym h.1) (subst (λ a. Fits (Halted old doubt) (found_after_event first f (Answered command now a))) (sym h.0) (fits.0, or_none f.in_doubt ∙ fits.1))
  fits_then (Halted old doubt) AnsweredOtherCall next f fits h = subst (λ c. Fits c f) (sym h) fits
  fits_then (Halted old doubt) ShutDown next f fits h = subst (λ c. Fits c f) (sym h) fits
  fits_then (Halted old doubt) (StoppedAtRest pair) next f fits h = subst (λ c. Fits c (found_at_stop first f.commands f.in_doubt pair)) (sym h.1) (settles_as f old doubt pair fits.0 fits.1 h.0)
  fits_then (Halted old doubt) (StoppedWithin command now pair) next f fits h =
      subst (λ c. Fits c (found_at_stop first f.commands (option_or f.in_doubt (Some (command, now))) pair)) (sym h.1)
      (settles_within f old doubt command now pair fits.0 fits.1 (weaker pair (or_within old doubt command now) h.0))
  fits_then (Stopped left) (StoppedAtRest pair) next f fits h =
      subst (λ c. Fits c (found_at_stop first f.commands f.in_doubt pair)) (sym h.1) (subst (λ d. Fits (Stopped left) (found_at_stop first f.commands d pair)) (sym fits.1) (fits.0, refl))
  fits_then (Stopped left) (OpenedWith pair (Opened state)) next f fits h =
      subst (λ c. Fits c f) (sym h.2) (sym fits.0.2 ∙ opened fits.0.0 left.opens fits.0.1 (subst (λ (p : Pair). p.opens ≡ Some state) h.0 h.1), fits.1)
    where
      opened : (s : State) (o : Option State) → o ≡ Some s → o ≡ Some state → s ≡ state
      opened s o p q = cc
  fits_then (Stopped left) (OpenedWith pair (NotOpened failure)) next f fits h = subst (λ c. Fits c f) (sym (h.2 ∙ ap Stopped h.0)) fits
  fits_then c event next f fits h = absurd h

  pub fits_after : (c : Condition) (events : List Event) (last : Condition) (f : FoundCommands) → Fits c f → HappensAlong c events last → Fits last (found_after first f events)
  fits_after c [] last f fits run = subst (λ d. Fits d f) (sym run) fits
  fits_after c (event ∷ events) last f fits run = fits_after run.0 events last (found_after_event first f event) (fits_then c event run.0 f fits run.1) run.2

  pub fits_first : (c : Condition) → IsStart first c → Fits c none_found
  fits_first (Running state) h = (sym h, refl)
  fits_first (Halted old doubt) h = absurd h
  fits_first (Stopped pair) h = (h, refl)

  opening_is_right : (c next : Condition) (pair : Pair) (answer : OpenAnswer) (f : FoundCommands) → Fits c f → Happens c (OpenedWith pair answer) next → OpensSoundly (λ state. state ≡ after first f.commands) pair × MayOpen (Some (after first f.commands)) answer
  opening_is_right (Running old) next pair answer f fits h = absurd h
  opening_is_right (Halted old doubt) next pair answer f fits h = absurd h
  opening_is_right (Stopped left) next pair answer f fits h =
      let sound : OpensSoundly (λ state. state ≡ after first f.commands) pair = subst (OpensSoundly (λ state. state ≡ after first f.commands)) (sym h.0) fits.0 in
      (sound, subst (λ opens. MayOpen opens answer) (sound.1 ∙ ap Some sound.2) h.1)

  pub openings_are_right : OpeningsAreRight first
  openings_are_right earlier later pair answer history =
      let parts = run_split history.0 earlier (OpenedWith pair answer ∷ later) history.1 history.3 in
      let fits : Fits parts.0 (found_after first none_found earlier) = fits_after history.0 earlier parts.0 none_found (fits_first history.0 history.2) parts.1 in
      opening_is_right parts.0 parts.2.0 pair answer (found_after first none_found earlier) fits parts.2.1

  -- ---- nothing is taken back

  settled_more : (commands : List TimedCommand) (d : Option TimedCommand) (pair : Pair) → (more : List TimedCommand) × ((found_at_stop first commands d pair).commands ≡ commands ++ more)
  settled_more commands None pair = ([], sym (append-nil commands))
  settled_more commands (Some entry) pair = by (is_step_to (step (after first commands) entry.0 entry.1) pair.opens)
    where
      by : (b : Bool) → (more : List TimedCommand) × ((if b then commands ++ entry ∷ [] else commands) ≡ commands ++ more)
      by true = (entry ∷ [], refl)
      by false = ([], sym (append-nil commands))

  found_more : (f : FoundCommands) (event : Event) → (more : List TimedCommand) × ((found_after_event first f event).commands ≡ f.commands ++ more)
  found_more f (Answered command now (Accepted reply)) = ((command, now) ∷ [], refl)
  found_more f (StoppedAtRest pair) = settled_more f.commands f.in_doubt pair
  found_more f (StoppedWithin command now pair) = settled_more f.commands (option_or f.in_doubt (Some (command, now))) pair
  found_more f event = ([], sym (append-nil f.commands))

  pub all_more : (f : FoundCommands) (events : List Event) → (more : List TimedCommand) × ((found_after first f events).commands ≡ f.commands ++ more)
  all_more f [] = ([], sym (append-nil f.commands))
  all_more f (event ∷ events) =
      let one = found_more f event in
      let rest = all_more (found_after_event first f event) events in
      (one.0 ++ rest.0, rest.1 ∙ ap (λ l. l ++ rest.0) one.1 ∙ append_assoc f.commands one.0 rest.0)

  pub found_after-append : (f : FoundCommands) (xs ys : List Event) → found_after first f (xs ++ ys) ≡ found_after first (found_after first f xs) ys
  found_after-append f [] ys = refl
  found_after-append f (x ∷ xs) ys = found_after-append (found_after_event first f x) xs ys

  pub nothing_is_taken_back : NothingIsTakenBack first
  nothing_is_taken_back earlier later =
      let more = all_more (found_after first none_found earlier) later in
      (more.0, ap (λ (f : FoundCommands). f.commands) (found_after-append none_found earlier later) ∙ more.1)

  pub accepted_is_found : AcceptedIsFound first
  accepted_is_found earlier later command now reply =
      let more = all_more (found_after_event first (found_after first none_found earlier) (Answered command now (Accepted reply))) later in
      (more.0, ap (λ (f : FoundCommands). f.commands) (found_after-append none_found earlier (Answered command now (Accepted reply) ∷ later)) ∙ more.1)
