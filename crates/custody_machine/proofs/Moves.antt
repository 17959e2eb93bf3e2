-- The moves of a custody over records and images make histories, and the laws of histories hold of them.
use Rattle.std.proofs.Common.{◌≡◌, ◌≢◌, ℕ, List, [], ◌∷◌, ◌++◌, Option, Some, None, Bool, true, false, if◌then◌else◌, refl, sym, ◌∙◌, ap, subst, MatchOption}
use Rattle.std.specs.Prelude.{option_map}
use Rattle.std.specs.FinMap.{get}
use Rattle.vault_volume.specs.Extents.{part_bytes}
use Rattle.custody_records.specs.Keys.{part_cmp}
use Rattle.custody_records.specs.Records.{Records}
use Rattle.custody_records.specs.Rows.{Rows}
use Rattle.custody_machine.specs.State.{State}
use Rattle.custody_machine.specs.Machine.{Command, TimedCommand, after, Answer, Failed, Failure, Closed, Damage, Damaged, MayAnswer}
use Rattle.custody_machine.specs.History.{IsFoundWithin, MayFind, doubt_of, is_open_after, Pair, Opened, NotOpened, MayOpen, condition_after, Event, Answered, AnsweredOtherCall, ShutDown, StoppedAtRest, StoppedWithin, OpenedWith, Condition, Running, Halted, Stopped, OpensSoundly, Happens, HappensAlong, IsStart, FoundCommands, found, found_after, none_found}
use Rattle.custody_machine.specs.StoredState.{part_of, content_of, state_in, StandsFor, HasDigests, IsSound, OpensFrom}
use Rattle.custody_machine.specs.Moves.{Place, Serving, Shut, Left, MayLeave, Finds, MayNotOpen, Moves, MovesAlong, IsBegun, MovesAreHistories, IsInState, PlacesAreRight, reported_failure, NoDamageIsReported, ReadsBackAsReceived, FindsOne, AnswersAreMoves}
use Rattle.custody_machine.proofs.MapValues.{get-map_values}
use Rattle.custody_machine.proofs.Histories.{Fits, fits_after, fits_first}
use Rattle.custody_machine.proofs.Received.{held_as_received}
use Rattle.custody_machine.proofs.Stored.{stands_for_one, stands_of, sound_of, sound_from}
use Rattle.custody_machine.proofs.Damages.{damaged_stands}

-- what is found where rows and image stand for a state soundly
abbrev pub pair_of : State → Pair
pair_of state = record { opens = Some state; is_sound = true }

pub finds_some : (rows : Rows) (image : List ℕ) (state : State) → StandsFor rows image state → IsSound rows image → Finds rows image (pair_of state)
finds_some rows image state stands sound = record { opens = stands; sound = λ _. refl; only_sound = λ _. sound }

same_opens : (rows : Rows) (image : List ℕ) (o p : Option State) → MatchOption o ((state : State) → ¬ StandsFor rows image state) (λ state. StandsFor rows image state) → MatchOption p ((state : State) → ¬ StandsFor rows image state) (λ state. StandsFor rows image state) → o ≡ p
same_opens rows image None None x y = refl
same_opens rows image None (Some t) x y = absurd (x t y)
same_opens rows image (Some s) None x y = absurd (y s x)
same_opens rows image (Some s) (Some t) x y = ap Some (stands_for_one rows image s t x y)

same_bool : (a b : Bool) → (a ≡ true → b ≡ true) → (b ≡ true → a ≡ true) → a ≡ b
same_bool true true f g = refl
same_bool false false f g = refl
same_bool true false f g = sym (f refl)
same_bool false true f g = g refl

pub finds_one : (rows : Rows) (image : List ℕ) (a b : Pair) → Finds rows image a → Finds rows image b → a ≡ b
finds_one rows image a b f g =
    let opens = same_opens rows image a.opens b.opens f.opens g.opens in
    let sound = same_bool a.is_sound b.is_sound (λ e. g.sound (f.only_sound e)) (λ e. f.sound (g.only_sound e)) in
    λ i. record { opens = opens i; is_sound = sound i }

-- ---- conditions of a history, and places

-- a condition of a history is that of a place, whose held parts have their digests
abbrev pub Follows : Place → Condition → Type 0
Follows (Serving records image) (Running state) = (state ≡ state_in records image) × HasDigests image records
Follows (Shut records image doubt) (Halted old entry) = (old ≡ state_in records image) × (entry ≡ doubt) × HasDigests image records
Follows (Left rows image) (Stopped pair) = (state : State) × StandsFor rows image state × IsSound rows image × (pair ≡ pair_of state)
Follows place condition = ⊥

-- an event goes from a condition to one that follows the place
abbrev Goes : Condition → Event → Place → Type 0
Goes condition event place = (next : Condition) × Happens condition event next × Follows place next

-- a stop finds a state of which P holds
module _ (records : Records) (image : List ℕ) (has : HasDigests image records) (P : State → Type 0) (rows : Rows) (left : List ℕ) (pair : Pair) (o : OpensFrom records image P rows left) (finds : Finds rows left pair) where
  is_pair : pair ≡ pair_of (state_in o.records left)
  is_pair = finds_one rows left pair (pair_of (state_in o.records left)) finds (finds_some rows left (state_in o.records left) (stands_of records image P rows left o) (sound_of records image P rows left o has))

  opens_soundly : OpensSoundly P pair
  opens_soundly = subst (OpensSoundly P) (sym is_pair) (state_in o.records left, refl, o.state, refl)

  follows_left : Follows (Left rows left) (Stopped pair)
  follows_left = (state_in o.records left, stands_of records image P rows left o, sound_of records image P rows left o has, is_pair)

answered_follows : (records : Records) (image : List ℕ) (state : State) (command : Command) (now : ℕ) (answer : Answer) (next : Place) → Follows (Serving records image) (Running state) → Moves (Serving records image) (Answered command now answer) next → Goes (Running state) (Answered command now answer) next
answered_follows records image state command now answer next follows m = (
  condition,
  (state_in new later, allowed, refl),
  subst (λ p. Follows p condition) (sym m.5) (by (is_open_after answer)),
)
  where
    new : Records
    new = m.0

    later : List ℕ
    later = m.1

    old : state_in records image ≡ state
    old = sym follows.0

    allowed : MayAnswer state command now answer (state_in new later)
    allowed = subst (λ s. MayAnswer s command now answer (state_in new later)) old m.2

    condition : Condition
    condition = condition_after state command now answer (state_in new later)

    by : (b : Bool) → Follows (if b then Serving new later else Shut records image (doubt_of command now answer)) (if b then Running (state_in new later) else Halted state (doubt_of command now answer))
    by true = (refl, sound_from records new image later m.4 follows.1)
    by false = (follows.0, refl, follows.1)

-- a stop of a closed custody, within a command or not
shut_stops : (records : Records) (image : List ℕ) (doubt : Option TimedCommand) (old : State) (entry : Option TimedCommand) (pair : Pair) (next : Place) → Follows (Shut records image doubt) (Halted old entry)
    → Moves (Shut records image doubt) (StoppedAtRest pair) next → Goes (Halted old entry) (StoppedAtRest pair) next
shut_stops records image doubt old entry pair next follows m =
    let P : State → Type 0 = MayFind (state_in records image) doubt in
    let same : OpensSoundly (MayFind old entry) pair =
    subst (λ s. OpensSoundly (MayFind s entry) pair) (sym follows.0) (subst (λ d. OpensSoundly (MayFind (state_in records image) d) pair) (sym follows.1) (opens_soundly records image follows.2 P m.0 m.1 pair m.2 m.3)) in
    (Stopped pair, (same, refl), subst (λ p. Follows p (Stopped pair)) (sym m.4) (follows_left records image follows.2 P m.0 m.1 pair m.2 m.3))

-- each move is an event of the history
pub move_happens : (place : Place) (condition : Condition) (event : Event) (next : Place) → Follows place condition → Moves place event next → Goes condition event next
move_happens (Serving records image) (Running state) (Answered command now answer) next follows m = answered_follows records image state command now answer next follows m
move_happens (Serving records image) (Running state) AnsweredOtherCall next follows m =
    (Running state, refl, subst (λ p. Follows p (Running state)) (sym m.3) (follows.0 ∙ sym m.1, sound_from records records image m.0 m.2 follows.1))
move_happens (Serving records image) (Running state) ShutDown next follows m = (Halted state None, refl, subst (λ p. Follows p (Halted state None)) (sym m) (follows.0, refl, follows.1))
move_happens (Serving records image) (Running state) (StoppedAtRest pair) next follows m =
    let P : State → Type 0 = λ found. found ≡ state_in records image in
    (Stopped pair, (subst (λ s. OpensSoundly (λ found. found ≡ s) pair) (sym follows.0) (opens_soundly records image follows.1 P m.0 m.1 pair m.2 m.3), refl), subst (λ p. Follows p (Stopped pair)) (sym m.4) (follows_left records image follows.1 P m.0 m.1 pair m.2 m.3))
move_happens (Serving records image) (Running state) (StoppedWithin command now pair) next follows m =
    let P : State → Type 0 = IsFoundWithin (state_in records image) command now in
    (Stopped pair, (subst (λ s. OpensSoundly (IsFoundWithin s command now) pair) (sym follows.0) (opens_soundly records image follows.1 P m.0 m.1 pair m.2 m.3), refl), subst (λ p. Follows p (Stopped pair)) (sym m.4) (follows_left records image follows.1 P m.0 m.1 pair m.2 m.3))
move_happens (Serving records image) (Running state) (OpenedWith pair answer) next follows m = absurd m
move_happens (Shut records image doubt) (Halted old entry) (Answered command now answer) next follows m = (Halted old entry, (m.0, refl), subst (λ p. Follows p (Halted old entry)) (sym m.1) follows)
move_happens (Shut records image doubt) (Halted old entry) AnsweredOtherCall next follows m = (Halted old entry, refl, subst (λ p. Follows p (Halted old entry)) (sym m) follows)
move_happens (Shut records image doubt) (Halted old entry) ShutDown next follows m = (Halted old entry, refl, subst (λ p. Follows p (Halted old entry)) (sym m) follows)
move_happens (Shut records image doubt) (Halted old entry) (StoppedAtRest pair) next follows m = shut_stops records image doubt old entry pair next follows m
move_happens (Shut records image doubt) (Halted old entry) (StoppedWithin command now pair) next follows m = shut_stops records image doubt old entry pair next follows m
move_happens (Shut records image doubt) (Halted old entry) (OpenedWith pair answer) next follows m = absurd m
move_happens (Left rows image) (Stopped left) (StoppedAtRest pair) next follows m = stopped rows image left pair m.0 m.1 next follows m.2 m.3 m.4
  where
    stopped : (rows : Rows) (image : List ℕ) (left pair : Pair) (others : Rows) (other : List ℕ) (next : Place) → Follows (Left rows image) (Stopped left) → MayLeave (Left rows image) others other → Finds others other pair → next ≡ Left others other → Goes (Stopped left) (StoppedAtRest pair) next
    stopped rows image left pair others other next follows may finds is =
        let s : StandsFor rows image follows.0 = follows.1 in
        let has : HasDigests image s.records = follows.2 s.records s.in_form in
        let o = may s.records s.in_form s.good in
        let P : State → Type 0 = λ found. found ≡ state_in s.records image in
        let same : pair ≡ left = is_pair s.records image has P others other pair o finds ∙ ap pair_of (o.state ∙ sym s.meaning) ∙ sym follows.3 in
        (Stopped left, (same, refl), subst (λ p. Follows p (Stopped left)) (sym is) (subst (λ q. Follows (Left others other) (Stopped q)) same (follows_left s.records image has P others other pair o finds)))
move_happens (Left rows image) (Stopped left) (OpenedWith pair (Opened state)) next follows m =
    let finds = m.0 in let r = m.1 in
    let stands : StandsFor rows image state = record { records = r.0; in_form = r.1; good = r.2; meaning = r.3 } in
    let same : pair ≡ pair_of state = finds_one rows image pair (pair_of state) finds (finds_some rows image state stands follows.2) in
    let left_is : left ≡ pair_of state = follows.3 ∙ ap pair_of (stands_for_one rows image follows.0 state follows.1 stands) in
    (Running state, (same ∙ sym left_is, ap (λ (p : Pair). p.opens) same, refl), subst (λ p. Follows p (Running state)) (sym r.4) (r.3, follows.2 r.0 r.1))
move_happens (Left rows image) (Stopped left) (OpenedWith pair (NotOpened failure)) next follows m = failed rows image left pair failure m.2.0 m.2.1 next follows m.0 m.1 m.2.2 m.2.3
  where
    may_open : (rows : Rows) (image : List ℕ) (state : State) (opens : Option State) (failure : Failure) → StandsFor rows image state → MayNotOpen rows image failure → MayOpen opens (NotOpened failure)
    may_open rows image state opens Closed stands may = may
    may_open rows image state opens (Damaged damage) stands may = absurd (damaged_stands damage rows image state may.is_true stands)
    may_open rows image state opens failure stands may = tt

    failed : (rows : Rows) (image : List ℕ) (left pair : Pair) (failure : Failure) (others : Rows) (other : List ℕ) (next : Place) → Follows (Left rows image) (Stopped left) → Finds rows image pair → MayNotOpen rows image failure → MayLeave (Left rows image) others other → next ≡ Left others other → Goes (Stopped left) (OpenedWith pair (NotOpened failure)) next
    failed rows image left pair failure others other next follows finds may leaves is =
        let s : StandsFor rows image follows.0 = follows.1 in
        let has : HasDigests image s.records = follows.2 s.records s.in_form in
        let o = leaves s.records s.in_form s.good in
        let P : State → Type 0 = λ found. found ≡ state_in s.records image in
        let same : pair ≡ left = finds_one rows image pair (pair_of follows.0) finds (finds_some rows image follows.0 s follows.2) ∙ sym follows.3 in
        let found : pair ≡ pair_of (state_in o.records other) = same ∙ follows.3 ∙ ap pair_of (s.meaning ∙ sym o.state) in (
          Stopped pair,
          (same, may_open rows image follows.0 pair.opens failure s may, refl),
          subst (λ p. Follows p (Stopped pair)) (sym is) (state_in o.records other, stands_of s.records image P others other o, sound_of s.records image P others other o has, found),
        )
move_happens (Left rows image) (Stopped left) event next follows m = absurd m
move_happens place condition event next follows m = absurd follows

pub moves_follow : (place : Place) (condition : Condition) (events : List Event) (end : Place) → Follows place condition → MovesAlong place events end → (last : Condition) × HappensAlong condition events last × Follows end last
moves_follow place condition [] end follows m = (condition, refl, subst (λ p. Follows p condition) (sym m) follows)
moves_follow place condition (event ∷ events) end follows m =
    let one = move_happens place condition event m.0 follows m.1 in
    let rest = moves_follow m.0 one.0 events end one.2 m.2 in
    (rest.0, (one.0, one.1, rest.1), rest.2)

begun_follows : (first : State) (place : Place) → IsBegun first place → (start : Condition) × IsStart first start × Follows place start
begun_follows first (Serving records image) h = (Running (state_in records image), h.0, (refl, h.1))
begun_follows first (Shut records image doubt) h = absurd h
begun_follows first (Left rows image) h = (Stopped (pair_of first), (first, refl, refl, refl), (first, h.0, h.1, refl))

pub moves_are_histories : (first : State) → MovesAreHistories first
moves_are_histories first start end events begun m =
    let from = begun_follows first start begun in
    let run = moves_follow start from.0 events end from.2 m in
    (from.0, run.0, from.1, run.1)

-- ---- what holds at each place

is_in : (first : State) (place : Place) (condition : Condition) (f : FoundCommands) → Follows place condition → Fits first condition f → IsInState (after first f.commands) place
is_in first (Serving records image) (Running state) f follows fits = (sym follows.0 ∙ sym fits.0, follows.1)
is_in first (Shut records image doubt) (Halted old entry) f follows fits = (sym follows.0 ∙ sym fits.0, follows.2)
is_in first (Left rows image) (Stopped pair) f follows fits =
    let opens : Some fits.0.0 ≡ Some follows.0 = sym fits.0.1 ∙ ap (λ (p : Pair). p.opens) follows.3 in
    let same : fits.0.0 ≡ follows.0 = cc in
    (subst (StandsFor rows image) (sym same ∙ fits.0.2) follows.1, follows.2)
is_in first place condition f follows fits = absurd follows

pub places_are_right : (first : State) → PlacesAreRight first
places_are_right first start end events begun m =
    let from = begun_follows first start begun in
    let run = moves_follow start from.0 events end from.2 m in
    is_in first end run.0 (found_after first none_found events) run.2 (fits_after first from.0 events run.0 none_found (fits_first first from.0 from.1) run.1)

-- a way of two parts passes through a place
pub along_split : (place : Place) (xs ys : List Event) (end : Place) → MovesAlong place (xs ++ ys) end → (mid : Place) × MovesAlong place xs mid × MovesAlong mid ys end
along_split place [] ys end m = (place, refl, m)
along_split place (x ∷ xs) ys end m = let rest = along_split m.0 xs ys end m.2 in (rest.0, (m.0, m.1, rest.1), rest.2)

-- where no part is damaged, no move tells of damage
tells_none : (state : State) (place : Place) (event : Event) (next : Place) → IsInState state place → Moves place event next → (damage : Damage) → reported_failure event ≢ Some (Damaged damage)
tells_none state (Serving records image) (Answered command now (Failed (Damaged found))) next here m damage told = let cause = m.3 in cause.2 (here.1 cause.0)
tells_none state (Shut records image doubt) (Answered command now (Failed (Damaged found))) next here m damage told = never m.0
  where
    never : Failed (Damaged found) ≡ Failed Closed → ⊥
    never e = cc
tells_none state (Left rows image) (Answered command now (Failed (Damaged found))) next here m damage told = absurd m
tells_none state (Left rows image) (OpenedWith pair (NotOpened (Damaged found))) next here m damage told = damaged_stands found rows image state m.1.is_true here.0
tells_none state (Serving records image) (OpenedWith pair (NotOpened (Damaged found))) next here m damage told = absurd m
tells_none state (Shut records image doubt) (OpenedWith pair (NotOpened (Damaged found))) next here m damage told = absurd m
tells_none state place event next here m damage told = cc

pub no_damage_is_told : (first : State) → NoDamageIsReported first
no_damage_is_told first start end earlier later event damage begun m =
    let parts = along_split start earlier (event ∷ later) end m in
    tells_none (after first (found first earlier)) parts.0 event parts.2.0 (places_are_right first start parts.0 earlier begun parts.1) parts.2.1 damage

pub reads_back : (first : State) → ReadsBackAsReceived first
reads_back first start records image events begun m key part extents at is =
    let here = places_are_right first start (Serving records image) events begun m in
    let there : get (state_in records image).parts key ≡ Some (part_of image part) = get-map_values part_cmp (part_of image) records.parts key ∙ ap (option_map (part_of image)) at in
    held_as_received first (found first events) key (part_of image part) (part_bytes image extents part.len) (ap (λ (s : State). get s.parts key) (sym here.0) ∙ there) (ap (content_of image part.len) is)

pub finds_one_thing : FindsOne
finds_one_thing = record { one = finds_one; some = finds_some }

pub chains_move : AnswersAreMoves
chains_move old new [] [] c = c
chains_move old new [] (answer ∷ answers) c = absurd c
chains_move old new (entry ∷ entries) [] c = absurd c
chains_move old new (entry ∷ entries) (answer ∷ answers) c = (c.0, c.1, chains_move c.0 new entries answers c.2)
