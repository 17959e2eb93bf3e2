-- A command that is tried again and again, through stops: what it comes to is what one of its tries does alone.
use Rattle.std.proofs.Common.{◌≡◌, ℕ, ◌<◌, ◌≤◌, List, [], ◌∷◌, Option, Some, None, is_some, Bool, true, false, not, ◌&&◌, ◌||◌, ◌⊎◌, inl, inr, ⊎_elim, refl, sym, ◌∙◌, ap, subst, if◌then◌else◌, arith}
use Rattle.std.specs.Prelude.{nat_lt}
use Rattle.std.specs.Option.{option_map}
use Rattle.std.specs.FinMap.{FinMap, get, same_map}
use Rattle.std.proofs.lemmas.Bool.{cases_lt}
use Rattle.std.proofs.lemmas.Bool.Decides.{nat_tests}
use Rattle.std.proofs.Math.Bool.{and-or_distrib_right}
use Rattle.schedule.specs.Schedule.{day_of, year_after}
use Rattle.deposit_name.specs.declared.kinds.Kind.{Kind}
use Rattle.custody_records.specs.Keys.{text_cmp, PartKey, part_cmp}
use Rattle.custody_records.specs.inside.Orders.{part_total, part_exact}
use Rattle.custody_records.specs.Purge.{is_on_hold}
use Rattle.custody_records.specs.Records as kept_in
use Rattle.custody_machine.specs.declared.answers.Refusal.{Refusal}
use Rattle.custody_machine.specs.declared.answers.Failure.TheVariants.{VolumeFailed, StoreFailed, Closed}
use Rattle.custody_machine.specs.State.{State, Part, Content, Held, Dropped}
use Rattle.custody_machine.specs.MapValues.{map_keyed}
use Rattle.custody_machine.specs.Machine.{Command, Receive, Purge, Record, OfPurge, Reply, Step, Refuse, Accept, step, state_of, state_after, Answer, Accepted, Refused, Failed, MayAnswer, MayRefuse, part_under_name, is_dropped, are_bytes_dropped, HasRecord, TimedCommand, without_bytes, part_dropped_if_due, state_without_due, count_due}
use Rattle.custody_machine.specs.History.{Event, Answered, AnsweredOtherCall, ShutDown, StoppedAtRest, StoppedWithin, OpenedWith, Opened, NotOpened, Condition, Running, Halted, Stopped, Pair, Happens, HappensAlong, condition_after, OpensSoundly, IsFoundWithin, MayFind}
use Rattle.custody_machine.specs.Retries.{command_key, has_same_key, IsKeptAs, IsDroppedSince}
use Rattle.custody_machine.proofs.MapValues.{get-map_keyed}
use Rattle.custody_machine.proofs.Accepting.{accept_inj, step_none, recorded_of}
use Rattle.custody_machine.proofs.Continuing.{KeepsPart, kept_itself}
use Rattle.custody_machine.proofs.Keeping.{Again, accepted_is_kept, as_now, asked_again, replies_are_records, same_key_is_kept}
use Rattle.custody_machine.proofs.Histories.{weaker}
use Rattle.custody_machine.proofs.Retries.{keys_are_compared}

-- an option has one value
pub one_value : {X : Type 0} (a b : X) (o : Option X) → o ≡ Some a → o ≡ Some b → a ≡ b
one_value a b o p q = cc

-- ---- two purges do what the later one does alone

-- a held part loses its bytes where a test of its moment is passed
abbrev drops : (ℕ → Bool) → Part → Part
drops test part = if not (are_bytes_dropped part.content) && test part.received then without_bytes part else part

-- the third test is passed where one of the others is
module _ (first second both : ℕ → Bool) (kind : Kind) (received : ℕ) (either : (first received || second received) ≡ both received) where
  abbrev with_content : Content → Part
  with_content content = record { kind = kind; received = received; content = content }

  -- bytes that are dropped where a test is passed
  abbrev unless : List ℕ → Bool → Part
  unless bytes test = if test then without_bytes (with_content (Held bytes)) else with_content (Held bytes)

  dropped_twice : (content : Content) → drops second (drops first (with_content content)) ≡ drops both (with_content content)
  dropped_twice (Dropped n) = refl
  dropped_twice (Held bytes) = by (first received) either
    where
      by : (b : Bool) → (b || second received) ≡ both received → drops second (unless bytes b) ≡ unless bytes (both received)
      by true e = ap (unless bytes) e
      by false e = ap (unless bytes) e

module _ (holds : FinMap text_cmp kept_in.Hold) (first second both : ℕ) (either : (y : ℕ) → (nat_lt y first || nat_lt y second) ≡ nat_lt y both) where
  -- whether a part that was received at a moment is due, if it is held
  abbrev test : PartKey → ℕ → ℕ → Bool
  test key today received = nat_lt (year_after (day_of received)) today && not (is_on_hold holds key)

  each : (key : PartKey) (part : Part) → part_dropped_if_due holds second key (part_dropped_if_due holds first key part) ≡ part_dropped_if_due holds both key part
  each key part =
      let late = year_after (day_of part.received) in
      let free = not (is_on_hold holds key) in
      dropped_twice (test key first) (test key second) (test key both) part.kind part.received
      (sym (and-or_distrib_right (nat_lt late first) (nat_lt late second) free) ∙ ap (λ t. t && free) (either late)) part.content

  twice : (parts : FinMap part_cmp Part) → map_keyed (part_dropped_if_due holds second) (map_keyed (part_dropped_if_due holds first) parts) ≡ map_keyed (part_dropped_if_due holds both) parts
  twice parts = same_map part_total part_exact _ _ (λ q.
      get-map_keyed part_cmp part_exact (part_dropped_if_due holds second) (map_keyed (part_dropped_if_due holds first) parts) q
      ∙ ap (option_map (part_dropped_if_due holds second q)) (get-map_keyed part_cmp part_exact (part_dropped_if_due holds first) parts q)
      ∙ by q (get parts q)
      ∙ sym (get-map_keyed part_cmp part_exact (part_dropped_if_due holds both) parts q))
    where
      by : (q : PartKey) (o : Option Part) → option_map (part_dropped_if_due holds second q) (option_map (part_dropped_if_due holds first q) o) ≡ option_map (part_dropped_if_due holds both q) o
      by q None = refl
      by q (Some part) = ap Some (each q part)

purge_is : (s : State) (now : ℕ) → step s Purge now ≡ Accept (record { entry = OfPurge (count_due s (day_of now)); is_repeat = false }) (state_without_due s (day_of now))
purge_is s now = step_none s Purge now refl

-- what two purges leave, the later one leaves alone
two_purges : (s : State) (a b : ℕ) → (c : ℕ) × ((c ≡ a) ⊎ (c ≡ b)) × (state_without_due (state_without_due s (day_of a)) (day_of b) ≡ state_without_due s (day_of c))
two_purges s a b = ⊎_elim
    (λ (less : day_of a < day_of b). (b, inr refl, leaves (day_of b) (λ y. grind (arith, nat_tests))))
    (λ (less : day_of b ≤ day_of a). (a, inl refl, leaves (day_of a) (λ y. grind (arith, nat_tests))))
    (cases_lt (day_of a) (day_of b))
  where
    leaves : (later : ℕ) → ((y : ℕ) → (nat_lt y (day_of a) || nat_lt y (day_of b)) ≡ nat_lt y later)
        → state_without_due (state_without_due s (day_of a)) (day_of b) ≡ state_without_due s later
    leaves later either = ap (λ parts. record s { parts = parts }) (twice s.holds (day_of a) (day_of b) later either s.parts)

-- ---- a command that was accepted, and is accepted again at once

-- the two are one of them alone, whose reply was told as it is kept
pub record IsOneOf (s : State) (c : Command) (a b : ℕ) (told : Reply) (new : State) : Type 0 where
  pub now : ℕ
  pub one : (now ≡ a) ⊎ (now ≡ b)
  pub reply : Reply
  pub accepts : step s c now ≡ Accept reply new
  pub kept : is_some (command_key c) ≡ true → IsKeptAs reply.entry told.entry

own_key : (c : Command) → is_some (command_key c) ≡ true → has_same_key c c ≡ true
own_key c keyed = (keys_are_compared c c).1 (keyed, refl)

keyed_again : (s : State) (c : Command) (mid new : State) (a b : ℕ) (first told : Reply) → is_some (command_key c) ≡ true → step s c a ≡ Accept first mid → step mid c b ≡ Accept told new → IsOneOf s c a b told new
keyed_again s c mid new a b first told keyed made again =
    let keeps = accepted_is_kept s c a first mid made in
    let same = (same_key_is_kept mid c c first.entry b told new keeps (own_key c keyed) again).1 in
    let there = as_now mid c first.entry keeps in
    let outcome = (asked_again mid c there.0 b keyed there.2 there.3).0 in
    record { now = a; one = inl refl; reply = first; accepts = made ∙ ap (Accept first) (sym same); kept = λ _. by there.0 there.1 outcome }
  where
    by : (entry : Record) → IsKeptAs first.entry entry → Again mid c entry b → IsKeptAs first.entry told.entry
    by entry as_kept (inl h) = subst (λ (r : Reply). IsKeptAs first.entry r.entry) (accept_inj _ _ _ _ (sym h ∙ again)).0 as_kept
    by entry as_kept (inr h) = let clash = sym h.0 ∙ again in cc

pub accepted_again : (s : State) (c : Command) (mid new : State) (a b : ℕ) (first told : Reply) → step s c a ≡ Accept first mid → step mid c b ≡ Accept told new → IsOneOf s c a b told new
accepted_again s Purge mid new a b first told made again =
    let first_is = accept_inj _ _ _ _ (sym (purge_is s a) ∙ made) in
    let told_is = accept_inj _ _ _ _ (sym (purge_is mid b) ∙ again) in
    let one = two_purges s a b in
    let new_is : state_without_due s (day_of one.0) ≡ new = sym one.2 ∙ ap (λ t. state_without_due t (day_of b)) first_is.1 ∙ told_is.1 in
    record { now = one.0; one = one.1; reply = record { entry = OfPurge (count_due s (day_of one.0)); is_repeat = false }; accepts = purge_is s one.0 ∙ ap (Accept (record { entry = OfPurge (count_due s (day_of one.0)); is_repeat = false })) new_is; kept = λ keyed. cc }
accepted_again s c mid new a b first told made again = keyed_again s c mid new a b first told refl made again

-- what was received just now is not dropped
not_dropped : (s mid : State) (c : Command) (now : ℕ) (first : Reply) → step s c now ≡ Accept first mid → IsDroppedSince mid c → ⊥
not_dropped s mid (Receive text bytes) now first made gone =
    let keeps : KeepsPart mid text bytes first.entry = accepted_is_kept s (Receive text bytes) now first mid made in
    let at = subst (HasRecord mid) keeps.made (replies_are_records s mid (Receive text bytes) now first made) in
    let there : part_under_name mid keeps.name ≡ Some keeps.part = recorded_of mid keeps.name keeps.part at keeps.kind in
    let same : keeps.name ≡ gone.0 = cc (gone.1, keeps.named) in
    let dropped : is_dropped (part_under_name mid keeps.name) ≡ true = ap (λ n. is_dropped (part_under_name mid n)) same ∙ gone.2 in
    let held : is_dropped (part_under_name mid keeps.name) ≡ false = ap is_dropped there ∙ ap are_bytes_dropped keeps.content in cc
not_dropped s mid c now first made gone = gone

-- and it is not refused
not_refused : (s : State) (c : Command) (mid : State) (a b : ℕ) (first : Reply) (q : Refusal) → step s c a ≡ Accept first mid → MayRefuse c (step mid c b) q → ⊥
not_refused s Purge mid a b first q made may = let h = subst (λ r. MayRefuse Purge r q) (purge_is mid b) may in let room = h.1 in cc
not_refused s c mid a b first q made may = keyed refl
  where
    by : (entry : Record) → Again mid c entry b → ⊥
    by entry (inl h) = let r = subst (λ r. MayRefuse c r q) h may in let new = r.2 in cc
    by entry (inr h) = not_dropped s mid c a first made h.1

    keyed : is_some (command_key c) ≡ true → ⊥
    keyed is =
        let there = as_now mid c first.entry (accepted_is_kept s c a first mid made) in
        by there.0 (asked_again mid c there.0 b is there.2 there.3).0

-- ---- tries

-- one try alone leads from the old state to the new one, at a moment of which M holds, and with what it told as it is kept
pub record OneTry (c : Command) (M : ℕ → Type 0) (old new : State) : Type 0 where
  pub now : ℕ
  pub moment : M now
  pub reply : Reply
  pub accepts : step old c now ≡ Accept reply new

module _ (asked : Option Command) (M : ℕ → Type 0) (old : State) where
  -- the command, if there is one, was not done yet, or one try alone leads there
  abbrev pub Reached : State → Type 0
  Reached state = (state ≡ old) ⊎ ((c : Command) × (asked ≡ Some c) × OneTry c M old state)

  -- what happens to a custody for it
  abbrev pub IsTry : Event → Type 0
  IsTry (Answered c now answer) = (asked ≡ Some c) × M now
  IsTry (StoppedWithin c now pair) = (asked ≡ Some c) × M now
  IsTry _ = Unit {0}

  -- what is in doubt is the command
  abbrev InDoubt : Option TimedCommand → Type 0
  InDoubt None = Unit {0}
  InDoubt (Some entry) = (asked ≡ Some entry.0) × M entry.1

  abbrev pub IsTried : Condition → Type 0
  IsTried (Running state) = Reached state
  IsTried (Halted state doubt) = Reached state × InDoubt doubt
  IsTried (Stopped pair) = OpensSoundly Reached pair

  -- one try more
  reached_by : (state new : State) (c : Command) (now : ℕ) (reply : Reply) → Reached state → asked ≡ Some c → M now → step state c now ≡ Accept reply new → Reached new
  reached_by state new c now reply (inl is) own at e = inr (c, own, record { now = now; moment = at; reply = reply; accepts = ap (λ s. step s c now) (sym is) ∙ e })
  reached_by state new c now reply (inr (d, of, one)) own at e =
      let same : c ≡ d = one_value c d asked own of in
      let both = accepted_again old d state new one.now now one.reply reply one.accepts (ap (λ b. step state b now) (sym same) ∙ e) in
      inr (d, of, record { now = both.now; moment = ⊎_elim (λ h. subst M (sym h) one.moment) (λ h. subst M (sym h) at) both.one; reply = both.reply; accepts = both.accepts })

  reached_after : (state : State) (c : Command) (now : ℕ) → Reached state → asked ≡ Some c → M now → Reached (state_after state c now)
  reached_after state c now here own at = by (step state c now) refl
    where
      by : (r : Step) → step state c now ≡ r → Reached (state_of state r)
      by (Refuse q) e = here
      by (Accept reply new) e = reached_by state new c now reply here own at e

  reached_within : (state found : State) (c : Command) (now : ℕ) → Reached state → asked ≡ Some c → M now → IsFoundWithin state c now found → Reached found
  reached_within state found c now here own at (inl is) = subst Reached (sym is) here
  reached_within state found c now here own at (inr is) = subst Reached (sym is) (reached_after state c now here own at)

  reached_found : (state found : State) (doubt : Option TimedCommand) → Reached state → InDoubt doubt → MayFind state doubt found → Reached found
  reached_found state found None here own is = subst Reached (sym is) here
  reached_found state found (Some entry) here own is = reached_within state found entry.0 entry.1 here own.0 own.1 is

  answered_tried : (state new : State) (c : Command) (now : ℕ) (answer : Answer) → Reached state → asked ≡ Some c → M now → MayAnswer state c now answer new → IsTried (condition_after state c now answer new)
  answered_tried state new c now (Accepted reply) here own at e = reached_by state new c now reply here own at e
  answered_tried state new c now (Failed VolumeFailed) here own at e = (here, tt)
  answered_tried state new c now (Failed StoreFailed) here own at e = (here, (own, at))
  answered_tried state new c now (Failed Closed) here own at e = absurd e.0
  answered_tried state new c now _ here own at e = subst Reached (sym e.1) here

  pub tried_then : (start : Condition) (event : Event) (next : Condition) → IsTried start → IsTry event → Happens start event next → IsTried next
  tried_then (Running state) (Answered c now answer) next here own h = subst IsTried (sym h.2) (answered_tried state h.0 c now answer here own.0 own.1 h.1)
  tried_then (Running state) AnsweredOtherCall next here own h = subst IsTried (sym h) here
  tried_then (Running state) ShutDown next here own h = subst IsTried (sym h) (here, tt)
  tried_then (Running state) (StoppedAtRest pair) next here own h = subst IsTried (sym h.1) (weaker pair (λ found is. subst Reached (sym is) here) h.0)
  tried_then (Running state) (StoppedWithin c now pair) next here own h = subst IsTried (sym h.1) (weaker pair (λ found is. reached_within state found c now here own.0 own.1 is) h.0)
  tried_then (Halted state doubt) (Answered c now answer) next here own h = subst IsTried (sym h.1) here
  tried_then (Halted state doubt) AnsweredOtherCall next here own h = subst IsTried (sym h) here
  tried_then (Halted state doubt) ShutDown next here own h = subst IsTried (sym h) here
  tried_then (Halted state doubt) (StoppedAtRest pair) next here own h = subst IsTried (sym h.1) (weaker pair (λ found is. reached_found state found doubt here.0 here.1 is) h.0)
  tried_then (Halted state doubt) (StoppedWithin c now pair) next here own h = subst IsTried (sym h.1) (weaker pair (λ found is. reached_found state found doubt here.0 here.1 is) h.0)
  tried_then (Stopped left) (StoppedAtRest pair) next here own h = subst IsTried (sym h.1) here
  tried_then (Stopped left) (OpenedWith pair (Opened state)) next here own h =
      subst IsTried (sym h.2) (subst Reached (one_value here.0 state left.opens here.1 (subst (λ (p : Pair). p.opens ≡ Some state) h.0 h.1)) here.2)
  tried_then (Stopped left) (OpenedWith pair (NotOpened failure)) next here own h = subst IsTried (sym (h.2 ∙ ap Stopped h.0)) here
  tried_then _ _ next here own h = absurd h

  abbrev pub AreTries : List Event → Type 0
  AreTries [] = Unit {0}
  AreTries (event ∷ events) = IsTry event × AreTries events

  pub tried_after : (start : Condition) (events : List Event) (last : Condition) → IsTried start → AreTries events → HappensAlong start events last → IsTried last
  tried_after start [] last here own run = subst IsTried (sym run) here
  tried_after start (event ∷ events) last here own run = tried_after run.0 events last (tried_then start event run.0 here own.0 run.1) own.1 run.2

-- ---- between two requests

-- no request is tried, and the custody is in a state, or opens as it
abbrev pub IsAtRest : State → Condition → Type 0
IsAtRest state = IsTried None (λ _. ⊥) state

-- where no command was asked for, none was done
pub only_state : (M : ℕ → Type 0) (state s : State) → Reached None M state s → s ≡ state
only_state M state s (inl is) = is
only_state M state s (inr (c, never, one)) = cc

-- and so whatever is asked next, it is not done yet
pub still_tried : (M : ℕ → Type 0) (asked : Option Command) (N : ℕ → Type 0) (state : State) (cond : Condition) → IsTried None M state cond → IsTried asked N state cond
still_tried M asked N state (Running s) here = inl (only_state M state s here)
still_tried M asked N state (Halted s None) here = (inl (only_state M state s here.0), tt)
still_tried M asked N state (Halted s (Some entry)) here = let never = here.1.0 in cc
still_tried M asked N state (Stopped pair) here = weaker pair (λ s reached. inl (only_state M state s reached)) here

-- what asks for no command leaves it at rest
pub still_at_rest : (M : ℕ → Type 0) (state : State) (start : Condition) (events : List Event) (last : Condition)
    → IsAtRest state start → AreTries None M state events → HappensAlong start events last → IsAtRest state last
still_at_rest M state start events last here own run = still_tried M None (λ _. ⊥) state last (tried_after None M state start events last (still_tried (λ _. ⊥) None M state start here) own run)

-- ---- the last try, which is no failure

-- what a command that is given once is told, against what was told of it
abbrev pub IsToldAs : Command → Answer → Answer → Type 0
IsToldAs c (Accepted reply) (Accepted told) = is_some (command_key c) ≡ true → IsKeptAs reply.entry told.entry
IsToldAs c (Refused refusal) (Refused told) = refusal ≡ told
IsToldAs c _ _ = ⊥

-- the command alone, at a moment of which M holds, leads from the old state to the new one
pub record DoneOnce (c : Command) (M : ℕ → Type 0) (old new : State) (told : Answer) : Type 0 where
  pub now : ℕ
  pub moment : M now
  pub answer : Answer
  pub answers : MayAnswer old c now answer new
  pub told_as : IsToldAs c answer told

abbrev pub IsFailed : Answer → Type 0
IsFailed (Failed failure) = Unit {0}
IsFailed _ = ⊥

module _ (c : Command) (M : ℕ → Type 0) (old : State) where
  accepted_once : (mid new : State) (now : ℕ) (told : Reply) → Reached (Some c) M old mid → M now → step mid c now ≡ Accept told new → DoneOnce c M old new (Accepted told)
  accepted_once mid new now told (inl is) at e = record { now = now; moment = at; answer = Accepted told; answers = ap (λ s. step s c now) (sym is) ∙ e; told_as = λ _. kept_itself told.entry }
  accepted_once mid new now told (inr (d, of, one)) at e =
      let same : c ≡ d = cc in
      let both = accepted_again old c mid new one.now now one.reply told (ap (λ b. step old b one.now) same ∙ one.accepts) e in
      record { now = both.now; moment = ⊎_elim (λ h. subst M (sym h) one.moment) (λ h. subst M (sym h) at) both.one; answer = Accepted both.reply; answers = both.accepts; told_as = both.kept }

  refused_once : (mid new : State) (now : ℕ) (q : Refusal) → Reached (Some c) M old mid → M now → MayRefuse c (step mid c now) q → new ≡ mid → DoneOnce c M old new (Refused q)
  refused_once mid new now q (inl is) at may same = record { now = now; moment = at; answer = Refused q; answers = (subst (λ s. MayRefuse c (step s c now) q) is may, same ∙ is); told_as = refl }
  refused_once mid new now q (inr (d, of, one)) at may same =
      let is : c ≡ d = cc in
      absurd (not_refused old c mid one.now now one.reply q (ap (λ b. step old b one.now) is ∙ one.accepts) may)

  answered_once : (mid new : State) (now : ℕ) (told : Answer) → Reached (Some c) M old mid → M now → (IsFailed told → ⊥) → MayAnswer mid c now told new
      → DoneOnce c M old new told × IsAtRest new (condition_after mid c now told new)
  answered_once mid new now (Accepted told) here at fails h = (accepted_once mid new now told here at h, inl refl)
  answered_once mid new now (Refused q) here at fails h = (refused_once mid new now q here at h.0 h.1, inl refl)
  answered_once mid new now (Failed failure) here at fails h = absurd (fails tt)

  -- the command was tried, and then answered, and by no failure
  pub last_try : (cond next : Condition) (now : ℕ) (told : Answer) → IsTried (Some c) M old cond → M now → (IsFailed told → ⊥) → Happens cond (Answered c now told) next
      → (new : State) × DoneOnce c M old new told × IsAtRest new next
  last_try (Running mid) next now told here at fails h =
      let once = answered_once mid h.0 now told here at fails h.1 in (h.0, once.0, subst (IsAtRest h.0) (sym h.2) once.1)
  last_try (Halted mid doubt) next now told here at fails h = absurd (fails (subst IsFailed (sym h.0) tt))
  last_try (Stopped left) next now told here at fails h = absurd h
