-- The laws of commands that come again. They rest on four facts of the machine, `step_continues`, `accepted_is_kept`, `same_key_is_kept` and `asked_again`.
use Rattle.std.specs.Option.{option_or}
use Rattle.std.proofs.Common.{◌≡◌, ℕ, List, [], ◌∷◌, ◌++◌, Option, Some, None, is_some, Bool, true, false, ◌||◌, inl, inr, refl, sym, ◌∙◌, ap, subst, cond, if◌then◌else◌, append_assoc}
use Rattle.std.specs.List.{list_any}
use Rattle.std.specs.Bool.{Decides}
use Rattle.std.proofs.lemmas.Bool.Decides.{Decides-eqb, Decides-like, Decides-and}
use Rattle.custody_machine.specs.State.{State}
use Rattle.custody_machine.specs.Machine.{Command, TimedCommand, Record, Reply, Step, Refuse, Accept, step, state_of, state_after, after, deciding_keys, Answer, Accepted, Refused, Failed, StoreFailed, Closed, Damaged, MayAnswer, MayRefuse, MayFail}
use Rattle.custody_machine.specs.SameValues.{is_same_state}
use Rattle.custody_machine.specs.History.{Pair, Opened, Event, Answered, StoppedAtRest, StoppedWithin, OpenedWith, Condition, Running, Halted, Stopped, Happens, HappensAlong, FoundCommands, is_step_to, found_at_stop, found_after_event, found_after, found, none_found}
use Rattle.custody_machine.specs.Retries.{CommandKey, OfTld, OfName, OfRevision, OfDay, OfReleaseReference, OfHoldReference, OfLiftReference, IsKeptAs, command_key, are_same_keys, has_same_key, KeysAreCompared, once_after, ActsOnce, AsksAgain, step_record, first_record, IsAnsweredAgain, RepeatsAreAnswered, IsOfCommand, StillHas, AcknowledgedIsKept}
use Rattle.custody_machine.proofs.SameValues.{text_decides}
use Rattle.custody_machine.proofs.Histories.{after-append, Fits, fits_then, fits_after, fits_first, run_split, found_after-append, all_more, openings_are_right}
use Rattle.custody_machine.proofs.Accepting.{accept_inj}
use Rattle.custody_machine.proofs.Continuing.{step_continues}
use Rattle.custody_machine.proofs.Keeping.{Keeps, keeps_on, as_now, accepted_is_kept, same_key_is_kept, kept_again, key_of_asked, asked_again, Again, kept_is_there, other_than_none}

-- ---- the commands found were accepted, one after the other

abbrev pub AllAccepted : State → List TimedCommand → Type 0
AllAccepted s [] = Unit {0}
AllAccepted s (e ∷ es) = (reply : Reply) × (new : State) × (step s e.0 e.1 ≡ Accept reply new) × AllAccepted new es

goes_to : (s : State) (e : TimedCommand) (reply : Reply) (new : State) → step s e.0 e.1 ≡ Accept reply new → state_after s e.0 e.1 ≡ new
goes_to s e reply new h = ap (state_of s) h

one_more : (s : State) (es : List TimedCommand) (e : TimedCommand) (reply : Reply) (new : State) → AllAccepted s es → step (after s es) e.0 e.1 ≡ Accept reply new → AllAccepted s (es ++ e ∷ [])
one_more s [] e reply new all h = (reply, new, h, tt)
one_more s (x ∷ xs) e reply new all h = (all.0, all.1, all.2, one_more all.1 xs e reply new all.3 (ap (λ (t : State). step (after t xs) e.0 e.1) (sym (goes_to s x all.0 all.1 all.2)) ∙ h))

module _ (first : State) where
  settled_accepted : (commands : List TimedCommand) (d : Option TimedCommand) (pair : Pair) → AllAccepted first commands → AllAccepted first (found_at_stop first commands d pair).commands
  settled_accepted commands None pair all = all
  settled_accepted commands (Some e) pair all = by (step (after first commands) e.0 e.1) refl pair.opens
    where
      by : (r : Step) → step (after first commands) e.0 e.1 ≡ r → (o : Option State) → AllAccepted first (if is_step_to r o then commands ++ e ∷ [] else commands)
      by (Refuse q) h o = all
      by (Accept reply new) h None = all
      by (Accept reply new) h (Some s) = test (is_same_state s new)
        where
          test : (b : Bool) → AllAccepted first (if b then commands ++ e ∷ [] else commands)
          test true = one_more first commands e reply new all h
          test false = all

  accepted_then : (c : Condition) (event : Event) (next : Condition) (f : FoundCommands) → Fits first c f → Happens c event next → AllAccepted first f.commands → AllAccepted first (found_after_event first f event).commands
  accepted_then (Running old) (Answered command now (Accepted reply)) next f fits h all = one_more first f.commands (command, now) reply h.0 all (ap (λ s. step s command now) fits.0 ∙ h.1)
  accepted_then (Halted old doubt) (Answered command now (Accepted reply)) next f fits h all = absurd (no h.0)
    where
      no : Accepted reply ≡ Failed Closed → ⊥
      no e = cc
  accepted_then (Stopped pair) (Answered command now (Accepted reply)) next f fits h all = absurd h
  accepted_then c (StoppedAtRest pair) next f fits h all = settled_accepted f.commands f.in_doubt pair all
  accepted_then c (StoppedWithin command now pair) next f fits h all = settled_accepted f.commands (option_or f.in_doubt (Some (command, now))) pair all
  accepted_then c event next f fits h all = all

  pub accepted_after : (c : Condition) (events : List Event) (last : Condition) (f : FoundCommands) → Fits first c f → HappensAlong c events last → AllAccepted first f.commands → AllAccepted first (found_after first f events).commands
  accepted_after c [] last f fits run all = all
  accepted_after c (event ∷ events) last f fits run all = accepted_after run.0 events last (found_after_event first f event) (fits_then first c event run.0 f fits run.1) run.2 (accepted_then c event run.0 f fits run.1 all)

-- ---- once is enough

-- what each of these commands made is kept
abbrev pub AllKept : State → List Command → Type 0
AllKept s [] = Unit {0}
AllKept s (c ∷ cs) = ((entry : Record) × Keeps s c entry) × AllKept s cs

all_kept_on : (s : State) (e : TimedCommand) (reply : Reply) (new : State) → step s e.0 e.1 ≡ Accept reply new → (cs : List Command) → AllKept s cs → AllKept new cs
all_kept_on s e reply new h [] kept = tt
all_kept_on s e reply new h (c ∷ cs) kept = ((kept.0.0, keeps_on s new c kept.0.0 (step_continues s e.0 e.1 reply new h) kept.0.1), all_kept_on s e reply new h cs kept.1)

one_of_them : (s : State) (d : Command) (cs : List Command) → AllKept s cs → list_any (has_same_key d) cs ≡ true → (c : Command) × (entry : Record) × Keeps s c entry × (has_same_key d c ≡ true)
one_of_them s d [] kept e = cc
one_of_them s d (c ∷ cs) kept e = by (has_same_key d c) refl e (λ rest. one_of_them s d cs kept.1 rest)
  where
    by : (b : Bool) → has_same_key d c ≡ b → (b || list_any (has_same_key d) cs) ≡ true → (list_any (has_same_key d) cs ≡ true → (c : Command) × (entry : Record) × Keeps s c entry × (has_same_key d c ≡ true)) → (c : Command) × (entry : Record) × Keeps s c entry × (has_same_key d c ≡ true)
    by true same e rest = (c, kept.0.0, kept.0.1, same)
    by false same e rest = rest e

once_keeps : (s : State) (earlier : List Command) (es : List TimedCommand) → AllKept s earlier → AllAccepted s es → after s es ≡ after s (once_after earlier es)
once_keeps s earlier [] kept all = refl
once_keeps s earlier (e ∷ es) kept all = by (list_any (has_same_key e.0) earlier) refl
    (λ state. once_keeps state earlier es) (λ state. once_keeps state (e.0 ∷ earlier) es)
  where
    to : state_after s e.0 e.1 ≡ all.1
    to = goes_to s e all.0 all.1 all.2

    by : (b : Bool) → list_any (has_same_key e.0) earlier ≡ b
        → ((state : State) → AllKept state earlier → AllAccepted state es → after state es ≡ after state (once_after earlier es))
        → ((state : State) → AllKept state (e.0 ∷ earlier) → AllAccepted state es → after state es ≡ after state (once_after (e.0 ∷ earlier) es))
        → after (state_after s e.0 e.1) es ≡ after s (if b then once_after earlier es else e ∷ once_after (e.0 ∷ earlier) es)
    by true same skips takes =
        let old = one_of_them s e.0 earlier kept same in
        let here : all.1 ≡ s = (same_key_is_kept s old.0 e.0 old.1 e.1 all.0 all.1 old.2 old.3 all.2).1 in
        ap (λ t. after t es) (to ∙ here) ∙ skips s kept (subst (λ t. AllAccepted t es) here all.3)
    by false same skips takes =
        takes (state_after s e.0 e.1)
        (subst (λ t. AllKept t (e.0 ∷ earlier)) (sym to) ((all.0.entry, accepted_is_kept s e.0 e.1 all.0 all.1 all.2), all_kept_on s e all.0 all.1 all.2 earlier kept))
        (subst (λ t. AllAccepted t es) (sym to) all.3)

pub acts_once : (first : State) → ActsOnce first
acts_once first events history =
    once_keeps first [] (found first events) tt (accepted_after first history.0 events history.1 none_found (fits_first first history.0 history.2) history.3 tt)

-- ---- repeats are answered

kept_through : (s : State) (c : Command) (entry : Record) (es : List TimedCommand) → Keeps s c entry → AllAccepted s es → Keeps (after s es) c entry
kept_through s c entry [] k all = k
kept_through s c entry (e ∷ es) k all =
    subst (λ t. Keeps (after t es) c entry) (sym (goes_to s e all.0 all.1 all.2)) (kept_through all.1 c entry es (keeps_on s all.1 c entry (step_continues s e.0 e.1 all.0 all.1 all.2) k) all.3)

-- a command whose key was kept before it, and what comes behind it
kept_at : (s : State) (c : Command) (entry : Record) (before behind : List TimedCommand) (e : TimedCommand) → Keeps s c entry → has_same_key e.0 c ≡ true → AllAccepted s (before ++ e ∷ behind) → Keeps (after s (before ++ e ∷ behind)) e.0 entry
kept_at s c entry [] behind e k same all =
    let here = same_key_is_kept s c e.0 entry e.1 all.0 all.1 k same all.2 in
    subst (λ t. Keeps (after t behind) e.0 entry) (sym (goes_to s e all.0 all.1 all.2)) (kept_through all.1 e.0 entry behind (subst (λ t. Keeps t e.0 entry) (sym here.1) here.0) all.3)
kept_at s c entry (x ∷ before) behind e k same all =
    subst (λ t. Keeps (after t (before ++ e ∷ behind)) e.0 entry) (sym (goes_to s x all.0 all.1 all.2))
    (kept_at all.1 c entry before behind e (keeps_on s all.1 c entry (step_continues s x.0 x.1 all.0 all.1 all.2) k) same all.3)

-- what the first command with its key made is kept of each command
first_is_kept : (s : State) (before behind : List TimedCommand) (e : TimedCommand) → has_same_key e.0 e.0 ≡ true → AllAccepted s (before ++ e ∷ behind) → (entry : Record) × (first_record s (before ++ e ∷ behind) e.0 ≡ Some entry) × Keeps (after s (before ++ e ∷ behind)) e.0 entry
first_is_kept s [] behind e own all = (
  all.0.entry,
  ap (λ b. cond b (step_record (step s e.0 e.1)) (first_record (state_after s e.0 e.1) behind e.0)) own ∙ ap step_record all.2,
  subst (λ t. Keeps (after t behind) e.0 all.0.entry) (sym (goes_to s e all.0 all.1 all.2)) (kept_through all.1 e.0 all.0.entry behind (accepted_is_kept s e.0 e.1 all.0 all.1 all.2) all.3),
)
first_is_kept s (x ∷ before) behind e own all = by (has_same_key e.0 x.0) refl (first_is_kept all.1 before behind e own all.3)
  where
    rest : List TimedCommand
    rest = before ++ e ∷ behind

    to : state_after s x.0 x.1 ≡ all.1
    to = goes_to s x all.0 all.1 all.2

    by : (b : Bool) → has_same_key e.0 x.0 ≡ b → ((entry : Record) × (first_record all.1 rest e.0 ≡ Some entry) × Keeps (after all.1 rest) e.0 entry)
        → (entry : Record) × ((if b then step_record (step s x.0 x.1) else first_record (state_after s x.0 x.1) rest e.0) ≡ Some entry) × Keeps (after (state_after s x.0 x.1) rest) e.0 entry
    by true same later = (
      all.0.entry,
      ap step_record all.2,
      subst (λ t. Keeps (after t rest) e.0 all.0.entry) (sym to) (kept_at all.1 x.0 all.0.entry before behind e (accepted_is_kept s x.0 x.1 all.0 all.1 all.2) same all.3),
    )
    by false same later = (later.0, ap (λ t. first_record t rest e.0) to ∙ later.1, subst (λ t. Keeps (after t rest) e.0 later.0) (sym to) later.2)

key_decides : (a b : CommandKey) → Decides (are_same_keys (Some a) (Some b)) (a ≡ b)
key_decides (OfTld a) (OfTld b) = Decides-like _ (ap OfTld) (λ e. cc) (text_decides a b)
key_decides (OfName a) (OfName b) = Decides-like _ (ap OfName) (λ e. cc) (text_decides a b)
key_decides (OfRevision a d r) (OfRevision b e s) = Decides-like _ (λ p i. OfRevision (p.0 i) (p.1.0 i) (p.1.1 i)) (λ e. (cc, (cc, cc))) (Decides-and _ _ (text_decides a b) (Decides-and _ _ (Decides-eqb d e) (Decides-eqb r s)))
key_decides (OfDay a d) (OfDay b e) = Decides-like _ (λ p i. OfDay (p.0 i) (p.1 i)) (λ e. (cc, cc)) (Decides-and _ _ (text_decides a b) (Decides-eqb d e))
key_decides (OfReleaseReference a) (OfReleaseReference b) = Decides-like _ (ap OfReleaseReference) (λ e. cc) (text_decides a b)
key_decides (OfHoldReference a) (OfHoldReference b) = Decides-like _ (ap OfHoldReference) (λ e. cc) (text_decides a b)
key_decides (OfLiftReference a) (OfLiftReference b) = Decides-like _ (ap OfLiftReference) (λ e. cc) (text_decides a b)
key_decides a b = (λ e. cc, λ e. cc)

own_key : (k : Option CommandKey) → is_some k ≡ true → are_same_keys k k ≡ true
own_key (Some a) h = (key_decides a a).1 refl
own_key None h = h

one_key : (a b : Option CommandKey) → are_same_keys a b ≡ true → (is_some a ≡ true) × (a ≡ b)
one_key (Some a) (Some b) e = (refl, ap Some ((key_decides a b).0 e))
one_key (Some a) None e = let clash : true ≡ false = sym e ∙ other_than_none (Some a) in cc
one_key None b e = cc

pub keys_are_compared : KeysAreCompared
keys_are_compared a b = (one_key (command_key a) (command_key b), λ h. subst (λ k. are_same_keys (command_key a) k ≡ true) h.1 (own_key (command_key a) h.0))

-- by what the machine decides of it
answered_by : (old new : State) (command : Command) (now : ℕ) (made entry : Record) (answer : Answer) → IsKeptAs made entry → IsOfCommand command entry → Again old command entry now → deciding_keys old command now ≡ [] → MayAnswer old command now answer new → IsAnsweredAgain old command (Some made) answer
answered_by old new command now made entry (Accepted reply) as_kept own (inl h) none a =
    let e = (accept_inj _ _ _ _ (sym h ∙ a)).0 in
    subst (λ (r : Reply). IsAnsweredAgain old command (Some made) (Accepted r)) e (made, refl, as_kept, own, refl)
answered_by old new command now made entry (Accepted reply) as_kept own (inr h) none a = let e = sym h.0 ∙ a in cc
answered_by old new command now made entry (Refused q) as_kept own (inl h) none a = let e = subst (λ r. MayRefuse command r q) h a.0 in let no = e.2 in cc
answered_by old new command now made entry (Refused q) as_kept own (inr h) none a = (subst (λ r. MayRefuse command r q) h.0 a.0, h.1)
answered_by old new command now made entry (Failed StoreFailed) as_kept own (inl h) none a = let no = subst (λ r. MayFail r (deciding_keys old command now) StoreFailed) h a.0 in cc
answered_by old new command now made entry (Failed StoreFailed) as_kept own (inr h) none a = subst (λ r. MayFail r (deciding_keys old command now) StoreFailed) h.0 a.0
answered_by old new command now made entry (Failed (Damaged damage)) as_kept own (inl h) none a = (subst (λ r. MayFail r (deciding_keys old command now) (Damaged damage)) h a.0).1 none
answered_by old new command now made entry (Failed (Damaged damage)) as_kept own (inr h) none a = (subst (λ r. MayFail r (deciding_keys old command now) (Damaged damage)) h.0 a.0).1 none
answered_by old new command now made entry answer as_kept own h none a = tt

same_after : (old : State) (command : Command) (now : ℕ) (entry : Record) → Again old command entry now → state_after old command now ≡ old
same_after old command now entry (inl e) = ap (state_of old) e
same_after old command now entry (inr e) = ap (state_of old) e.0

-- and nothing changes
unchanged_by : (first : State) (f : FoundCommands) (old : State) (command : Command) (now : ℕ) (entry : Record) (answer : Answer) → after first f.commands ≡ old → Again old command entry now → after first (found_after_event first f (Answered command now answer)).commands ≡ after first f.commands
unchanged_by first f old command now entry (Accepted reply) is h =
    after-append first f.commands ((command, now) ∷ []) ∙ ap (λ s. state_after s command now) is ∙ same_after old command now entry h ∙ sym is
unchanged_by first f old command now entry (Refused q) is h = refl
unchanged_by first f old command now entry (Failed failure) is h = refl

repeated : (first : State) (c next : Condition) (f : FoundCommands) (entry : TimedCommand) (kept : Record) (command : Command) (now : ℕ) (answer : Answer) → Fits first c f → Happens c (Answered command now answer) next →
    Keeps (after first f.commands) entry.0 kept → AsksAgain entry.0 command →
    IsAnsweredAgain (after first f.commands) command (Some kept) answer × (after first (found_after_event first f (Answered command now answer)).commands ≡ after first f.commands)
repeated first (Running old) next f entry kept command now answer fits h keeps again =
    let here = kept_again old entry.0 command kept (subst (λ s. Keeps s entry.0 kept) fits.0 keeps) again.1 in
    let as_is = as_now old command kept here in
    let outcome = asked_again old command as_is.0 now (sym (ap is_some (sym (key_of_asked entry.0) ∙ ap command_key again.1 ∙ key_of_asked command)) ∙ again.0) as_is.2 as_is.3 in (
      subst (λ s. IsAnsweredAgain s command (Some kept) answer) (sym fits.0) (answered_by old h.0 command now kept as_is.0 answer as_is.1 (kept_is_there old command as_is.0 as_is.2).0 outcome.0 outcome.1 h.1),
      unchanged_by first f old command now as_is.0 answer fits.0 outcome.0,
    )
repeated first (Halted old doubt) next f entry kept command now answer fits h keeps again =
    subst (λ a. IsAnsweredAgain (after first f.commands) command (Some kept) a × (after first (found_after_event first f (Answered command now a)).commands ≡ after first f.commands)) (sym h.0) (tt, refl)
repeated first (Stopped pair) next f entry kept command now answer fits h keeps again = absurd h

pub repeats_are_answered : (first : State) → RepeatsAreAnswered first
repeats_are_answered first earlier later before behind entry command now answer history is again =
    let parts = run_split history.0 earlier (Answered command now answer ∷ later) history.1 history.3 in
    let f : FoundCommands = found_after first none_found earlier in
    let fits : Fits first parts.0 f = fits_after first history.0 earlier parts.0 none_found (fits_first first history.0 history.2) parts.1 in
    let all : AllAccepted first f.commands = accepted_after first history.0 earlier parts.0 none_found (fits_first first history.0 history.2) parts.1 tt in
    let one = first_is_kept first before behind entry (own_key (command_key entry.0) again.0) (subst (AllAccepted first) is all) in
    let keeps : Keeps (after first f.commands) entry.0 one.0 = subst (λ l. Keeps (after first l) entry.0 one.0) (sym is) one.2 in
    let answered = repeated first parts.0 parts.2.0 f entry one.0 command now answer fits parts.2.1 keeps again in
    let record_is : first_record first f.commands entry.0 ≡ Some one.0 = ap (λ l. first_record first l entry.0) is ∙ one.1 in (
      subst (λ o. IsAnsweredAgain (after first f.commands) command o answer) (sym record_is) answered.0,
      ap (λ (g : FoundCommands). after first g.commands) (found_after-append first none_found earlier (Answered command now answer ∷ [])) ∙ answered.1,
    )

-- ---- what was acknowledged is kept

accepted_keeps : (first : State) (c next : Condition) (f : FoundCommands) (command : Command) (now : ℕ) (reply : Reply) → Fits first c f → Happens c (Answered command now (Accepted reply)) next → Keeps (after first (f.commands ++ (command, now) ∷ [])) command reply.entry
accepted_keeps first (Running old) next f command now reply fits h =
    subst (λ s. Keeps s command reply.entry) (sym (after-append first f.commands ((command, now) ∷ []) ∙ ap (λ s. state_after s command now) fits.0 ∙ ap (state_of old) h.1)) (accepted_is_kept old command now reply h.0 h.1)
accepted_keeps first (Halted old doubt) next f command now reply fits h = absurd (no h.0)
  where
    no : Accepted reply ≡ Failed Closed → ⊥
    no e = cc
accepted_keeps first (Stopped pair) next f command now reply fits h = absurd h

-- the rest of commands that were accepted was, too
rest_accepted : (s : State) (xs ys : List TimedCommand) → AllAccepted s (xs ++ ys) → AllAccepted (after s xs) ys
rest_accepted s [] ys all = all
rest_accepted s (x ∷ xs) ys all = subst (λ t. AllAccepted (after t xs) ys) (sym (goes_to s x all.0 all.1 all.2)) (rest_accepted all.1 xs ys all.3)

pub acknowledged_is_kept : (first : State) → AcknowledgedIsKept first
acknowledged_is_kept first earlier between later command now reply pair state history = subst (λ s. IsOfCommand command reply.entry × StillHas s reply.entry) (sym opened) (kept_is_there (after first (found first before)) command reply.entry there)
  where
    answer : Event
    answer = Answered command now (Accepted reply)

    before : List Event
    before = earlier ++ answer ∷ between

    opened : state ≡ after first (found first before)
    opened = let same = (openings_are_right first before later pair (Opened state) history).1 in cc

    parts : (mid : Condition) × HappensAlong history.0 earlier mid × HappensAlong mid (answer ∷ (between ++ OpenedWith pair (Opened state) ∷ later)) history.1
    parts = run_split history.0 earlier (answer ∷ (between ++ OpenedWith pair (Opened state) ∷ later)) history.1
        (subst (λ l. HappensAlong history.0 l history.1) (append_assoc earlier (answer ∷ between) (OpenedWith pair (Opened state) ∷ later)) history.3)

    whole : (mid : Condition) × HappensAlong history.0 before mid × HappensAlong mid (OpenedWith pair (Opened state) ∷ later) history.1
    whole = run_split history.0 before (OpenedWith pair (Opened state) ∷ later) history.1 history.3

    f : FoundCommands
    f = found_after first none_found earlier

    fits : Fits first parts.0 f
    fits = fits_after first history.0 earlier parts.0 none_found (fits_first first history.0 history.2) parts.1

    more : (more : List TimedCommand) × (found first before ≡ (f.commands ++ (command, now) ∷ []) ++ more)
    more = let rest = all_more first (found_after_event first f answer) between in
        (rest.0, ap (λ (g : FoundCommands). g.commands) (found_after-append first none_found earlier (answer ∷ between)) ∙ rest.1)

    all : AllAccepted first (found first before)
    all = accepted_after first history.0 before whole.0 none_found (fits_first first history.0 history.2) whole.1 tt

    there : Keeps (after first (found first before)) command reply.entry
    there =
        let front = f.commands ++ (command, now) ∷ [] in
        let made = accepted_keeps first parts.0 parts.2.0 f command now reply fits parts.2.1 in
        let rest = rest_accepted first front more.0 (subst (AllAccepted first) more.1 all) in
        subst (λ s. Keeps s command reply.entry) (sym (ap (after first) more.1 ∙ after-append first front more.0)) (kept_through (after first front) command reply.entry more.0 made rest)
