-- Each command found is left by an event of its own.
use Rattle.std.specs.Option.{option_or}
use Rattle.std.proofs.Common.{◌≡◌, ℕ, List, [], ◌∷◌, ◌++◌, Option, Some, None, Bool, true, false, ◌⊎◌, inl, inr, refl, sym, ◌∙◌, ap, subst, if◌then◌else◌, append_assoc, append-nil}
use Rattle.custody_machine.specs.State.{State}
use Rattle.custody_machine.specs.Machine.{Command, TimedCommand, step, after, Answer, Accepted, Refused, Failed, NoMemory, VolumeFailed, StoreFailed, Closed, Damaged}
use Rattle.custody_machine.specs.History.{Pair, Opened, NotOpened, Event, Answered, AnsweredOtherCall, ShutDown, StoppedAtRest, StoppedWithin, OpenedWith, Condition, Running, Halted, Stopped, Happens, HappensAlong, IsStart, FoundCommands, is_step_to, found_at_stop, found_after_event, found_after, AreLeftBy, NothingElseIsFound}
use Rattle.custody_machine.proofs.Histories.{or_none}

-- the command in doubt
abbrev doubt_in : Condition → Option TimedCommand
doubt_in (Running state) = None
doubt_in (Halted old doubt) = doubt
doubt_in (Stopped pair) = None

-- what is found from here on: the command in doubt, or not, and then what the events leave
abbrev ComeFrom : Option TimedCommand → List Event → List TimedCommand → Type 0
ComeFrom None events entries = AreLeftBy events entries
ComeFrom (Some entry) events entries = AreLeftBy events entries ⊎ ((rest : List TimedCommand) × (entries ≡ entry ∷ rest) × AreLeftBy events rest)

nothing_comes : (doubt : Option TimedCommand) → ComeFrom doubt [] []
nothing_comes None = refl
nothing_comes (Some entry) = inl refl

-- an event may leave nothing
skip : (doubt : Option TimedCommand) (event : Event) (events : List Event) (entries : List TimedCommand) → ComeFrom doubt events entries → ComeFrom doubt (event ∷ events) entries
skip None event events entries h = inl h
skip (Some entry) event events entries (inl h) = inl (inl h)
skip (Some entry) event events entries (inr h) = inr (h.0, h.1, inl h.2)

abbrev account : List TimedCommand → Option TimedCommand → FoundCommands
account commands doubt = record { commands = commands; in_doubt = doubt }

module _ (first : State) where
  record IsTraced (commands : List TimedCommand) (doubt : Option TimedCommand) (events : List Event) : Type 0 where
    more : List TimedCommand
    is : (found_after first (account commands doubt) events).commands ≡ commands ++ more
    come : ComeFrom doubt events more

  -- whatever was found before
  abbrev Traced : Option TimedCommand → List Event → Type 0
  Traced doubt events = (commands : List TimedCommand) → IsTraced commands doubt events

  -- an event by which nothing is found, and nothing comes to be in doubt
  quiet : (doubt : Option TimedCommand) (event : Event) (events : List Event)
      → ((commands : List TimedCommand) → found_after_event first (account commands doubt) event ≡ account commands doubt) → Traced doubt events → Traced doubt (event ∷ events)
  quiet doubt event events same rest commands = let r = rest commands in record {
    more = r.more;
    is = subst (λ (f : FoundCommands). (found_after first f events).commands ≡ commands ++ r.more) (sym (same commands)) r.is;
    come = skip doubt event events r.more r.come;
  }

  -- an answer by which a command comes to be in doubt
  doubted : (command : Command) (now : ℕ) (events : List Event) → Traced (Some (command, now)) events → Traced None (Answered command now (Failed StoreFailed) ∷ events)
  doubted command now events rest commands = let r = rest commands in record { more = r.more; is = r.is; come = by r.more r.come }
    where
      by : (more : List TimedCommand) → ComeFrom (Some (command, now)) events more → AreLeftBy (Answered command now (Failed StoreFailed) ∷ events) more
      by more (inl h) = inl h
      by more (inr h) = inr ((command, now), h.0, h.1, refl, h.2)

  -- a session ends with a command in doubt, which is found or not
  record IsEnded (commands : List TimedCommand) (entry : TimedCommand) (pair : Pair) (events : List Event) : Type 0 where
    more : List TimedCommand
    is : (found_after first (found_at_stop first commands (Some entry) pair) events).commands ≡ commands ++ more
    come : ComeFrom (Some entry) events more

  ends : (commands : List TimedCommand) (entry : TimedCommand) (pair : Pair) (events : List Event) → Traced None events → IsEnded commands entry pair events
  ends commands entry pair events rest = by (is_step_to (step (after first commands) entry.0 entry.1) pair.opens) refl
    where
      by : (b : Bool) → is_step_to (step (after first commands) entry.0 entry.1) pair.opens ≡ b → IsEnded commands entry pair events
      by true e = let r = rest (commands ++ entry ∷ []) in record {
        more = entry ∷ r.more;
        is = subst (λ b. (found_after first (account (if b then commands ++ entry ∷ [] else commands) None) events).commands ≡ commands ++ entry ∷ r.more) (sym e) (r.is ∙ append_assoc commands (entry ∷ []) r.more);
        come = inr (r.more, refl, r.come);
      }
      by false e = let r = rest commands in record {
        more = r.more;
        is = subst (λ b. (found_after first (account (if b then commands ++ entry ∷ [] else commands) None) events).commands ≡ commands ++ r.more) (sym e) r.is;
        come = inl r.come;
      }

  -- of the session in doubt, or of none
  stopped_in_doubt : (entry : TimedCommand) (event : Event) (pair : Pair) (events : List Event)
      → ((commands : List TimedCommand) → found_after_event first (account commands (Some entry)) event ≡ found_at_stop first commands (Some entry) pair) → Traced None events → Traced (Some entry) (event ∷ events)
  stopped_in_doubt entry event pair events same rest commands = let r = ends commands entry pair events rest in record {
    more = r.more;
    is = subst (λ (f : FoundCommands). (found_after first f events).commands ≡ commands ++ r.more) (sym (same commands)) r.is;
    come = skip (Some entry) event events r.more r.come;
  }

  stopped_within : (command : Command) (now : ℕ) (pair : Pair) (events : List Event) → Traced None events → Traced None (StoppedWithin command now pair ∷ events)
  stopped_within command now pair events rest commands = let r = ends commands (command, now) pair events rest in record { more = r.more; is = r.is; come = by r.more r.come }
    where
      by : (more : List TimedCommand) → ComeFrom (Some (command, now)) events more → AreLeftBy (StoppedWithin command now pair ∷ events) more
      by more (inl h) = inl h
      by more (inr h) = inr ((command, now), h.0, h.1, refl, h.2)

  answered : (old : State) (command : Command) (now : ℕ) (answer : Answer) (next : Condition) (events : List Event) → Happens (Running old) (Answered command now answer) next → Traced (doubt_in next) events → Traced None (Answered command now answer ∷ events)
  answered old command now (Accepted reply) next events h rest = λ commands.
      let r = subst (λ c. Traced (doubt_in c) events) h.2 rest (commands ++ (command, now) ∷ []) in
      record { more = (command, now) ∷ r.more; is = r.is ∙ append_assoc commands ((command, now) ∷ []) r.more; come = inr ((command, now), r.more, refl, refl, r.come) }
  answered old command now (Refused refusal) next events h rest = quiet None (Answered command now (Refused refusal)) events (λ commands. refl) (subst (λ c. Traced (doubt_in c) events) h.2 rest)
  answered old command now (Failed NoMemory) next events h rest = quiet None (Answered command now (Failed NoMemory)) events (λ commands. refl) (subst (λ c. Traced (doubt_in c) events) h.2 rest)
  answered old command now (Failed VolumeFailed) next events h rest = quiet None (Answered command now (Failed VolumeFailed)) events (λ commands. refl) (subst (λ c. Traced (doubt_in c) events) h.2 rest)
  answered old command now (Failed StoreFailed) next events h rest = doubted command now events (subst (λ c. Traced (doubt_in c) events) h.2 rest)
  answered old command now (Failed Closed) next events h rest = absurd h.1.0
  answered old command now (Failed (Damaged damage)) next events h rest = quiet None (Answered command now (Failed (Damaged damage))) events (λ commands. refl) (subst (λ c. Traced (doubt_in c) events) h.2 rest)

  -- a closed custody answers that it is closed
  answered_closed : (doubt : Option TimedCommand) (command : Command) (now : ℕ) (answer : Answer) (events : List Event) → answer ≡ Failed Closed → Traced doubt events → Traced doubt (Answered command now answer ∷ events)
  answered_closed doubt command now answer events closed rest = subst (λ a. Traced doubt (Answered command now a ∷ events)) (sym closed)
      (quiet doubt (Answered command now (Failed Closed)) events (λ commands. by commands (or_none first doubt)) rest)
    where
      by : (commands : List TimedCommand) → option_or doubt None ≡ doubt → account commands (option_or doubt None) ≡ account commands doubt
      by commands e = ap (account commands) e

  one : (c : Condition) (event : Event) (next : Condition) (events : List Event) → Happens c event next → Traced (doubt_in next) events → Traced (doubt_in c) (event ∷ events)
  one (Running old) (Answered command now answer) next events h rest = answered old command now answer next events h rest
  one (Running old) AnsweredOtherCall next events h rest = quiet None AnsweredOtherCall events (λ commands. refl) (subst (λ c. Traced (doubt_in c) events) h rest)
  one (Running old) ShutDown next events h rest = quiet None ShutDown events (λ commands. refl) (subst (λ c. Traced (doubt_in c) events) h rest)
  one (Running old) (StoppedAtRest pair) next events h rest = quiet None (StoppedAtRest pair) events (λ commands. refl) (subst (λ c. Traced (doubt_in c) events) h.1 rest)
  one (Running old) (StoppedWithin command now pair) next events h rest = stopped_within command now pair events (subst (λ c. Traced (doubt_in c) events) h.1 rest)
  one (Halted old doubt) (Answered command now answer) next events h rest = answered_closed doubt command now answer events h.0 (subst (λ c. Traced (doubt_in c) events) h.1 rest)
  one (Halted old doubt) AnsweredOtherCall next events h rest = quiet doubt AnsweredOtherCall events (λ commands. refl) (subst (λ c. Traced (doubt_in c) events) h rest)
  one (Halted old doubt) ShutDown next events h rest = quiet doubt ShutDown events (λ commands. refl) (subst (λ c. Traced (doubt_in c) events) h rest)
  one (Halted old None) (StoppedAtRest pair) next events h rest = quiet None (StoppedAtRest pair) events (λ commands. refl) (subst (λ c. Traced (doubt_in c) events) h.1 rest)
  one (Halted old (Some entry)) (StoppedAtRest pair) next events h rest = stopped_in_doubt entry (StoppedAtRest pair) pair events (λ commands. refl) (subst (λ c. Traced (doubt_in c) events) h.1 rest)
  one (Halted old None) (StoppedWithin command now pair) next events h rest = stopped_within command now pair events (subst (λ c. Traced (doubt_in c) events) h.1 rest)
  one (Halted old (Some entry)) (StoppedWithin command now pair) next events h rest = stopped_in_doubt entry (StoppedWithin command now pair) pair events (λ commands. refl) (subst (λ c. Traced (doubt_in c) events) h.1 rest)
  one (Stopped left) (StoppedAtRest pair) next events h rest = quiet None (StoppedAtRest pair) events (λ commands. refl) (subst (λ c. Traced (doubt_in c) events) h.1 rest)
  one (Stopped left) (OpenedWith pair (Opened state)) next events h rest = quiet None (OpenedWith pair (Opened state)) events (λ commands. refl) (subst (λ c. Traced (doubt_in c) events) h.2 rest)
  one (Stopped left) (OpenedWith pair (NotOpened failure)) next events h rest = quiet None (OpenedWith pair (NotOpened failure)) events (λ commands. refl) (subst (λ c. Traced (doubt_in c) events) h.2 rest)
  one c event next events h rest = absurd h

  trace : (c : Condition) (events : List Event) (last : Condition) → HappensAlong c events last → Traced (doubt_in c) events
  trace c [] last run = λ commands. record { more = []; is = sym (append-nil commands); come = nothing_comes (doubt_in c) }
  trace c (event ∷ events) last run = one c event run.0 events run.1 (trace run.0 events last run.2)

  -- nothing is in doubt at the start of a history
  started : (c : Condition) → IsStart first c → doubt_in c ≡ None
  started (Running state) h = refl
  started (Halted old doubt) h = absurd h
  started (Stopped pair) h = refl

  pub nothing_else_is_found : NothingElseIsFound first
  nothing_else_is_found events h =
      let t = subst (λ doubt. Traced doubt events) (started h.0 h.2) (trace h.0 events h.1 h.3) [] in
      subst (AreLeftBy events) (sym t.is) t.come
