-- One life of a custody, so that the laws speak of something: a command of each kind is accepted, and what is released is fetched (Specification 2, Part A section 7 and Part B sections 4, 6 and 7).
use Rattle.std.specs.Prelude.{◌≡◌, ◌≢◌, ℕ, ◌+◌, ◌*◌, List, [], ◌∷◌, ◌++◌, map, None, true, false, codes, Ok, Err}
use Rattle.deposit_name.specs.declared.kinds.Kind.TheVariants.{Full}
use Rattle.desk.specs.declared.checks.Check.TheVariants.{Frame}
use Rattle.desk.specs.declared.grounds.Ground.TheVariants.{Operator}
use Rattle.desk.specs.declared.notices.NoticeKind.TheVariants.{Failure, Absence}
use Rattle.custody_records.specs.Keys.{PartKey, NoticeKey}
use Rattle.custody_machine.specs.declared.answers.Refusal.TheVariants.{DroppedAfterKeeping}
use Rattle.custody_machine.specs.declared.command.Statement as statement
use Rattle.custody_machine.specs.State.{State, Held, empty}
use Rattle.custody_machine.specs.Machine.{Register, Receive, Statement, Check, Release, Hold, Lift, Purge, Record, OfRegistry, OfPart, OfNotice, OfRelease, OfHold, OfLifting, OfPurge, Reply, Accept, Accepted, TimedCommand, step, state_after, after}
use Rattle.custody_machine.specs.History.{Event, Answered, StoppedAtRest}
use Rattle.custody_machine.specs.Examples.{HasExamples, FindsCommands, opening_events, pair_of}
use Rattle.custody_machine.specs.FetchResult.{fetch_result}

-- ---- a deposit of 2026-08-02, which is day 20667

-- the second of an hour and a minute of a day
abbrev pub clock_moment : (day hour minute : ℕ) → ℕ
clock_moment day hour minute = day * 86_400 + hour * 3_600 + minute * 60

abbrev pub example_tld : List ℕ
example_tld = codes "example"

abbrev pub example_file_name : List ℕ
example_file_name = codes "example_2026-08-02_full_S1_R0.ryde"

abbrev pub example_part_key : PartKey
example_part_key = record { tld = example_tld; day = 20_667; rev = 0; part = 1 }

abbrev pub example_statement : statement.Statement
example_statement = record { tld = example_tld; day = 20_667; kind = Full; rev = 0; parts = 1; id = codes "X" }

abbrev pub example_notice_key : ℕ → NoticeKey
example_notice_key number = record { tld = example_tld; number = number }

-- ---- the commands, each with its moment and the record that it makes

-- The five bytes are no frame, so the deposit fails the first check. The deposit of the next day is not received. What is held is released as the operator asks.
abbrev pub entries_until_release : List (TimedCommand × Record)
entries_until_release =
    ((Register example_tld 20_667, clock_moment 20_667 9 0), OfRegistry example_tld 20_667)
    ∷ ((Receive example_file_name (codes "hello"), clock_moment 20_667 10 0), OfPart example_part_key (record { kind = Full; received = clock_moment 20_667 10 0; content = Held (codes "hello") }))
    ∷ ((Statement example_statement, clock_moment 20_667 10 5), OfNotice (example_notice_key 1) (record { day = 20_667; at = clock_moment 20_667 10 5; kind = Failure 0 (codes "X") Frame }))
    ∷ ((Check example_tld 20_668, clock_moment 20_670 0 0), OfNotice (example_notice_key 2) (record { day = 20_668; at = clock_moment 20_670 0 0; kind = Absence }))
    ∷ ((Release (codes "R-1") example_tld Operator, clock_moment 20_670 3 0), OfRelease (codes "R-1") (record { tld = example_tld; reason = Operator; at = clock_moment 20_670 3 0; names = example_file_name ∷ [] }))
    ∷ []

-- Before 2027-08-02, day 21032, which is the last day on which the part is kept, its day is held.
abbrev pub entries_until_hold : List (TimedCommand × Record)
entries_until_hold = entries_until_release ++ ((Hold (codes "H-1") example_tld 20_667, clock_moment 21_032 9 0), OfHold (codes "H-1") (record { tld = example_tld; day = 20_667; at = clock_moment 21_032 9 0; lifted = None })) ∷ []

-- The hold is lifted, and then the part is dropped.
abbrev pub example_life : List (TimedCommand × Record)
example_life =
    entries_until_hold
    ++ ((Lift (codes "H-1"), clock_moment 21_033 9 0), OfLifting (codes "H-1") (clock_moment 21_033 9 0))
    ∷ ((Purge, clock_moment 21_033 10 0), OfPurge 1)
    ∷ []

abbrev pub commands_of : List (TimedCommand × Record) → List TimedCommand
commands_of = map (λ (one : TimedCommand × Record). one.0)

-- ---- what holds of them

abbrev pub new_reply : Record → Reply
new_reply made = record { entry = made; is_repeat = false }

-- A command that comes again at once is answered by its record; a purge finds nothing more to drop.
abbrev pub reply_again : Record → Reply
reply_again (OfPurge count) = new_reply (OfPurge 0)
reply_again made = record { entry = made; is_repeat = true }

-- The command is accepted, changes the state and makes the record, and may come again: so there are histories of each kind.
pub record IsAccepted (old new : State) (entry : TimedCommand) (made : Record) : Type 0 where
  pub accepts : step old entry.0 entry.1 ≡ Accept (new_reply made) new
  pub changes : new ≢ old
  pub again : step new entry.0 entry.1 ≡ Accept (reply_again made) new
  pub examples : HasExamples old new entry.0 entry.1 (new_reply made)

-- each in the state after those before it
abbrev pub AreAccepted : State → List (TimedCommand × Record) → Type 0
AreAccepted old [] = Unit {0}
AreAccepted old (one ∷ later) = IsAccepted old (state_after old one.0.0 one.0.1) one.0 one.1 × AreAccepted (state_after old one.0.0 one.0.1) later

-- each was answered so, and then the custody was stopped, and opened again
abbrev pub life_events : List (TimedCommand × Record) → State → List Event
life_events ones state = map (λ (one : TimedCommand × Record). Answered one.0.0 one.0.1 (Accepted (new_reply one.1))) ones ++ StoppedAtRest (pair_of state) ∷ opening_events state

pub record CustodyLives : Type 0 where
  -- each of the eight is accepted, and one history has them all
  pub accepted : AreAccepted empty example_life
  pub found : FindsCommands empty (life_events example_life (after empty (commands_of example_life))) (commands_of example_life)
  -- while its day is on hold, no purge drops the part
  pub held : step (after empty (commands_of entries_until_hold)) Purge (clock_moment 21_033 0 0) ≡ Accept (new_reply (OfPurge 0)) (after empty (commands_of entries_until_hold))
  -- what is released is fetched until it is dropped
  pub released : fetch_result (after empty (commands_of entries_until_release)) (codes "R-1") example_file_name ≡ Ok (codes "hello")
  pub dropped : fetch_result (after empty (commands_of example_life)) (codes "R-1") example_file_name ≡ Err DroppedAfterKeeping
