-- The calls of a custody that a deed of the command line makes.
use Rattle.std.specs.Prelude.{◌≡◌, ℕ, List, [], ◌∷◌, length, map, Option, MatchBool, Result}
use Rattle.vault_volume.specs.declared.volume.Volume as volume
use Rattle.sqlite.specs.Store.{Ghosts}
use Rattle.custody_records.specs.Records.{Records}
use Rattle.custody_machine.specs.Commands.{command_of}
use Rattle.custody_machine.specs.Machine.{Check, Receive}
use Rattle.custody_rules.specs.DueDays.{due_days}
use Rattle.custody.specs.declared.answers.Reply.{Reply}
use Rattle.custody.specs.declared.answers.Refused.{Refused}
use Rattle.custody.specs.declared.custody.Custody.{Custody}
use Rattle.custody.specs.OpenCustody.{current_records, store_state_of}
use Rattle.custody.specs.Custody.{open_custody_of}
use Rattle.answer_lines.specs.Printing.{Writer}
use Rattle.agent_cli.specs.Acts.{Acts, IsSwept, file_name, is_over}
use Rattle.agent_cli.specs.declared.order.Deed.{Deed}
use Rattle.agent_cli.specs.declared.order.Deed.TheVariants as deed
use Rattle.theorems.specs.CustodyCalls.{CustodyCall, Applies, Fetches, Previews, Explains, Audits}
use Rattle.theorems.specs.Lives.{Calls, Up, AgentGoesAlong}

-- ---- calls

-- one call, whatever it answers
abbrev pub IsOneCall : {T : Type 0} → (T → CustodyCall) → List CustodyCall → Type 0
IsOneCall {T} call calls = (answer : T) × (calls ≡ call answer ∷ [])

-- a check of each of the first so many of these days, in order
abbrev pub AreChecks : List (List ℕ × ℕ) → ℕ → List CustodyCall → Type 0
AreChecks days now [] = Unit {0}
AreChecks [] now (call ∷ calls) = ⊥
AreChecks (day ∷ days) now (call ∷ calls) = ((answer : Result Reply Refused) × (call ≡ Applies (Check day.0 day.1) now answer)) × AreChecks days now calls

-- of a sweep: checks of these days, unless there are more than it may record
abbrev pub AreSweepCalls : Option ℕ → List (List ℕ × ℕ) → ℕ → List CustodyCall → Type 0
AreSweepCalls at_most days now calls = MatchBool (is_over at_most (length days)) (calls ≡ []) (AreChecks days now calls)

-- The calls that a deed makes of an agent with these records, in order. A `put` and a command make that command, `sweep` checks of the days due, and `preview`, `fetch`, `explain` and `audit` the call that reads. No other deed makes one.
abbrev pub AreDeedCalls : Deed → (bytes : List ℕ) → (now : ℕ) → Records → List CustodyCall → Type 0
AreDeedCalls (deed.Put file) bytes now records calls = IsOneCall (Applies (Receive (file_name file.now) bytes) now) calls
AreDeedCalls (deed.Do command) bytes now records calls = IsOneCall (Applies (command_of command) now) calls
AreDeedCalls (deed.Preview stated) bytes now records calls = IsOneCall (Previews stated now) calls
AreDeedCalls (deed.Fetch reference name) bytes now records calls = IsOneCall (Fetches reference name.now) calls
AreDeedCalls (deed.Explain tld day rev) bytes now records calls = IsOneCall (Explains tld day rev) calls
AreDeedCalls deed.Audit bytes now records calls = IsOneCall Audits calls
AreDeedCalls (deed.Sweep at_most) bytes now records calls = AreSweepCalls at_most (due_days records now) now calls
AreDeedCalls other bytes now records calls = calls ≡ []

-- ---- the law

module _ {V S : Type 0} {g : volume.Ghosts V} where
  -- Such calls were made of a custody, in order, in the words of their contracts: steps of a life.
  pub record HasMadeCalls (AreCalls : List CustodyCall → Type 0) (database : Ghosts S) (old new : Custody V S g database) : Type 0 where
    pub calls : List CustodyCall
    pub are_calls : AreCalls calls
    pub goes : AgentGoesAlong database (Up old) (map Calls calls) (Up new)

  -- A deed is its calls, if the database is honest at the end.
  abbrev pub DeedsAreCalls : (database : Ghosts S) → (old new : Custody V S g database) → Type 0
  DeedsAreCalls database old new = (deed : Deed) (bytes : List ℕ) (now status : ℕ) (output errors : Writer) → Acts deed bytes now old new status output errors
      → (store_state_of database (open_custody_of new)).IsHonest → HasMadeCalls (AreDeedCalls deed bytes now (current_records (open_custody_of old))) database old new

  -- And a sweep of any days is checks of the first of them.
  abbrev pub SweepsAreChecks : (database : Ghosts S) → (old new : Custody V S g database) → Type 0
  SweepsAreChecks database old new = (days : List (List ℕ × ℕ)) (now status : ℕ) (output errors : Writer) → IsSwept days old now new status output errors
      → (store_state_of database (open_custody_of new)).IsHonest → HasMadeCalls (AreChecks days now) database old new
