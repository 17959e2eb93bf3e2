-- What a custody shows, and what its commands do.
use Rattle.std.specs.Prelude.{◌≡◌, ℕ, List, [], ◌∷◌, map, Bool, true, false, Option, is_none, Result, Err, IfOk}
use Rattle.vault_volume.specs.declared.volume.Volume as volume
use Rattle.sqlite.specs.Store.{Ghosts}
use Rattle.custody_machine.specs.declared.command.Command as asked
use Rattle.custody_machine.specs.Machine.{Command, TimedCommand}
use Rattle.custody_machine.specs.Commands.{command_of}
use Rattle.custody_machine.specs.declared.answers.Failure.{Failure}
use Rattle.custody_machine.specs.declared.answers.Failure.TheVariants.{Closed}
use Rattle.custody.specs.declared.answers.Reply.{Reply}
use Rattle.custody.specs.declared.answers.Refused.{Refused}
use Rattle.custody.specs.declared.answers.Refused.TheVariants as refused
use Rattle.custody.specs.declared.custody.Custody.{Custody}
use Rattle.custody.specs.declared.open_custody.OpenCustody.{OpenCustody}
use Rattle.custody.specs.Answers.{closing_failure}
use Rattle.custody.specs.OpenCustody.{current_records, HasExecuted}
use Rattle.custody_machine.specs.Custody.{HasRoomForCommand}

module _ {V S : Type 0} {g : volume.Ghosts V} {database : Ghosts S} where
  abbrev pub open_custody_of : Custody V S g database → OpenCustody V S g
  open_custody_of custody = custody.open_custody

  -- the failure that closed it, where it is closed
  abbrev pub failure_of : Custody V S g database → Option Failure
  failure_of custody = custody.failure

  abbrev pub is_open : Custody V S g database → Bool
  is_open custody = is_none (failure_of custody)

  -- What a command does to a custody.
  pub record HasApplied (old : Custody V S g database) (command : Command) (now : ℕ) (answer : Result Reply Refused) (new : Custody V S g database) : Type 0 where
    -- a closed one says so, and is as it was
    pub closed : is_open old ≡ false → (answer ≡ Err (refused.Failure Closed)) × (new ≡ old)
    -- an open one does it
    pub done : is_open old ≡ true → HasExecuted database (open_custody_of old) command now answer (open_custody_of new)
    -- it is closed by a failure of the volume or the database, which is answered, and by nothing else
    pub closes : is_open old ≡ true → failure_of new ≡ closing_failure answer
    -- a new part is accepted only where there is room for it, as a want of room is told only where there is none
    pub room : is_open old ≡ true → IfOk answer (λ reply. reply.is_repeat ≡ false → HasRoomForCommand (current_records (open_custody_of old)) command)

-- commands, each with its moment
abbrev pub timed_commands : List (asked.Command × ℕ) → List TimedCommand
timed_commands commands = map (λ (c : asked.Command × ℕ). (command_of c.0, c.1)) commands

module _ {V S : Type 0} {g : volume.Ghosts V} {database : Ghosts S} where
  -- What commands in order do: each to the custody that the one before left.
  abbrev pub HasRun : Custody V S g database → List TimedCommand → List (Result Reply Refused) → Custody V S g database → Type 0
  HasRun old [] [] new = new ≡ old
  HasRun old [] (answer ∷ answers) new = ⊥
  HasRun old (entry ∷ entries) [] new = ⊥
  HasRun old (entry ∷ entries) (answer ∷ answers) new = (mid : Custody V S g database) × HasApplied old entry.0 entry.1 answer mid × HasRun mid entries answers new
