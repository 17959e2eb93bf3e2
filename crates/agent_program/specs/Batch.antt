-- What a batch does: the order of each of its lines, in their turn.
use Rattle.std.specs.Prelude.{◌≡◌, ◌⊎◌, ℕ, max, List, [], ◌∷◌, Option, IfSome, true, false}
use Rattle.vault_volume.specs.declared.volume.Volume as volume
use Rattle.sqlite.specs.Store.{Ghosts}
use Rattle.clap.specs.Words.{Text}
use Rattle.custody.specs.declared.custody.Custody.{Custody}
use Rattle.custody.specs.Custody.{is_open}
use Rattle.answer_lines.specs.Printing.{IsUnused, Writer, WritesBeginning}
use Rattle.answer_lines.specs.Statuses.{IsStatusAfter}
use Rattle.agent_cli.specs.Acts.{Acts}
use Rattle.agent_cli.specs.BatchLines.{AskInBatch, IsNoOrder, GivesCall, batch_lines, line_fault_status}
use Rattle.agent_cli.specs.declared.lines.LineFault.{LineFault}
use Rattle.agent_cli.specs.declared.order.Order.{Order}
use Rattle.agent_program.specs.declared.errors.ProgramError.{ProgramError}
use Rattle.agent_program.specs.Host.{IsOrderMoment}
use Rattle.agent_program.specs.Parts.{IsOrderRead}
use Rattle.agent_program.specs.Errors.{IsErrorPrinted, IsOfFile, IsProgramFailure, error_line}

-- a line asks for this order of a batch
abbrev pub LineAsksFor : (folder : Text) → List ℕ → Order → Type 0
LineAsksFor folder line order = (words : List Text) × GivesCall folder line words × AskInBatch words order

module _ {V S : Type 0} {g : volume.Ghosts V} {database : Ghosts S} where
  -- the next line could not be read, which an error of a file says, or want of memory
  abbrev pub IsInputLost : Custody V S g database → Custody V S g database → ℕ → Writer → Writer → Type 0
  IsInputLost old new status output errors =
      (error : ProgramError) × IsOfFile error × (new ≡ old) × (status ≡ 3) × IsUnused output × WritesBeginning errors (error_line error)

  -- a line was no order, which its fault says
  abbrev pub EndsAt : (folder : Text) → List ℕ → Custody V S g database → Custody V S g database → ℕ → Writer → Type 0
  EndsAt folder line old new status output = (fault : LineFault) × IsNoOrder folder line fault × (new ≡ old) × IsStatusAfter (line_fault_status fault) status × IsUnused output

-- `held` gives the bytes of the files of a host by their paths, and `shown` the moment of its clock.
module _ {V S : Type 0} {g : volume.Ghosts V} {database : Ghosts S} (held : List ℕ → Option (List ℕ)) (shown : Option ℕ) where
  -- An order was done on the agent, at its moment, with the bytes of its part. Or its part or the clock failed, which the line of that says.
  abbrev pub HasDoneOrder : Order → Custody V S g database → Custody V S g database → ℕ → Writer → Writer → Type 0
  HasDoneOrder order old new status output errors =
      ((bytes : List ℕ) × (now : ℕ) × IsOrderRead held order.deed bytes × IsOrderMoment shown order.now now × Acts order.deed bytes now old new status output errors)
      ⊎ ((error : ProgramError) × IsProgramFailure error × (new ≡ old) × IsErrorPrinted error status errors × IsUnused output)

  -- The orders of these lines were done in their turn, up to a line that is no order, or one that closes the agent. Where none does, the status is the highest that came.
  abbrev pub IsBatch : (folder : Text) → List (List ℕ) → (highest : ℕ) → Custody V S g database → Custody V S g database → ℕ → Writer → Writer → Type 0
  IsBatch folder [] highest old new status output errors = IsInputLost old new status output errors ⊎ ((new ≡ old) × (status ≡ highest) × IsUnused output × IsUnused errors)
  IsBatch folder (line ∷ lines) highest old new status output errors = IsInputLost old new status output errors
      ⊎ (EndsAt folder line old new status output
      ⊎ ((order : Order) × LineAsksFor folder line order × ((then : Custody V S g database) × (told : ℕ) × (out err : Option (List ℕ))
      × HasDoneOrder order old then told (record { before = output.before; after = out }) (record { before = errors.before; after = err })
      × (is_open then ≡ true → IsBatch folder lines (max highest told) then new status (record { before = out; after = output.after }) (record { before = err; after = errors.after }))
      × (is_open then ≡ false → (new ≡ then) × (status ≡ told) × (output.after ≡ out) × (errors.after ≡ err)))))

  -- so it was with the lines of the bytes that the reader gave, where those are known
  abbrev pub AreLinesDone : (folder : Text) → (bytes : Option (List ℕ)) → Custody V S g database → Custody V S g database → ℕ → Writer → Writer → Type 0
  AreLinesDone folder bytes old new status output errors = (lines : List (List ℕ)) × IfSome bytes (λ all. lines ≡ batch_lines all) × IsBatch folder lines 0 old new status output errors
