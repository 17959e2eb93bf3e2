-- What a call does over a volume and a database.
use Rattle.std.specs.Prelude.{◌≡◌, ◌≢◌, ℕ, ◌≤◌, List, Option, Bool, Ok, Err, true}
use Rattle.clap.specs.Words.{Text}
use Rattle.vault_volume.specs.declared.volume.Volume as volume
use Rattle.vault_volume.specs.Vault.{volume_of}
use Rattle.sqlite.specs.Store.{Ghosts}
use Rattle.sqlite.specs.Held.{Held}
use Rattle.custody_store.specs.StoreState.{store_state}
use Rattle.custody_machine.specs.declared.answers.Failure.{Failure}
use Rattle.custody_machine.specs.declared.answers.Failure.TheVariants.{StoreFailed}
use Rattle.custody_machine.specs.Texts.{failure_text}
use Rattle.custody.specs.declared.custody.Custody.{Custody}
use Rattle.custody.specs.declared.answers.InitError.{InitError}
use Rattle.custody.specs.Answers.{init_error_text}
use Rattle.custody.specs.Custody.{open_custody_of, is_open}
use Rattle.custody.specs.Opening.{OnlyReads}
use Rattle.custody.specs.Calls.{HasBegun, IsBegunDurably, IsNotBegun, LeavesNone}
use Rattle.answer_lines.specs.Lines.{line_text}
use Rattle.answer_lines.specs.Printing.{WritesBeginning, IsUnused, WritesWholeAt, Writer, as_line}
use Rattle.answer_lines.specs.Statuses.{IsStatusAfter, init_status}
use Rattle.answer_lines.specs.declared.lines.Line.TheVariants.{Listening, Ready}
use Rattle.agent_cli.specs.Acts.{Acts}
use Rattle.agent_cli.specs.declared.order.Deed.{Deed}
use Rattle.agent_program.specs.Batch.{AreLinesDone}
use Rattle.http_api.specs.Connections.{AreConnections, ServerState}
use Rattle.theorems.specs.Lives.{HasOpened, OpenResult}

-- so many connections were answered by a custody, of whatever clients
abbrev pub IsServedFrom : {V S : Type 0} {g : volume.Ghosts V} {database : Ghosts S} → (given : Option ℕ) → (served : ℕ) → (old new : Custody V S g database) → Type 0
IsServedFrom {V = V} {S = S} {g = g} {database = database} given served old new =
    (first last : ServerState (Custody V S g database)) × (first.custody ≡ old) × AreConnections given served first last × (last.custody ≡ new)

module _ {V S : Type 0} (g : volume.Ghosts V) (database : Ghosts S) (volume : V) (db : Held S) where
  -- an agent was opened, the deed was done on it, and volume and database are handed back as it left them
  pub record IsCarriedOut (deed : Deed) (bytes : List ℕ) (now status : ℕ) (later : V) (then : Held S) (output errors : Writer) : Type 0 where
    pub old : Custody V S g database
    pub new : Custody V S g database
    pub opened : HasOpened g database volume db (Ok old)
    pub acts : Acts deed bytes now old new status output errors
    pub volume_is : later ≡ volume_of (open_custody_of new).vault
    pub store_is : then ≡ (open_custody_of new).store

  -- an agent was opened, and the orders that lines ask for were done on it in their turn; the lines are those of these bytes, where they are known
  pub record HasDoneBatch (held : List ℕ → Option (List ℕ)) (shown : Option ℕ) (folder : Text) (lines : Option (List ℕ)) (status : ℕ) (later : V) (then : Held S) (output errors : Writer) : Type 0 where
    pub old : Custody V S g database
    pub new : Custody V S g database
    pub opened : HasOpened g database volume db (Ok old)
    pub done : AreLinesDone held shown folder lines old new status output errors
    pub volume_is : later ≡ volume_of (open_custody_of new).vault
    pub store_is : then ≡ (open_custody_of new).store

  -- an opening that failed, and what it hands back
  abbrev pub failed_opening : Failure → V → Held S → OpenResult g database
  failed_opening why later then = Err (why, later, then)

  -- none was opened, and it is told why; volume and database are handed back as the opening left them
  pub record HasPrintedOpenFailure (status : ℕ) (later : V) (then : Held S) (output errors : Writer) : Type 0 where
    pub why : Failure
    pub opened : HasOpened g database volume db (failed_opening why later then)
    -- unless the database failed, they were only read
    pub unchanged : why ≢ StoreFailed → OnlyReads g database volume db later then (failed_opening why later then)
    pub failed : status ≡ 3
    pub told : WritesBeginning errors (as_line (failure_text why))
    pub unused : IsUnused output

  -- one was begun, and it is told
  pub record HasPrintedReady (blocks number status : ℕ) (later : V) (then : Held S) (output errors : Writer) : Type 0 where
    pub custody : Custody V S g database
    pub begun : HasBegun g database volume db number custody
    pub durable : IsBegunDurably g database volume db custody
    pub volume_is : later ≡ volume_of (open_custody_of custody).vault
    pub store_is : then ≡ (open_custody_of custody).store
    pub done : IsStatusAfter 0 status
    pub told : WritesWholeAt output (as_line (line_text (Ready blocks number))) 0 status
    pub unused : IsUnused errors

  -- none was begun, and it is told why; volume and database are handed back as that left them
  pub record HasPrintedInitError (number status : ℕ) (later : V) (then : Held S) (output errors : Writer) : Type 0 where
    pub error : InitError
    pub cause : IsNotBegun g database volume db error later then
    pub leaves : (store_state database then).IsHonest → LeavesNone g database volume db number error later then
    pub refused : IsStatusAfter (init_status error) status
    pub told : WritesWholeAt errors (as_line (init_error_text error)) 1 status
    pub unused : IsUnused output

  -- one was opened, told the port where it listens, and answered connections at the given moment: with status 0 so many, and else at most so many; where it was to end when it is closed, status 0 tells that it was not
  pub record HasServedConnections (port : ℕ) (given : Option ℕ) (requests : ℕ) (until_closed : Bool) (status : ℕ) (later : V) (then : Held S) (output : Writer) : Type 0 where
    pub old : Custody V S g database
    pub new : Custody V S g database
    pub served : ℕ
    pub opened : HasOpened g database volume db (Ok old)
    pub at_most : served ≤ requests
    pub all : status ≡ 0 → served ≡ requests
    pub turns : IsServedFrom given served old new
    pub stays_open : until_closed ≡ true → status ≡ 0 → is_open new ≡ true
    pub done : IsStatusAfter 0 status
    pub told : WritesWholeAt output (as_line (line_text (Listening port))) 0 status
    pub volume_is : later ≡ volume_of (open_custody_of new).vault
    pub store_is : then ≡ (open_custody_of new).store
