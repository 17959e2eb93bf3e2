-- What a call of the program comes to.
use Rattle.std.specs.Prelude.{◌≡◌, ◌⊎◌, ℕ, List, Option, Ok, Err, IfSome, codes}
use Rattle.clap.specs.Words.{Text}
use Rattle.vault_volume.specs.declared.volume.Volume as volume
use Rattle.vault_volume.specs.declared.block_file.BlockFile as block_file
use Rattle.vault_volume.specs.declared.file_volume.FileVolume.{FileVolume}
use Rattle.sqlite_disk.specs.declared.Disk as disk
use Rattle.agent_cli.specs.Faults.{IsStatusOf}
use Rattle.agent_cli.specs.Order.{AnswersReading, ReadsWords}
use Rattle.agent_cli.specs.declared.order.Order.{Order}
use Rattle.agent_cli.specs.declared.order.WordFault.{WordFault}
use Rattle.answer_lines.specs.Printing.{IsUnused, Writer, WritesBeginning, as_line}
use Rattle.agent_program.specs.Errors.{IsErrorPrinted, IsProgramFailure}
use Rattle.agent_program.specs.Folder.{HasEnded, IsFolderLeft, IsSpared, end_status, end_volume}
use Rattle.agent_program.specs.Host.{AreSameFiles, AreSameOutside, database_path, volume_path}
use Rattle.agent_program.specs.declared.errors.ProgramError.{ProgramError}
use Rattle.agent_program.specs.declared.errors.ProgramError.TheVariants as error
use Rattle.custody_machine.specs.declared.answers.Failure.TheVariants.{NoMemory}
use Rattle.agent_program.specs.declared.folder.FolderCallEnd.{FolderCallEnd}

-- the words of a call ask for an order
abbrev pub AskFor : List Text → Order → Type 0
AskFor words order = AnswersReading (ReadsWords words) (Ok order)

-- they are no order, and this is why; or there is no memory to read them
abbrev pub AreFaulty : List Text → WordFault → Type 0
AreFaulty words fault = AnswersReading (ReadsWords words) (Err fault)

-- Over a host: whether it reveals its files, what it holds, and what it holds once the call has ended.
module _ (reveals : Type 0) (held later : List ℕ → Option (List ℕ)) where
  -- the words ask for an order that was not done
  abbrev pub IsNotDone : List Text → Type 0
  IsNotDone words = (order : Order) × AskFor words order × (reveals → IsSpared held later order)

  -- What may stop a call before an order is done: its words are no text, or there is no memory for them; or the vault or the clock fails an order that they ask for.
  abbrev pub MayStop : (given : Option (List Text)) → ProgramError → Type 0
  MayStop given why = (((why ≡ error.Words) ⊎ (why ≡ error.Failure NoMemory)) × (reveals → AreSameFiles held later))
      ⊎ (IsProgramFailure why × ((words : List Text) × IfSome given (λ all. words ≡ all) × IsNotDone words))

-- And the moment that its clock shows. `lines` is what is known of the bytes of standard input.
module _ {F D : Type 0} {f : block_file.Ghosts F} (g : volume.Ghosts (FileVolume F f)) (d : disk.Ghosts D) (reveals : Type 0) (held later : List ℕ → Option (List ℕ)) (shown : Option ℕ) (lines : Option (List ℕ)) where
  -- An order was done over a folder, with this status.
  pub record IsObeyed (order : Order) (status : ℕ) (output errors : Writer) : Type 0 where
    pub ended : FolderCallEnd F D f d
    -- what the errors hold behind the order's own, and behind the line of an output that failed
    pub told : Option (List ℕ)
    pub noted : Option (List ℕ)
    pub done : HasEnded g d reveals held shown output (record { before = errors.before; after = told }) lines order ended
    pub status_is : status ≡ end_status ended
    pub output_failed : WritesBeginning (record { before = told; after = noted }) (as_line (codes "output failed"))
    -- more is only said of a volume of which a call failed
    pub quiet : g.failures (end_volume ended) ≡ 0 → errors.after ≡ noted
    -- the files of the folder hold what was left in them, and all others what they held
    pub left : reveals → IsFolderLeft g held later (volume_path order.folder.now) (database_path order.folder.now) ended
    pub others : reveals → AreSameOutside held later order.folder.now

  -- The words ask for an order, which was done. Or they are none, or there is no memory to read them: then the status is
  -- that of the fault, or 3 where its text was not printed.
  abbrev pub EndsCall : List Text → ℕ → (output errors : Writer) → Type 0
  EndsCall words status output errors =
      ((order : Order) × AskFor words order × IsObeyed order status output errors)
      ⊎ ((fault : WordFault) × AreFaulty words fault × (IsStatusOf fault status ⊎ (status ≡ 3)) × (reveals → AreSameFiles held later))

  -- the words that the program was started with came to this
  abbrev pub EndsStart : (given : Option (List Text)) → ℕ → (output errors : Writer) → Type 0
  EndsStart given status output errors = (words : List Text) × IfSome given (λ all. words ≡ all) × EndsCall words status output errors

  -- or an error stopped it, whose line was printed
  abbrev pub EndsRun : (given : Option (List Text)) → ℕ → (output errors : Writer) → Type 0
  EndsRun given status output errors = EndsStart given status output errors ⊎ ((why : ProgramError) × MayStop reveals held later given why × IsErrorPrinted why status errors × IsUnused output)
