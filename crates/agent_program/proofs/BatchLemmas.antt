-- The lines of a batch, one after the other.
use Rattle.std.proofs.Common.{◌≡◌, ◌∙◌, ◌≤◌, ◌<◌, ◌++◌, ℕ, max, List, [], ◌∷◌, length, Option, None, Some, IfSome, Bool, true, false, inl, inr, ap, refl, subst, sym, arith, length-append, nat_le, is_some}
use Rattle.std.specs.Prelude.{◌==◌, if◌then◌else◌, is_none}
use Rattle.std.specs.Io.Buffered.{reader_buffer, reader_capacity, reader_inner, reader_remaining}
use Rattle.std.specs.Io.KnownBytes.{prepend_known}
use Rattle.std.specs.declared.io.buffered.BufReader.{BufReader}
use Rattle.vault_volume.specs.declared.volume.Volume as volume
use Rattle.sqlite.specs.Store.{Ghosts}
use Rattle.clap.specs.Words.{Text}
use Rattle.custody.specs.declared.custody.Custody.{Custody}
use Rattle.custody.specs.Custody.{is_open}
use Rattle.answer_lines.specs.Printing.{IsUnused, Writer}
use Rattle.answer_lines.specs.Statuses.{IsStatusAfter}
use Rattle.agent_cli.specs.BatchLines.{AskNoOrder, IsNoOrder, ReadsLine, GivesCall, batch_lines, line_fault_status, longest_line}
use Rattle.agent_cli.specs.declared.lines.LineFault.{LineFault}
use Rattle.agent_cli.specs.declared.lines.LineFault.TheVariants as line
use Rattle.agent_cli.specs.declared.order.Order.{Order}
use Rattle.agent_cli.specs.declared.order.WordFault.TheVariants as fault
use Rattle.agent_program.specs.declared.errors.ProgramError.{ProgramError}
use Rattle.agent_program.specs.declared.errors.ProgramError.TheVariants as error
use Rattle.agent_program.specs.Errors.{IsErrorPrinted, IsOfVault}
use Rattle.agent_program.specs.Batch.{EndsAt, HasDoneOrder, IsBatch, IsInputLost, LineAsksFor}

-- words that are no order make the line that gives them no order
pub no_order : (folder : Text) (text : List ℕ) (words : List Text) (why : LineFault) → GivesCall folder text words → AskNoOrder words why → IsNoOrder folder text why
no_order folder text words line.TooLong gives asks = absurd asks
no_order folder text words line.NoText gives asks = absurd asks
no_order folder text words line.WholeCall gives asks = (words, gives, asks)
no_order folder text words (line.Words (fault.Words e)) gives asks = (words, gives, asks)
no_order folder text words (line.Words (fault.Bad a)) gives asks = (words, gives, asks)
no_order folder text words (line.Words fault.NoMemory) gives asks = tt

-- where a batch ends at a line that is too long, whatever is said of it
too_long_status : (why : LineFault) (status : ℕ) → IsStatusAfter (line_fault_status why) status → IsStatusAfter 2 status
too_long_status line.TooLong status after = after
too_long_status line.NoText status after = after
too_long_status line.WholeCall status after = after
too_long_status (line.Words (fault.Words e)) status after = after
too_long_status (line.Words (fault.Bad a)) status after = after
too_long_status (line.Words fault.NoMemory) status (inl is) = inr is
too_long_status (line.Words fault.NoMemory) status (inr is) = inr is

-- a line that was read, before those that are left
pub read_first : (old : Option (List ℕ)) (text : List ℕ) (new : Option (List ℕ)) (lines : List (List ℕ)) → length text ≤ longest_line → ReadsLine old (Some text) new
    → IfSome new (λ rest. lines ≡ batch_lines rest) → IfSome old (λ all. text ∷ lines ≡ batch_lines all)
read_first None text new lines fits reads left = tt
read_first (Some bytes) text None lines fits reads left = absurd (reads.0 fits)
read_first (Some bytes) text (Some rest) lines fits reads left = ap (λ others. text ∷ others) left ∙ sym (reads.0 fits)

-- where no line is left
pub none_left : (old new : Option (List ℕ)) → ReadsLine old None new → IfSome old (λ all. [] ≡ batch_lines all)
none_left None new reads = tt
none_left (Some bytes) new reads = sym reads

below : (a b : ℕ) → nat_le a b ≡ true → a ≤ b
below a b is = grind arith

above : (a b : ℕ) → nat_le a b ≡ false → b < a
above a b is = grind arith

-- an error of a vault's file has status 3
pub vault_status : (e : ProgramError) (status : ℕ) (errors : Writer) → IsOfVault e → IsErrorPrinted e status errors → status ≡ 3
vault_status error.Words status errors vault printed = absurd vault
vault_status error.Clock status errors vault printed = absurd vault
vault_status (error.File line) status errors vault (inl is, printed) = is
vault_status (error.File line) status errors vault (inr is, printed) = is
vault_status (error.Failure why) status errors vault (inl is, printed) = is
vault_status (error.Failure why) status errors vault (inr is, printed) = is

-- what a failure says of an agent
pub none_of_some : {T : Type 0} (found : Option T) → is_some found ≡ true → is_none found ≡ false
none_of_some None is = cc
none_of_some (Some x) is = refl

pub none_of_none : {T : Type 0} (found : Option T) → is_some found ≡ false → is_none found ≡ true
none_of_none None is = refl
none_of_none (Some x) is = cc

-- a new buffer gives what its reader gives
none_before : (known : Option (List ℕ)) → prepend_known [] known ≡ known
none_before None = refl
none_before (Some bytes) = refl

buffered_bytes : (capacity : ℕ) (bytes : List ℕ) (known : Option (List ℕ)) → capacity ≡ 8192 → bytes ≡ [] → (if capacity == 0 then None else prepend_known bytes known) ≡ known
buffered_bytes capacity bytes known is empty =
    subst (λ n. (if n == 0 then None else prepend_known bytes known) ≡ known) (sym is) (subst (λ held. prepend_known held known ≡ known) (sym empty) (none_before known))

pub buffered : {R A : Type 0} (remaining : R → Option (List ℕ)) (reader : BufReader R A) (inner : R) → reader_inner reader ≡ inner → reader_buffer reader ≡ [] → reader_capacity reader ≡ 8192
    → reader_remaining remaining reader ≡ remaining inner
buffered remaining reader inner is empty capacity = buffered_bytes (reader_capacity reader) (reader_buffer reader) (remaining (reader_inner reader)) capacity empty ∙ ap remaining is

-- the lines of bytes that are known
abbrev pub known_lines : Option (List ℕ) → List (List ℕ)
known_lines None = []
known_lines (Some bytes) = batch_lines bytes

are_known : (bytes : Option (List ℕ)) → IfSome bytes (λ all. known_lines bytes ≡ batch_lines all)
are_known None = tt
are_known (Some bytes) = refl

module _ {V S : Type 0} {g : volume.Ghosts V} {database : Ghosts S} (held : List ℕ → Option (List ℕ)) (shown : Option ℕ) (folder : Text) (highest : ℕ) (old new : Custody V S g database) (status : ℕ) (output errors : Writer) where
  abbrev pub IsBatchOf : Option (List ℕ) → Type 0
  IsBatchOf bytes = (lines : List (List ℕ)) × IfSome bytes (λ all. lines ≡ batch_lines all) × IsBatch held shown folder lines highest old new status output errors

  lost_of : (lines : List (List ℕ)) → IsInputLost old new status output errors → IsBatch held shown folder lines highest old new status output errors
  lost_of [] lost = inl lost
  lost_of (first ∷ others) lost = inl lost

  -- the next line could not be read
  pub ends_lost : (bytes : Option (List ℕ)) → IsInputLost old new status output errors → IsBatchOf bytes
  ends_lost bytes lost = (known_lines bytes, are_known bytes, lost_of (known_lines bytes) lost)

  -- no line was left
  pub ends_done : (bytes left : Option (List ℕ)) → ReadsLine bytes None left → new ≡ old → status ≡ highest → IsUnused output → IsUnused errors → IsBatchOf bytes
  ends_done bytes left reads same is silent quiet = ([], none_left bytes left reads, inr (same, is, silent, quiet))

  -- the line was no order
  pub ends_at : (bytes : Option (List ℕ)) (text : List ℕ) (left : Option (List ℕ)) → ReadsLine bytes (Some text) left → EndsAt folder text old new status output → IsBatchOf bytes
  ends_at None text left reads ends = (text ∷ [], tt, inr (inl ends))
  ends_at (Some bytes) text left reads ends = by (nat_le (length text) longest_line) refl
    where
      by : (fits : Bool) → nat_le (length text) longest_line ≡ fits → IsBatchOf (Some bytes)
      by true is =
          let fits : length text ≤ longest_line = below (length text) longest_line is in
          (text ∷ known_lines left, read_first (Some bytes) text left (known_lines left) fits reads (are_known left), inr (inl ends))
      by false is =
          let long : longest_line < length text = above (length text) longest_line is in
          let cut = reads.1 long in
          ((text ++ cut.0) ∷ cut.1, sym cut.2, inr (inl (line.TooLong, omega (arith, long, length-append text cut.0), ends.2, too_long_status ends.0 status ends.3, ends.4)))

  -- the order of the line closed the agent
  pub ends_closed : (bytes : Option (List ℕ)) (text : List ℕ) (left : Option (List ℕ)) → ReadsLine bytes (Some text) left → (order : Order) → LineAsksFor folder text order
      → HasDoneOrder held shown order old new status output errors → is_open new ≡ false → IsBatchOf bytes
  ends_closed bytes text left reads order asks done closed = (
    text ∷ known_lines left,
    read_first bytes text left (known_lines left) asks.1.fits reads (are_known left),
    inr (inr (order, asks, (new, status, output.after, errors.after, done, (λ works. absurd (let no : true ≡ false = sym works ∙ closed in cc)), (λ _. (refl, refl, refl, refl))))),
  )

  -- the order of the line was done, and those of the others after it
  pub goes_on : (bytes : Option (List ℕ)) (text : List ℕ) (left : Option (List ℕ)) → ReadsLine bytes (Some text) left → (order : Order) → LineAsksFor folder text order
      → (later : Custody V S g database) (told : ℕ) (out err : Option (List ℕ))
      → HasDoneOrder held shown order old later told (record { before = output.before; after = out }) (record { before = errors.before; after = err }) → is_open later ≡ true
      → (lines : List (List ℕ)) → IfSome left (λ rest. lines ≡ batch_lines rest)
      → IsBatch held shown folder lines (max highest told) later new status (record { before = out; after = output.after }) (record { before = err; after = errors.after }) → IsBatchOf bytes
  goes_on bytes text left reads order asks later told out err done works lines known others = (
    text ∷ lines,
    read_first bytes text left lines asks.1.fits reads known,
    inr (inr (order, asks, (later, told, out, err, done, (λ _. others), (λ closed. absurd (let no : true ≡ false = sym works ∙ closed in cc))))),
  )
