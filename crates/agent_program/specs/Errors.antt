-- What stops the program before an order is carried out: its exit status, and the line that says so.
use Rattle.std.specs.Prelude.{◌≡◌, ◌⊎◌, ◌++◌, ℕ, List, codes, string_bytes}
use Rattle.custody_machine.specs.declared.answers.Failure.TheVariants.{NoMemory, StoreFailed}
use Rattle.custody_machine.specs.Texts.{failure_text}
use Rattle.sqlite.specs.declared.error.Error.{Error}
use Rattle.sqlite.specs.declared.error.Error.TheVariants.{SqliteFailure}
use Rattle.sqlite.specs.declared.error.ErrorCode.TheVariants.{CannotOpen, DatabaseBusy, OutOfMemory}
use Rattle.answer_lines.specs.Printing.{WritesWholeAt, Writer, as_line}
use Rattle.answer_lines.specs.Statuses.{IsStatusAfter}
use Rattle.agent_program.specs.declared.errors.ProgramError.{ProgramError}
use Rattle.agent_program.specs.declared.errors.ProgramError.TheVariants as error

abbrev pub error_status : ProgramError → ℕ
error_status error.Words = 2
error_status e = 3

-- it is not of the words or the clock
abbrev pub IsOfVault : ProgramError → Type 0
IsOfVault error.Words = ⊥
IsOfVault error.Clock = ⊥
IsOfVault e = Unit {0}

-- it is one of the vault or the clock, and so ends a call with status 3
abbrev pub IsProgramFailure : ProgramError → Type 0
IsProgramFailure e = IsOfVault e ⊎ (e ≡ error.Clock)

-- the line that is printed of it, with its line feed
abbrev pub error_line : ProgramError → List ℕ
error_line error.Words = as_line (codes "error: an argument is no text")
error_line (error.File line) = string_bytes line
error_line error.Clock = as_line (codes "clock failed")
error_line (error.Failure why) = as_line (failure_text why)

-- it is told of a file or a folder, or there is no memory for the line
abbrev pub IsOfFile : ProgramError → Type 0
IsOfFile (error.File line) = Unit {0}
IsOfFile (error.Failure why) = why ≡ NoMemory
IsOfFile e = ⊥

-- the line has the path, and what is wrong with what is there
abbrev pub IsFileError : (path cause : List ℕ) → ProgramError → Type 0
IsFileError path cause (error.File line) = string_bytes line ≡ as_line (codes "file failed: " ++ path ++ codes ": " ++ cause)
IsFileError path cause (error.Failure why) = why ≡ NoMemory
IsFileError path cause e = ⊥

-- why a database is not opened
abbrev pub IsOpenError : (path : List ℕ) → Error → ProgramError → Type 0
IsOpenError path (SqliteFailure DatabaseBusy) e = IsFileError path (codes "file in use") e
IsOpenError path (SqliteFailure CannotOpen) e = IsFileError path (codes "unable to open database file") e
IsOpenError path (SqliteFailure OutOfMemory) e = e ≡ error.Failure NoMemory
IsOpenError path other e = e ≡ error.Failure StoreFailed

-- Its line goes to the errors: with status 2 it stands there whole, and whatever the status a beginning of it.
abbrev pub IsErrorPrinted : ProgramError → ℕ → Writer → Type 0
IsErrorPrinted e status errors = IsStatusAfter (error_status e) status × WritesWholeAt errors (error_line e) 2 status
