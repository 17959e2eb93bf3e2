-- A reader at the start of a row, and why a text is refused.
use Rattle.std.specs.Borrow.{Bor}
use Rattle.std.specs.Prelude.{◌≡◌, ℕ, List, Some, IsUtf8}
use Rattle.std.specs.Str.{IsValidUpTo}
use Rattle.csv.specs.Reading.{Ready, default_config, reader_config, reader_state, reader_trim, source_of}
use Rattle.csv.specs.declared.parser.State.TheVariants as st
use Rattle.csv.specs.declared.reader.Reader.{Reader}
use Rattle.csv.specs.declared.reader.Trim.TheVariants as trim
use Rattle.dnrd_csv.specs.declared.errors.TableError.{TableError}
use Rattle.dnrd_csv.specs.declared.errors.TableError.TheVariants as fault
use Rattle.dnrd_csv.specs.Table.{BeginsWithNoRow, HasNoRowAt, HaveWidth, IsFirstUneven}
use Rattle.dnrd_csv.specs.Text.{IsTextOf}

-- a reader that has this text left, and stands at the start of a record
pub record IsAtRow (reader : Reader (Bor (List ℕ))) (text : List ℕ) : Type 0 where
  pub untrimmed : reader_trim reader ≡ trim.None
  pub ready : Ready reader
  pub config : reader_config reader ≡ default_config
  pub start : reader_state reader ≡ st.StartRecord
  pub source : source_of (λ bytes. Some bytes.now) reader ≡ Some text

-- no row stands at the front of a text behind so many rows, or memory ran out
abbrev pub RefusesRow : ℕ → List ℕ → TableError → Type 0
RefusesRow count text (fault.NotRows row) = (row ≡ count) × BeginsWithNoRow text
RefusesRow count text fault.OutOfMemory = Unit {0}
RefusesRow count text _ = ⊥

-- the bytes are not the text of any rows, or of rows of another width, or memory ran out
abbrev pub RefusesRows : ℕ → List ℕ → TableError → Type 0
RefusesRows width bytes (fault.NotUtf8 offset) = ¬ IsUtf8 bytes × IsValidUpTo bytes offset
RefusesRows width bytes (fault.NotRows row) = IsUtf8 bytes × ((rows : List (List (List ℕ))) → ¬ IsTextOf bytes rows) × HasNoRowAt bytes row
RefusesRows width bytes (fault.ColumnCount row fields) = IsUtf8 bytes × (rows : List (List (List ℕ))) × IsTextOf bytes rows × ¬ HaveWidth width rows × IsFirstUneven width rows row fields
RefusesRows width bytes fault.OutOfMemory = Unit {0}
RefusesRows width bytes _ = ⊥
