-- A reader of rows in any spelling, and why it stops.
use Rattle.std.specs.Borrow.{Bor}
use Rattle.std.specs.Prelude.{◌≡◌, ◌/◌, ◌+◌, ℕ, List, [], ◌∷◌, Option, Some, None, ⊤, length}
use Rattle.csv.specs.Reading.{Ready, default_config, reader_config, reader_state, reader_trim, records_from, source_of}
use Rattle.csv.specs.declared.parser.State.{State}
use Rattle.csv.specs.declared.reader.Reader.{Reader}
use Rattle.csv.specs.declared.reader.Trim.TheVariants as trim
use Rattle.dnrd_csv.specs.declared.errors.TableError.{TableError}
use Rattle.dnrd_csv.specs.declared.errors.TableError.TheVariants as fault
use Rattle.dnrd_csv.specs.declared.form.Form.{Form}
use Rattle.dnrd_csv.specs.declared.form.Form.TheVariants as form
use Rattle.dnrd_csv.specs.inside.Rows.{rows_from}
use Rattle.dnrd_csv.specs.Table.{HaveWidth, IsFirstUneven}

-- a reader of rows over bytes in memory
pub record IsRowReader (reader : Reader (Bor (List ℕ))) : Type 0 where
  pub untrimmed : reader_trim reader ≡ trim.None
  pub ready : Ready reader
  pub config : reader_config reader ≡ default_config
  pub left : List ℕ
  pub source : source_of (λ bytes. Some bytes.now) reader ≡ Some left

-- the rows of the bytes that are left
abbrev pub rows_of_left : State → Option (List ℕ) → List (List (List ℕ))
rows_of_left state None = []
rows_of_left state (Some left) = records_from default_config (length left + 1) state left

-- the rows that a reader has left
abbrev pub rows_left : Reader (Bor (List ℕ)) → List (List (List ℕ))
rows_left reader = rows_of_left (reader_state reader) (source_of (λ bytes. Some bytes.now) reader)

-- a row is without the width, which is the first, or memory ran out
abbrev pub RefusesWidth : ℕ → List (List (List ℕ)) → TableError → Type 0
RefusesWidth width rows (fault.ColumnCount row fields) = ¬ HaveWidth width rows × IsFirstUneven width rows row fields
RefusesWidth width rows fault.OutOfMemory = Unit {0}
RefusesWidth width rows _ = ⊥

-- the rows that fields are, with so many each
abbrev pub rows_cut : ℕ → List (List ℕ) → List (List (List ℕ))
rows_cut width fields = rows_from width (length fields / width) fields

-- the first column is of ASCII and never empty
abbrev pub BeginsWithKey : List Form → Type 0
BeginsWithKey (form.HostName ∷ columns) = ⊤
BeginsWithKey (form.Id ∷ columns) = ⊤
BeginsWithKey _ = ⊥
