-- The rows of a text in any spelling of CSV (RFC 4180, section 2): with quotes where none are called for, CR LF, or no line end behind the last row.
use Rattle.std.specs.Prelude.{◌≡◌, ℕ, Bool, true, false, List, Some, drop, length, slice_get}
use Rattle.csv.specs.Reading.{default_config, records, strip_bom}
use Rattle.dnrd_csv.specs.declared.errors.TableError.{TableError}
use Rattle.dnrd_csv.specs.declared.errors.TableError.TheVariants as fault
use Rattle.dnrd_csv.specs.declared.form.Form.{Form}
use Rattle.dnrd_csv.specs.Table.{HaveDistinctKeys, HaveForms, HaveWidth, IsFirstOutOfForm, IsFirstRepeat, IsFirstUneven}

-- the rows that a reader of CSV finds, behind a byte order mark; lines without a byte are none
abbrev pub rows_found : List ℕ → List (List (List ℕ))
rows_found text = records default_config (strip_bom text)

-- the same without the header row, where there is one (RFC 4180, section 2, item 3)
abbrev pub rows_below_header : Bool → List ℕ → List (List (List ℕ))
rows_below_header false text = rows_found text
rows_below_header true text = drop 1 (rows_found text)

-- the first row is these names
abbrev pub HasHeader : List (List ℕ) → List ℕ → Type 0
HasHeader names text = slice_get (rows_found text) 0 ≡ Some names

-- why rows are those of no table, and the first place of that; or memory ran out
abbrev pub RefusesTableRows : List Form → ℕ → List (List (List ℕ)) → TableError → Type 0
RefusesTableRows columns key rows (fault.NotUtf8 offset) = ⊥
RefusesTableRows columns key rows (fault.NotRows row) = ⊥
RefusesTableRows columns key rows (fault.ColumnCount row fields) = ¬ HaveWidth (length columns) rows × IsFirstUneven (length columns) rows row fields
RefusesTableRows columns key rows (fault.FieldForm row column field) =
    HaveWidth (length columns) rows × ¬ HaveForms columns rows × IsFirstOutOfForm columns rows row column field.items
RefusesTableRows columns key rows (fault.DuplicateKey row earlier) =
    HaveWidth (length columns) rows × HaveForms columns rows × ¬ HaveDistinctKeys key rows × IsFirstRepeat key rows row earlier
RefusesTableRows columns key rows fault.OutOfMemory = Unit {0}
