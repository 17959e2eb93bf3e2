-- Why a file of a registry is not read, for private clauses.
use Rattle.std.specs.Prelude.{◌≡◌, ◌≢◌, ⊤, ℕ, List, Bool, IsTrue}
use Rattle.dnrd_csv.specs.AnySpelling.{HasHeader, rows_below_header}
use Rattle.dnrd_csv.specs.declared.errors.TableError.TheVariants.{OutOfMemory}
use Rattle.deposit_verify.specs.declared.files_reason.FilePlace.{FilePlace}
use Rattle.deposit_pack.specs.PackErrors.{RefusesRowsOf, header_of}
use Rattle.deposit_pack.specs.Packing.{NamedRows}
use Rattle.deposit_pack.specs.declared.pack_error.PackError.{PackError}
use Rattle.deposit_pack.specs.declared.pack_error.PackError.TheVariants.{Header, Table, Memory}

-- the rows of the file at a place, whose text is this
abbrev pub rows_placed : Bool → FilePlace → List ℕ → NamedRows
rows_placed has_headers file text = record { name = file.name; rows = rows_below_header has_headers text }

-- what is said of the file at a place, whose text is this
abbrev pub IsSourceError : Bool → FilePlace → List ℕ → PackError → Type 0
IsSourceError has_headers file text (Header place) = (place ≡ file) × IsTrue has_headers × ¬ HasHeader (header_of file.list file.name) text
IsSourceError has_headers file text (Table t) = (t.file ≡ file) × RefusesRowsOf file.list (rows_placed has_headers file text) t.fault × (t.fault ≢ OutOfMemory)
IsSourceError has_headers file text Memory = ⊤
IsSourceError has_headers file text error = ⊥
