-- The numbers of volumes, as texts.
use Rattle.std.specs.Prelude.{◌≡◌, ℕ, ◌^◌, ◌<◌, List}
use Rattle.custody_records.specs.RowsOfRecords.{digits_of}

-- the number of a volume, as 16 lower-case hexadecimal digits
abbrev pub ShowsNumber : List ℕ → ℕ → Type 0
ShowsNumber text n = (n < 2 ^ 64) × (text ≡ digits_of n)
