-- The first place that is found, for private clauses.
use Rattle.std.specs.Prelude.{◌<◌, ℕ, All, List, MatchOption, Option, length}
use Rattle.deposit_name.specs.declared.table.TableName.{TableName}
use Rattle.envelope.specs.declared.envelope.Count.{Count}
use Rattle.deposit_verify.specs.declared.breaches.Breach.{Breach}
use Rattle.deposit_verify.specs.declared.breaches.Rule.{Rule}
use Rattle.deposit_verify.specs.declared.tables_reason.TablesReason.{TablesReason}
use Rattle.deposit_verify.specs.declared.tables_reason.TablesReason.TheVariants as reason
use Rattle.deposit_verify.specs.TablesReasons.{IsFirstBreach, IsFirstNoKey, IsFirstWrong, IsKept, IsKeptAt, row_numbers, said_counts}

-- the first row that breaks a rule
pub record IsFirstRow (tables : TableName → List (List (List ℕ))) (r : Rule) (row : ℕ) : Type 0 where
  pub inside : row < length (tables r.table)
  pub broken : ¬ IsKeptAt tables r row
  pub before : (other : ℕ) → other < row → IsKeptAt tables r other

-- the first place that breaks one of some rules, where there is one
abbrev pub IsFirstFound : (TableName → List (List (List ℕ))) → List Rule → Option Breach → Type 0
IsFirstFound tables rules found = MatchOption found (All (IsKept tables) rules) (IsFirstBreach tables rules)

-- why a full deposit with these counts and tables fails its check
abbrev pub IsTablesReason : List Count → (TableName → List (List (List ℕ))) → TablesReason → Type 0
IsTablesReason counts tables (reason.Count wrong) = IsFirstWrong (row_numbers tables) (said_counts counts) wrong
IsTablesReason counts tables (reason.Reference missing) = IsFirstNoKey tables missing
