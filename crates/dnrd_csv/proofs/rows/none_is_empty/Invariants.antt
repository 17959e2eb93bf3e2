use Rattle.std.proofs.Common.{◌≢◌, ◌<◌, [], ℕ, get_or}
use Rattle.csv.specs.Records.{fields_of}
use Rattle.dnrd_csv.proofs.rows.none_is_empty.Given as goal

abbrev pub invariant-loop-i : goal.invariant-loop-i
invariant-loop-i l = (k : ℕ) → k < l.i → get_or (fields_of l.fields) k [] ≢ []
