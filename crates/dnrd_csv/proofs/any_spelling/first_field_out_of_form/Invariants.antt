use Rattle.std.proofs.Common.{◌<◌, [], ℕ, get_or}
use Rattle.csv.specs.Records.{fields_of}
use Rattle.dnrd_csv.specs.Form.{HasForm}
use Rattle.dnrd_csv.proofs.any_spelling.first_field_out_of_form.Given as goal

abbrev pub invariant-loop-i : goal.invariant-loop-i
invariant-loop-i l = (k : ℕ) → k < l.i → HasForm l.form (get_or (fields_of l.fields) k [])
