use Rattle.std.proofs.Common.{All, take}
use Rattle.std.specs.List.{AllZip}
use Rattle.dnrd_csv.specs.Form.{HasForm}
use Rattle.dnrd_csv.proofs.row_checks.first_out_of_form.Given as goal

abbrev pub invariant-loop-row : goal.invariant-loop-row
invariant-loop-row l = All (λ row. AllZip HasForm l.columns row) (take l.row l.rows)
