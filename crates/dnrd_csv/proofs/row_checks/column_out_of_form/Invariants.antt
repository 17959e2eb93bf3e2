use Rattle.std.proofs.Common.{[], get_or, take}
use Rattle.std.specs.List.{AllZip}
use Rattle.dnrd_csv.specs.Form.{HasForm}
use Rattle.dnrd_csv.proofs.row_checks.column_out_of_form.Given as goal

abbrev pub invariant-loop-column : goal.invariant-loop-column
invariant-loop-column l = AllZip HasForm (take l.column l.columns) (take l.column (get_or l.rows l.i []))
