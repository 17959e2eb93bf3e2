use Rattle.std.proofs.Common.{◌≤◌, map, take}
use Rattle.dnrd_csv.specs.inside.RowKeys.{Ascend, borrowed_texts}
use Rattle.dnrd_csv.proofs.row_checks.ascend.Given as goal

abbrev pub invariant-loop-i : goal.invariant-loop-i
invariant-loop-i l = (1 ≤ l.i) × Ascend (take l.i (map borrowed_texts l.keys))
