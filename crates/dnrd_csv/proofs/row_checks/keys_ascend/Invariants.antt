use Rattle.std.proofs.Common.{◌≤◌, take}
use Rattle.dnrd_csv.specs.inside.RowKeys.{Ascend, keys_of}
use Rattle.dnrd_csv.proofs.row_checks.keys_ascend.Given as goal

abbrev pub invariant-loop-i : goal.invariant-loop-i
invariant-loop-i l = (1 ≤ l.i) × Ascend (take l.i (keys_of l.key l.rows))
