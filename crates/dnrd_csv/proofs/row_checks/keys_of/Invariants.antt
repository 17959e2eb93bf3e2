use Rattle.std.proofs.Common.{◌≡◌, map, take}
use Rattle.dnrd_csv.specs.inside.RowKeys.{keys_of, borrowed_texts}
use Rattle.dnrd_csv.proofs.row_checks.keys_of.Given as goal

abbrev pub invariant-loop-i : goal.invariant-loop-i
invariant-loop-i l = map borrowed_texts l.keys.items ≡ take l.i (keys_of l.key l.rows)
