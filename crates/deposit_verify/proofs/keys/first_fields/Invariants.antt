use Rattle.std.proofs.Common.{◌≡◌, take}
use Rattle.dnrd_csv.specs.inside.RowKeys.{borrowed_texts}
use Rattle.deposit_verify.specs.References.{column}
use Rattle.deposit_verify.proofs.keys.first_fields.Given as goal

abbrev pub invariant-loop-i : goal.invariant-loop-i
invariant-loop-i l = borrowed_texts l.keys.items ≡ take l.i (column 0 l.rows)
