use Rattle.std.proofs.Common.{◌≡◌, take}
use Rattle.dnrd_csv.specs.inside.RowKeys.{borrowed_texts}
use Rattle.deposit_verify.specs.References.{column}
use Rattle.deposit_tables.proofs.changes.sorted_keys.Given as goal

abbrev pub invariant-loop-row : goal.invariant-loop-row
invariant-loop-row l = borrowed_texts l.keys.items ≡ take l.row (column 0 l.rows)
