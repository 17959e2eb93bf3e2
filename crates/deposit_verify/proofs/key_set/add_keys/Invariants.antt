use Rattle.std.proofs.Common.{◌≡◌, ◌++◌, take}
use Rattle.dnrd_csv.specs.inside.RowKeys.{borrowed_texts}
use Rattle.deposit_verify.specs.inside.SortedKeys.{owned_texts}
use Rattle.deposit_verify.proofs.key_set.add_keys.Given as goal

abbrev pub invariant-loop-i : goal.invariant-loop-i
invariant-loop-i l = owned_texts l.keys.items ≡ owned_texts l.initial.keys.items ++ take l.i (borrowed_texts l.added)
