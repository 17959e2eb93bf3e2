use Rattle.std.proofs.Common.{◌≡◌, take}
use Rattle.dnrd_csv.specs.inside.RowKeys.{borrowed_texts}
use Rattle.deposit_verify.proofs.keys.key_texts.Given as goal

abbrev pub invariant-loop-i : goal.invariant-loop-i
invariant-loop-i l = borrowed_texts l.texts.items ≡ take l.i l.keys
