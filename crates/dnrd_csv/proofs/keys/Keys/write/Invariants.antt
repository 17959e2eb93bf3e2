use Rattle.std.proofs.Common.{◌≡◌, ◌++◌, take}
use Rattle.dnrd_csv.specs.Text.{key_rows, table_text}
use Rattle.dnrd_csv.proofs.keys.Keys.write.Given as goal

abbrev pub invariant-loop-i : goal.invariant-loop-i
invariant-loop-i l = l.out.items ≡ l.fn.out.items ++ table_text (key_rows (take l.i l.fn.self))
