use Rattle.std.proofs.Common.{◌≡◌, ◌++◌, ◌∷◌, take}
use Rattle.dnrd_csv.specs.Text.{escaped_field}
use Rattle.dnrd_csv.proofs.spelling.write_field.Given as goal

abbrev pub invariant-loop-byte : goal.invariant-loop-byte
invariant-loop-byte l = l.out.items ≡ l.fn.out.items ++ 34 ∷ escaped_field (take l.byte-index l.field)
