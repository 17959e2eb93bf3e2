use Rattle.std.proofs.Common.{◌≡◌, ◌++◌, ◌-◌, drop, map, take}
use Rattle.std.specs.List.{join_with_byte}
use Rattle.csv.specs.Records.{fields_of}
use Rattle.dnrd_csv.specs.Text.{field_text}
use Rattle.dnrd_csv.proofs.spelling.write_row.Given as goal

abbrev pub invariant-loop-i : goal.invariant-loop-i
invariant-loop-i l = l.out.items ≡ l.fn.out.items ++ join_with_byte 44 (map field_text (take (l.i - l.fn.from) (take (l.fn.end - l.fn.from) (drop l.fn.from (fields_of l.fn.fields)))))
