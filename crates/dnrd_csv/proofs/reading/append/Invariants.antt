use Rattle.std.proofs.Common.{◌≡◌, ◌++◌, [], take}
use Rattle.csv.specs.Records.{fields_of, partial_of}
use Rattle.dnrd_csv.proofs.reading.append.Given as goal

abbrev pub invariant-loop-field : goal.invariant-loop-field
invariant-loop-field l = record {
  same : l.field-iterator.row.now ≡ l.fn.row;
  so_far : fields_of l.fields ≡ fields_of l.fn.fields ++ take l.field-iterator.at (fields_of l.fn.row);
  partial : partial_of l.fields ≡ [];
}
