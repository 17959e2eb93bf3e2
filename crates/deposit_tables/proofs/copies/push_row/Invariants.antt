use Rattle.std.proofs.Common.{◌≡◌, ◌++◌, [], get_or, take}
use Rattle.csv.specs.Records.{fields_of, partial_of}
use Rattle.deposit_tables.proofs.copies.push_row.Given as goal

abbrev pub invariant-loop-column : goal.invariant-loop-column
invariant-loop-column l = record {
  so_far : fields_of l.fields ≡ fields_of l.fn.fields ++ take l.column (get_or l.rows l.row []);
  partial : partial_of l.fields ≡ [];
}
