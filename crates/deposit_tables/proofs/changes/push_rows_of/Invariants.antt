use Rattle.std.proofs.Common.{◌≡◌, ◌++◌, [], filter, take}
use Rattle.csv.specs.Records.{fields_of, partial_of}
use Rattle.dnrd_csv.specs.inside.RowKeys.{borrowed_texts}
use Rattle.dnrd_csv.proofs.RowLemmas.{flat}
use Rattle.deposit_tables.specs.inside.Changing.{is_owned_by}
use Rattle.deposit_tables.proofs.changes.push_rows_of.Given as goal

abbrev pub invariant-loop-row : goal.invariant-loop-row
invariant-loop-row l = record {
  so_far : fields_of l.fields ≡ fields_of l.fn.fields ++ flat (filter (is_owned_by (borrowed_texts l.keys)) (take l.row l.rows));
  partial : partial_of l.fields ≡ [];
}
