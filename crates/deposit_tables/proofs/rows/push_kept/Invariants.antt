use Rattle.std.proofs.Common.{◌≡◌, ◌++◌, [], filter, take}
use Rattle.csv.specs.Records.{fields_of, partial_of}
use Rattle.dnrd_csv.specs.inside.RowKeys.{borrowed_texts}
use Rattle.dnrd_csv.proofs.RowLemmas.{flat}
use Rattle.deposit_tables.specs.RowsAfter.{is_kept}
use Rattle.deposit_tables.proofs.rows.push_kept.Given as goal

abbrev pub invariant-loop-row : goal.invariant-loop-row
invariant-loop-row l = record {
  so_far : fields_of l.fields ≡ fields_of l.fn.fields ++ flat (filter (is_kept (borrowed_texts l.renewed)) (take l.row l.rows));
  partial : partial_of l.fields ≡ [];
}
