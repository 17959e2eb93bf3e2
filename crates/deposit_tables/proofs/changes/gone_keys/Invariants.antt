use Rattle.std.proofs.Common.{◌≡◌, [], filter, take}
use Rattle.csv.specs.Records.{fields_of, partial_of}
use Rattle.dnrd_csv.specs.inside.RowKeys.{borrowed_texts}
use Rattle.deposit_verify.specs.References.{column}
use Rattle.deposit_tables.specs.inside.Changing.{is_gone}
use Rattle.deposit_tables.proofs.changes.gone_keys.Given as goal

abbrev pub invariant-loop-key : goal.invariant-loop-key
invariant-loop-key l = record {
  so_far : fields_of l.fields ≡ filter (is_gone (column 0 l.rows)) (take l.key-index (borrowed_texts l.keys));
  partial : partial_of l.fields ≡ [];
}
