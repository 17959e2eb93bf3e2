use Rattle.std.proofs.Common.{◌<◌, arith, length}
use Rattle.csv.specs.Records.{fields_of}
use Rattle.dnrd_csv.specs.inside.RowKeys.{borrowed_texts}
use Rattle.deposit_tables.specs.RowsAfter.{is_kept}
use Rattle.deposit_tables.proofs.RowsKept.{kept_more}
use Rattle.deposit_tables.proofs.rows.push_kept.Goals as goal

pub loop-row-preserved : goal.loop-row-preserved
loop-row-preserved c =
    let inside : c.loop-row.row < length c.args.rows.now = omega (arith, c.loop-row-test.true, c.len-row-end.ensures) in
    record {
      so_far = kept_more (is_kept (borrowed_texts c.args.renewed.now)) c.args.rows.now c.loop-row.row (fields_of c.args.fields.now) (fields_of c.loop-row.fields) (fields_of c.push_if_kept.new.fields) inside
          c.loop-row.invariant.so_far c.in_ok-push_if_kept.ensures.fields;
      partial = c.in_ok-push_if_kept.ensures.partial;
    }
