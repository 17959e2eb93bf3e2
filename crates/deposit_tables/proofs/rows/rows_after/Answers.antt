use Rattle.csv.specs.Records.{fields_of}
use Rattle.dnrd_csv.specs.inside.RowKeys.{borrowed_texts}
use Rattle.deposit_tables.specs.RowsAfter.{rows_after}
use Rattle.deposit_tables.proofs.RowsKept.{after_fields, after_wide}
use Rattle.deposit_tables.proofs.rows.rows_after.Goals as goal

pub rows_of_fields-requires-clause-rows : goal.rows_of_fields-requires-clause-rows
rows_of_fields-requires-clause-rows c =
    let before = c.args.before.now in
    let contained = c.args.contained.now in
    let renewed = borrowed_texts c.args.renewed.now in (
      rows_after before contained renewed,
      after_wide c.args.width before contained renewed c.requires.before c.requires.contained,
      after_fields before contained renewed (fields_of c.in_ok-fields.fields) (fields_of c.push_kept.new.fields) (fields_of c.push_kept-2.new.fields) c.in_ok-fields.ensures.fields c.in_ok-push_kept.ensures.fields
          c.in_ok-push_kept-2.ensures.fields,
    )

pub returns : goal.returns
returns c =
    let before = c.args.before.now in
    let contained = c.args.contained.now in
    let renewed = borrowed_texts c.args.renewed.now in
    c.rows_of_fields.ensures (rows_after before contained renewed) (after_wide c.args.width before contained renewed c.requires.before c.requires.contained)
    (after_fields before contained renewed (fields_of c.in_ok-fields.fields) (fields_of c.push_kept.new.fields) (fields_of c.push_kept-2.new.fields) c.in_ok-fields.ensures.fields c.in_ok-push_kept.ensures.fields
    c.in_ok-push_kept-2.ensures.fields)
