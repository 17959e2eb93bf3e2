use Rattle.std.proofs.Common.{ap, arith, length}
use Rattle.dnrd_csv.specs.inside.Spellings.{rows_left}
use Rattle.dnrd_csv.proofs.AnyRecords.{few_rows}
use Rattle.dnrd_csv.proofs.any_spelling.fields_below_header.Goals as goal
use Rattle.dnrd_csv.proofs.any_spelling.fields_below_header.Goals.{else-has_header-via-then-has_header+in_ok-next_row+else-not-branch, else-has_header-via-else-has_header}

pub read_fields-requires-clause-few : goal.read_fields-requires-clause-few
read_fields-requires-clause-few c =
    let few = few_rows c.args.text.now in
    elim c.else-has_header.branch [
      | else-has_header-via-then-has_header+in_ok-next_row+else-not-branch w ↦ omega (arith, ap (λ r. length (rows_left r)) w.reader-is, ap length (w.in_ok-next_row.ensures.row w.if-not-branch.false), ap length c.reader_of-reader.ensures.rows, few)
      | else-has_header-via-else-has_header w ↦ omega (arith, ap (λ r. length (rows_left r)) w.reader-is, ap length c.reader_of-reader.ensures.rows, few)
    ]
