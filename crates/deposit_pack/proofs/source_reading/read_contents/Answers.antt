use Rattle.deposit_verify.specs.declared.files_reason.FileList.TheVariants.{Contents}
use Rattle.deposit_pack.specs.Packable.{AreTableRows}
use Rattle.deposit_pack.specs.PackErrors.{HasOwnHeader, IsReadingError, IsPackError}
use Rattle.deposit_pack.proofs.SourceLemmas.{each_more, error_kept, no_file, reading_error, right_more, rows_more, source_error}
use Rattle.deposit_pack.proofs.source_reading.read_contents.Goals as goal

pub returns-in_err-read_rows-clause-refused : goal.returns-in_err-read_rows-clause-refused
returns-in_err-read_rows-clause-refused c = λ a source base same headed.
    error_kept (IsPackError a source base) c.from_residual-in_err-read_rows.result c.in_err-read_rows.field-0.0 c.from_residual-in_err-read_rows.ensures.1
    (source_error a source base Contents c.args.contents.now c.args.has_headers c.loop-place.place no_file c.in_err-read_rows.field-0.0 same headed c.loop-place-test.true c.in_err-read_rows.ensures.refused)

pub returns-in_err-read_rows-clause-file : goal.returns-in_err-read_rows-clause-file
returns-in_err-read_rows-clause-file c =
    error_kept IsReadingError c.from_residual-in_err-read_rows.result c.in_err-read_rows.field-0.0 c.from_residual-in_err-read_rows.ensures.1
    (reading_error c.args.has_headers _ _ c.in_err-read_rows.field-0.0 c.in_err-read_rows.ensures.refused)

pub loop-place-preserved : goal.loop-place-preserved
loop-place-preserved c =
    let h = c.args.has_headers in
    let files = c.args.contents.now in
    let rows = c.in_ok-read_rows.field-0 in
    record {
      headed = λ h. each_more (HasOwnHeader Contents) files c.loop-place.place no_file c.loop-place-test.true (c.loop-place.invariant.headed h) (c.in_ok-read_rows.ensures.header h);
      rows = rows_more h files c.loop-place.place no_file c.loop-place.tables.items c.push.new.self.items rows c.loop-place-test.true c.loop-place.invariant.rows c.in_ok-read_rows.ensures.rows c.in_ok-push.ensures.items;
      right = right_more AreTableRows h files c.loop-place.place no_file rows c.loop-place-test.true c.loop-place.invariant.right c.in_ok-read_rows.ensures.rows c.in_ok-read_rows.ensures.right;
    }
