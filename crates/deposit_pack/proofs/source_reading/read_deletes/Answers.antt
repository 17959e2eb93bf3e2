use Rattle.std.proofs.Common.{◌∙◌, ap, map}
use Rattle.std.proofs.lemmas.List.{map_push}
use Rattle.dnrd_csv.specs.Text.{key_rows}
use Rattle.deposit_verify.specs.declared.files_reason.FileList.TheVariants.{Deletes}
use Rattle.deposit_pack.specs.Packable.{AreKeyRows}
use Rattle.deposit_pack.specs.PackErrors.{HasOwnHeader, IsPackError}
use Rattle.deposit_pack.proofs.SourceLemmas.{each_more, error_kept, no_file, right_more, rows_more, source_error}
use Rattle.deposit_pack.proofs.source_reading.read_deletes.Goals as goal

pub returns-in_err-read_keys-clause-refused : goal.returns-in_err-read_keys-clause-refused
returns-in_err-read_keys-clause-refused c = λ a source base same headed.
    error_kept (IsPackError a source base) c.from_residual-in_err-read_keys.result c.in_err-read_keys.field-0.0 c.from_residual-in_err-read_keys.ensures.1
    (source_error a source base Deletes c.args.deletes.now c.args.has_headers c.loop-place.place no_file c.in_err-read_keys.field-0.0 same headed c.loop-place-test.true c.in_err-read_keys.ensures.refused)

pub loop-place-preserved : goal.loop-place-preserved
loop-place-preserved c =
    let h = c.args.has_headers in
    let files = c.args.deletes.now in
    let keys = c.in_ok-read_keys.field-0 in
    record {
      headed = λ h. each_more (HasOwnHeader Deletes) files c.loop-place.place no_file c.loop-place-test.true (c.loop-place.invariant.headed h) (c.in_ok-read_keys.ensures.header h);
      rows = rows_more h files c.loop-place.place no_file (map key_rows c.loop-place.deleted.items) (map key_rows c.push.new.self.items) (key_rows keys) c.loop-place-test.true c.loop-place.invariant.rows c.in_ok-read_keys.ensures.rows
          (ap (map key_rows) c.in_ok-push.ensures.items ∙ map_push key_rows c.loop-place.deleted.items keys);
      right = right_more AreKeyRows h files c.loop-place.place no_file (key_rows keys) c.loop-place-test.true c.loop-place.invariant.right c.in_ok-read_keys.ensures.rows c.in_ok-read_keys.ensures.right;
    }
