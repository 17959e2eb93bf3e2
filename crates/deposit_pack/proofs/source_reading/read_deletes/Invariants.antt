use Rattle.std.proofs.Common.{◌≡◌, All, map, take}
use Rattle.dnrd_csv.specs.Text.{key_rows}
use Rattle.deposit_pack.specs.Packable.{AreKeyRows}
use Rattle.deposit_pack.specs.PackErrors.{HasOwnHeader}
use Rattle.deposit_verify.specs.declared.files_reason.FileList.TheVariants.{Deletes}
use Rattle.std.specs.Prelude.{IsTrue}
use Rattle.deposit_pack.specs.Packing.{named_rows, rows_of}
use Rattle.deposit_pack.proofs.source_reading.read_deletes.Given as goal

abbrev pub invariant-loop-place : goal.invariant-loop-place
invariant-loop-place l = record {
  headed : IsTrue l.has_headers → All (HasOwnHeader Deletes) (take l.place l.deletes);
  rows : map key_rows l.deleted.items ≡ rows_of (map (named_rows l.has_headers) (take l.place l.deletes));
  right : All AreKeyRows (map (named_rows l.has_headers) (take l.place l.deletes));
}
