use Rattle.std.proofs.Common.{◌≡◌, All, map, take}
use Rattle.deposit_pack.specs.Packable.{AreTableRows}
use Rattle.deposit_pack.specs.PackErrors.{HasOwnHeader}
use Rattle.deposit_verify.specs.declared.files_reason.FileList.TheVariants.{Contents}
use Rattle.std.specs.Prelude.{IsTrue}
use Rattle.deposit_pack.specs.Packing.{named_rows, rows_of}
use Rattle.deposit_pack.proofs.source_reading.read_contents.Given as goal

abbrev pub invariant-loop-place : goal.invariant-loop-place
invariant-loop-place l = record {
  headed : IsTrue l.has_headers → All (HasOwnHeader Contents) (take l.place l.contents);
  rows : l.tables.items ≡ rows_of (map (named_rows l.has_headers) (take l.place l.contents));
  right : All AreTableRows (map (named_rows l.has_headers) (take l.place l.contents));
}
