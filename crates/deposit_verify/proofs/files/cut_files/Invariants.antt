use Rattle.std.proofs.Common.{◌<◌, ℕ}
use Rattle.dnrd_csv.specs.inside.RowKeys.{borrowed_texts}
use Rattle.deposit_verify.specs.FilesReasons.{HasOwnDigest}
use Rattle.deposit_verify.proofs.CutLemmas.{IsCut}
use Rattle.deposit_verify.proofs.files.cut_files.Given as goal

abbrev pub invariant-loop-place : goal.invariant-loop-place
invariant-loop-place l = record {
  cut : IsCut l.entries l.bytes l.place (borrowed_texts l.files.items) l.rest;
  digests : (k : ℕ) → k < l.place → HasOwnDigest l.entries l.bytes k;
}
