use Rattle.std.proofs.Common.{◌≡◌, ◌<◌, ℕ, [], get_or, length}
use Rattle.dnrd_csv.specs.inside.RowKeys.{borrowed_texts}
use Rattle.dnrd_csv.specs.Text.{key_rows}
use Rattle.envelope.specs.declared.envelope.FileEntry.{FileEntry}
use Rattle.deposit_verify.specs.Deposit.{IsKeyFileOf}
use Rattle.deposit_verify.proofs.tables.read_key_files.Given as goal

abbrev pub invariant-loop-place : goal.invariant-loop-place
invariant-loop-place l = record {
  count : length l.all.items ≡ l.place;
  each : (k : ℕ) (e : FileEntry) → k < l.place → IsKeyFileOf (get_or l.entries k e).name (get_or (borrowed_texts l.files) k []) (key_rows (get_or l.all.items k []));
}
