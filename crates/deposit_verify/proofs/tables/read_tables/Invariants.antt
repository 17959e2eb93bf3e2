use Rattle.std.proofs.Common.{◌≡◌, ◌<◌, ℕ, [], get_or, length}
use Rattle.dnrd_csv.specs.inside.RowKeys.{borrowed_texts}
use Rattle.envelope.specs.declared.envelope.FileEntry.{FileEntry}
use Rattle.deposit_verify.specs.Deposit.{IsTableOf}
use Rattle.deposit_verify.proofs.tables.read_tables.Given as goal

abbrev pub invariant-loop-place : goal.invariant-loop-place
invariant-loop-place l = record {
  count : length l.tables.items ≡ l.place;
  each : (k : ℕ) (e : FileEntry) → k < l.place → IsTableOf (get_or l.entries k e).name (get_or (borrowed_texts l.files) k []) (get_or l.tables.items k []);
}
