use Rattle.std.proofs.Common.{◌≡◌, [], IsTrue, false, filter, length}
use Rattle.deposit_name.specs.Tables.{has_deletes}
use Rattle.deposit_verify.specs.References.{column}
use Rattle.deposit_verify.specs.Tables.{table_of}
use Rattle.deposit_tables.specs.inside.Changing.{changed_keys_of, is_gone}
use Rattle.deposit_tables.proofs.TablesThen.{HoldsSoFar}
use Rattle.deposit_tables.proofs.changes.changed_deletes.Given as goal

abbrev pub invariant-loop-place : goal.invariant-loop-place
invariant-loop-place l = record {
  count : length l.deletes.items ≡ l.place;
  each : HoldsSoFar l.deletes.items (λ name keys. (IsTrue (has_deletes name) → keys ≡ filter (is_gone (column 0 (table_of l.new name))) (changed_keys_of l.changed name)) × (has_deletes name ≡ false → keys ≡ [])) l.place;
}
