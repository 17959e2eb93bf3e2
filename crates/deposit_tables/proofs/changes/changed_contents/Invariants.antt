use Rattle.std.proofs.Common.{◌≡◌, Contains, length}
use Rattle.dnrd_csv.specs.Table.{HaveWidth, columns_of}
use Rattle.deposit_verify.specs.Tables.{table_of}
use Rattle.deposit_tables.specs.Owners.{owner_key}
use Rattle.deposit_tables.specs.Restored.{AreRows}
use Rattle.deposit_tables.specs.inside.Changing.{changed_keys_of}
use Rattle.deposit_tables.proofs.TablesThen.{HoldsSoFar}
use Rattle.deposit_tables.proofs.changes.changed_contents.Given as goal

abbrev pub invariant-loop-place : goal.invariant-loop-place
invariant-loop-place l = record {
  count : length l.contents.items ≡ l.place;
  each : HoldsSoFar l.contents.items (λ name rows. HaveWidth (length (columns_of name)) rows × AreRows (λ row. Contains (table_of l.new name) row × Contains (changed_keys_of l.changed name) (owner_key row)) rows) l.place;
}
