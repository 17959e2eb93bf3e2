use Rattle.dnrd_csv.specs.inside.RowKeys.{borrowed_texts}
use Rattle.deposit_verify.specs.Tables.{table_of}
use Rattle.deposit_tables.specs.inside.Changing.{AreAdded}
use Rattle.deposit_tables.proofs.KeysChanged.{IsSameBelow}
use Rattle.deposit_tables.proofs.changed_keys.push_changed.Given as goal

abbrev pub invariant-loop-place : goal.invariant-loop-place
invariant-loop-place l = AreAdded (borrowed_texts l.fn.keys.items) (borrowed_texts l.keys.items) (λ key. ¬ IsSameBelow (table_of l.old) (table_of l.new) l.owner l.place key)
