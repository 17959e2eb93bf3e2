use Rattle.std.proofs.Common.{map, take}
use Rattle.dnrd_csv.specs.inside.RowKeys.{borrowed_texts}
use Rattle.deposit_verify.specs.Tables.{table_of}
use Rattle.deposit_tables.proofs.KeysChanged.{AreChangedSince}
use Rattle.deposit_tables.proofs.changed_keys.keys_of_owner.Given as goal

abbrev pub invariant-loop-old : goal.invariant-loop-old
invariant-loop-old l = AreChangedSince (take l.old-index (map (λ old. table_of old.now) l.olds)) (table_of l.new) l.owner (borrowed_texts l.keys.items)
