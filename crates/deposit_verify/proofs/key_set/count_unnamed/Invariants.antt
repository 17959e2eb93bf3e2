use Rattle.std.proofs.Common.{◌≡◌, ◌≤◌, filter, length, take}
use Rattle.dnrd_csv.specs.inside.RowKeys.{borrowed_texts}
use Rattle.deposit_verify.specs.inside.SortedKeys.{owned_texts}
use Rattle.deposit_verify.proofs.KeyCounts.{unnamed}
use Rattle.deposit_verify.proofs.key_set.count_unnamed.Given as goal

abbrev pub invariant-loop-key : goal.invariant-loop-key
invariant-loop-key l = record {
  counted : l.count ≡ length (filter (unnamed (borrowed_texts l.named)) (take l.key-index (owned_texts l.keys)));
  most : l.count ≤ l.key-index;
}
