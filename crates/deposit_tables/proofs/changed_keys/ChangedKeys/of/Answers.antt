use Rattle.std.proofs.Common.{map}
use Rattle.deposit_verify.specs.Tables.{table_of}
use Rattle.deposit_tables.proofs.OwnersChanged.{are_changed}
use Rattle.deposit_tables.proofs.changed_keys.ChangedKeys.of.Goals as goal

pub returns : goal.returns
returns c =
    are_changed (map (λ old. table_of old.now) c.args.olds.now) (table_of c.args.new.now) _ (c.in_ok-keys_of_owner.ensures.ascend, c.in_ok-keys_of_owner.ensures.same)
    (c.in_ok-keys_of_owner-2.ensures.ascend, c.in_ok-keys_of_owner-2.ensures.same) (c.in_ok-keys_of_owner-3.ensures.ascend, c.in_ok-keys_of_owner-3.ensures.same)
    (c.in_ok-keys_of_owner-4.ensures.ascend, c.in_ok-keys_of_owner-4.ensures.same)
