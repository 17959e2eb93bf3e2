use Rattle.std.proofs.Common.{◌<◌, arith, length}
use Rattle.deposit_verify.specs.inside.SortedKeys.{owned_texts}
use Rattle.deposit_verify.proofs.KeyCounts.{add_more}
use Rattle.deposit_verify.proofs.key_set.add_keys.Goals as goal

pub loop-i-preserved : goal.loop-i-preserved
loop-i-preserved c =
    let inside : c.loop-i.i < length c.args.added.now = omega (arith, c.loop-i-test.true) in
    rw c.in_ok-push.ensures.items (add_more c.loop-i.keys.items (owned_texts c.args.keys.now.items) c.args.added.now c.loop-i.i _ _ inside c.loop-i.invariant c.in_ok-owned_copy.ensures)
