use Rattle.std.proofs.Common.{◌-◌, ◌++◌, length, arith}
use Rattle.custody.proofs.Coming.{comes_more}
use Rattle.custody.proofs.receiving.drop_body.Goals as goal

pub loop-left-preserved : goal.loop-left-preserved
loop-left-preserved g c =
    let so_far = c.loop-left.invariant in
    let gives = c.in-Ok.ensures in
    let more = comes_more _ _ _ c.args.len c.loop-left.left so_far.0 c.in-Ok.piece.now (c.loop-left.left - length c.in-Ok.piece.now) (so_far.1, so_far.2) gives.3 (omega (arith, gives.1)) in
    (so_far.0 ++ c.in-Ok.piece.now, more.0, more.1)
