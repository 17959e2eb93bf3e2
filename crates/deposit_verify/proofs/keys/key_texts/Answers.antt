use Rattle.std.proofs.Common.{◌∙◌, arith}
use Rattle.std.proofs.lemmas.List.{take_all}
use Rattle.deposit_verify.proofs.Columns.{texts_next}
use Rattle.deposit_verify.proofs.keys.key_texts.Goals as goal

pub loop-i-preserved : goal.loop-i-preserved
loop-i-preserved c =
    rw c.in_ok-push.ensures.items (texts_next c.loop-i.texts.items c.key.result c.args.keys.now c.loop-i.i (omega (arith, c.loop-i-test.true, c.len-i-end.ensures)) c.loop-i.invariant c.key.ensures)

pub returns : goal.returns
returns c = c.loop-i.invariant ∙ take_all c.loop-i.i c.args.keys.now (omega (arith, c.loop-i-test.false, c.len-i-end.ensures))
