use Rattle.std.proofs.Common.{◌<◌, ◌∙◌, ap, arith, length}
use Rattle.dnrd_csv.specs.inside.RowKeys.{borrowed_texts}
use Rattle.deposit_verify.proofs.KeyCounts.{count_more, unnamed}
use Rattle.deposit_verify.proofs.key_set.count_unnamed.Goals as goal
use Rattle.deposit_verify.proofs.key_set.count_unnamed.Goals.{then-is_unnamed, else-is_unnamed}

pub loop-key-preserved : goal.loop-key-preserved
loop-key-preserved c =
    let inside : c.loop-key.key-index < length c.args.keys.now = omega (arith, c.loop-key-test.true) in
    let tested = c.is_unnamed.ensures ∙ ap (unnamed (borrowed_texts c.args.named.now)) c.as_slice.ensures.value in
    elim c.if-is_unnamed.branch [
      | then-is_unnamed w ↦ record {
        counted = count_more (borrowed_texts c.args.named.now) c.args.keys.now c.loop-key.key-index c.loop-key.count _ c.key-item.result c.is_unnamed.result inside c.key-item.is tested c.loop-key.invariant.counted (cc);
        most = omega (arith, w.count-is, c.loop-key.invariant.most);
      }
      | else-is_unnamed w ↦ record {
        counted = count_more (borrowed_texts c.args.named.now) c.args.keys.now c.loop-key.key-index c.loop-key.count _ c.key-item.result c.is_unnamed.result inside c.key-item.is tested c.loop-key.invariant.counted (cc);
        most = omega (arith, w.count-is, c.loop-key.invariant.most);
      }
    ]
