use Rattle.std.proofs.Common.{◌<◌, ◌∙◌, [], arith, length, sym}
use Rattle.std.proofs.lemmas.List.{take_all}
use Rattle.deposit_verify.proofs.Columns.{get_or-column, length-column, texts_next}
use Rattle.deposit_verify.specs.References.{column}
use Rattle.deposit_verify.proofs.keys.first_fields.Goals as goal

pub loop-i-preserved : goal.loop-i-preserved
loop-i-preserved c =
    let rows = c.args.rows.now in
    let inside : c.loop-i.i < length rows = omega (arith, c.loop-i-test.true, c.len-i-end.ensures) in
    rw c.in_ok-push.ensures.items (texts_next c.loop-i.keys.items c.field.result (column 0 rows) c.loop-i.i (omega (arith, inside, length-column 0 rows)) c.loop-i.invariant
    (c.field.ensures ∙ sym (get_or-column 0 rows c.loop-i.i [] inside)))

pub returns : goal.returns
returns c =
    let rows = c.args.rows.now in
    c.loop-i.invariant
    ∙ take_all c.loop-i.i (column 0 rows) (omega (arith, length-column 0 rows, c.loop-i-test.false, c.len-i-end.ensures))
