use Rattle.std.proofs.Common.{◌≡◌, ◌<◌, ◌∙◌, [], arith, length, sym}
use Rattle.std.proofs.lemmas.List.{take_all}
use Rattle.dnrd_csv.specs.inside.RowKeys.{borrowed_texts}
use Rattle.deposit_verify.specs.References.{column}
use Rattle.deposit_verify.proofs.Columns.{get_or-column, length-column, texts_next}
use Rattle.deposit_verify.proofs.Searches.{permuted_texts}
use Rattle.deposit_tables.proofs.changes.sorted_keys.Goals as goal

pub loop-row-preserved : goal.loop-row-preserved
loop-row-preserved c =
    let rows = c.args.rows.now in
    let inside : c.loop-row.row < length rows = omega (arith, c.loop-row-test.true, c.len-row-end.ensures) in
    rw c.in_ok-push.ensures.items (texts_next c.loop-row.keys.items c.field.result (column 0 rows) c.loop-row.row (omega (arith, inside, length-column 0 rows)) c.loop-row.invariant
    (c.field.ensures ∙ sym (get_or-column 0 rows c.loop-row.row [] inside)))

pub returns : goal.returns
returns c =
    let rows = c.args.rows.now in
    let all : borrowed_texts c.loop-row.keys.items ≡ column 0 rows =
    c.loop-row.invariant ∙ take_all c.loop-row.row (column 0 rows) (omega (arith, length-column 0 rows, c.loop-row-test.false, c.len-row-end.ensures)) in
    record {
      sorted = c.sort_unstable.ensures.sorted;
      same = rw all at (permuted_texts c.loop-row.keys.items c.sort_unstable.new.self.items c.sort_unstable.ensures.permutation);
    }
