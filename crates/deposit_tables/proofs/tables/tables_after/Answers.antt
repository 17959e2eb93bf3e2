use Rattle.std.proofs.Common.{◌≡◌, ◌∙◌, ℕ, List, ap}
use Rattle.deposit_verify.specs.Tables.{table_of}
use Rattle.deposit_tables.specs.RowsAfter.{renewed_by, rows_after, deposit_rows, tables_after}
use Rattle.deposit_tables.specs.inside.Restoring.{reading_in}
use Rattle.deposit_tables.proofs.TablesTaken.{as_before, one_taken}
use Rattle.deposit_tables.proofs.TablesThen.{at_place}
use Rattle.deposit_tables.proofs.tables.tables_after.Goals as goal

pub loop-place-preserved : goal.loop-place-preserved
loop-place-preserved c =
    let r = reading_in c.args.whole.now in
    let before = c.args.before.items in
    let tables = c.loop-place.tables.items in
    let place = c.loop-place.place in
    let name = c.table_name_at-name.result in
    let here = c.table_name_at-name.ensures in
    let rows = c.in_ok-tables.field-0 in
    let is = at_place tables name place c.index.result.now c.loop-place.invariant.count c.loop-place-test.true here c.index.ensures in
    let was = as_before before tables (λ n t. t ≡ tables_after (table_of before) r n) place name rows c.loop-place.invariant here in
    one_taken before tables (λ n t. t ≡ tables_after (table_of before) r n) place name rows c.loop-place.invariant here
    (c.in_ok-tables.ensures ∙ ap (λ (t : List (List (List ℕ))). rows_after t (deposit_rows r name) (renewed_by r name)) (is ∙ was))
