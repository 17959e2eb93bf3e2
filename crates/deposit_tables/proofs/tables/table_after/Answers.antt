use Rattle.std.proofs.Common.{◌≡◌, ◌∙◌, [], arith}
use Rattle.dnrd_csv.specs.inside.RowKeys.{borrowed_texts}
use Rattle.deposit_tables.specs.RowsAfter.{renewed_by, deposit_rows}
use Rattle.deposit_tables.specs.inside.Restoring.{reading_in}
use Rattle.deposit_tables.proofs.RenewedKeys.{after_same}
use Rattle.deposit_tables.proofs.tables.table_after.Goals as goal

pub table_under-contained-requires-clause-none : goal.table_under-contained-requires-clause-none
table_under-contained-requires-clause-none c = c.rows_of_fields-none.ensures [] (λ k d inside. absurd (omega (arith, inside))) c.new.ensures.fields

pub returns : goal.returns
returns c =
    let r = reading_in c.args.whole.now in
    let under : c.table_under-contained.result.now ≡ deposit_rows r c.args.name = rw (c.deref.ensures.value, c.deref-2.ensures.value) at c.table_under-contained.ensures in
    rw c.deref-3.ensures.value at c.in_ok-rows_after.ensures
    ∙ after_same c.args.before.now c.table_under-contained.result.now (deposit_rows r c.args.name) (borrowed_texts c.in_ok-renewed.renewed.items) (renewed_by r c.args.name) under c.in_ok-renewed.ensures.same
