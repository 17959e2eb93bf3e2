use Rattle.std.proofs.Common.{◌↔◌, ◌∙◌, ℕ, Contains, List, length, subst}
use Rattle.dnrd_csv.specs.Table.{HaveWidth, columns_of}
use Rattle.deposit_verify.specs.Tables.{table_of}
use Rattle.deposit_tables.specs.inside.Places.{AreSorted}
use Rattle.deposit_tables.proofs.TablesTaken.{as_before, one_taken}
use Rattle.deposit_tables.proofs.TablesThen.{at_place}
use Rattle.deposit_tables.proofs.restoring.sorted_tables.Goals as goal

pub loop-place-preserved : goal.loop-place-preserved
loop-place-preserved c =
    let before = c.args.tables.items in
    let sorted = c.loop-place.sorted.items in
    let place = c.loop-place.place in
    let name = c.table_name_at-name.result in
    let here = c.table_name_at-name.ensures in
    let rows = c.in_ok-sorted.field-0 in
    let is = at_place sorted name place c.index.result.now c.loop-place.invariant.count c.loop-place-test.true here c.index.ensures in
    let was = as_before before sorted (λ n t. HaveWidth (length (columns_of n)) t × AreSorted (table_of before n) t) place name rows c.loop-place.invariant here in
    let wide : HaveWidth (length (columns_of name)) rows = rw c.columns-width.ensures at c.in_ok-sorted.ensures.width in
    let same : AreSorted (table_of before name) rows = record {
      ascend = c.in_ok-sorted.ensures.ascend;
      same = λ row. subst (λ (t : List (List (List ℕ))). Contains rows row ↔ Contains t row) (is ∙ was) (c.in_ok-sorted.ensures.same row);
    } in
    one_taken before sorted (λ n t. HaveWidth (length (columns_of n)) t × AreSorted (table_of before n) t) place name rows c.loop-place.invariant here (wide, same)
