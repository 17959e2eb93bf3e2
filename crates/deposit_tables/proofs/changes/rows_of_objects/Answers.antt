use Rattle.std.proofs.Common.{◌++◌, ◌∙◌, List, ℕ, ap, filter, subst, sym}
use Rattle.dnrd_csv.specs.Table.{HaveWidth}
use Rattle.dnrd_csv.specs.inside.RowKeys.{borrowed_texts}
use Rattle.dnrd_csv.proofs.RowLemmas.{flat}
use Rattle.deposit_tables.specs.inside.Changing.{is_owned_by}
use Rattle.deposit_tables.proofs.ChangedRows.{among_sorted, among_wide}
use Rattle.deposit_tables.proofs.changes.rows_of_objects.Goals as goal

pub rows_of_fields-requires-clause-rows : goal.rows_of_fields-requires-clause-rows
rows_of_fields-requires-clause-rows c =
    let keys = borrowed_texts c.args.keys.now in
    let rows = c.args.rows.now in
    let kept = filter (is_owned_by keys) rows in
    (kept, among_wide c.args.width keys rows c.requires.width, c.in_ok-push_rows_of.ensures.fields ∙ ap (λ (t : List (List ℕ)). t ++ flat kept) c.new-fields.ensures.fields)

pub sorted_rows-requires-clause-width : goal.sorted_rows-requires-clause-width
sorted_rows-requires-clause-width c =
    let keys = borrowed_texts c.args.keys.now in
    let rows = c.args.rows.now in
    let kept = filter (is_owned_by keys) rows in
    let wide = among_wide c.args.width keys rows c.requires.width in
    subst (HaveWidth c.args.width) (sym (c.rows_of_fields.ensures kept wide (c.in_ok-push_rows_of.ensures.fields ∙ ap (λ (t : List (List ℕ)). t ++ flat kept) c.new-fields.ensures.fields))) wide

pub returns-clause-rows : goal.returns-clause-rows
returns-clause-rows c =
    let keys = borrowed_texts c.args.keys.now in
    let rows = c.args.rows.now in
    let kept = filter (is_owned_by keys) rows in
    let wide = among_wide c.args.width keys rows c.requires.width in
    let is = c.rows_of_fields.ensures kept wide (c.in_ok-push_rows_of.ensures.fields ∙ ap (λ (t : List (List ℕ)). t ++ flat kept) c.new-fields.ensures.fields) in
    among_sorted keys rows c.rows_of_fields.result c.sorted_rows-2.result is c.sorted_rows-2.ensures.ascend c.sorted_rows-2.ensures.same
