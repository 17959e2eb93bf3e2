use Rattle.std.proofs.Common.{◌≡◌, ◌∙◌, [], List, ℕ, get_or, subst, sym}
use Rattle.std.proofs.lemmas.Option.{MatchOption-at_some}
use Rattle.std.proofs.lemmas.Result.{err_from_is_err_and}
use Rattle.dnrd_csv.specs.Table.{HaveDistinctKeys, IsFirstOutOfForm, IsFirstRepeat}
use Rattle.dnrd_csv.proofs.Tables.{out_of_form_rows, refuses, repeat_rows}
use Rattle.dnrd_csv.proofs.table.read_columns.Goals as goal

pub returns-in_err-rows-clause-refused : goal.returns-in_err-rows-clause-refused
returns-in_err-rows-clause-refused c =
    let told = err_from_is_err_and c.from_residual.result c.from_residual.ensures.1 in
    rw (told.1, told.2) (refuses c.args.columns.now c.args.key c.args.text.now _ c.in_err-rows.ensures.refused)

pub returns-in-Some-clause-refused : goal.returns-in-Some-clause-refused
returns-in-Some-clause-refused c =
    let columns = c.args.columns.now in
    let rows = c.in_ok-rows.rows in
    let row = c.in-Some.row in
    let column = c.in-Some.column in
    let ok = c.in_ok-rows.ensures.ok in
    let field : c.in_ok-field.field.items ≡ get_or (get_or rows row []) column [] = c.in_ok-field.ensures.items_if_clones_equal (λ one other e. e) ∙ c.field.ensures in
    let first = subst (λ (t : List ℕ). IsFirstOutOfForm columns rows row column t) (sym field) c.in-Some.ensures.some in
    (ok.0, rows, ok.1, ok.2, out_of_form_rows columns rows row column c.in_ok-field.field.items first, first)

pub returns-in-Some-2-clause-refused : goal.returns-in-Some-2-clause-refused
returns-in-Some-2-clause-refused c =
    let rows = c.in_ok-rows.rows in
    let row = c.in-Some-2.row in
    let earlier = c.in-Some-2.earlier in
    let ok = c.in_ok-rows.ensures.ok in
    let first = MatchOption-at_some (HaveDistinctKeys c.args.key rows) (λ place. IsFirstRepeat c.args.key rows place.0 place.1) (row, earlier) c.in-Some-2.is c.in_ok-row.ensures in
    (ok.0, rows, ok.1, ok.2, c.in_default.ensures.none, repeat_rows c.args.key rows row earlier first, first)
