use Rattle.std.proofs.Common.{◌≡◌, ◌%◌, ◌∙◌, [], List, ℕ, arith, get_or, length, subst, sym}
use Rattle.std.proofs.lemmas.Option.{MatchOption-at_none, MatchOption-at_some}
use Rattle.std.proofs.lemmas.Result.{err_from_is_err_and}
use Rattle.csv.specs.Records.{fields_of}
use Rattle.dnrd_csv.specs.AnySpelling.{rows_below_header}
use Rattle.dnrd_csv.specs.inside.Spellings.{rows_cut}
use Rattle.dnrd_csv.specs.Table.{HaveDistinctKeys, HaveForms, HaveWidth, IsFirstOutOfForm, IsFirstRepeat}
use Rattle.dnrd_csv.proofs.FormTexts.{table_of_forms}
use Rattle.dnrd_csv.proofs.Tables.{out_of_form_rows, repeat_rows}
use Rattle.dnrd_csv.proofs.WidthLemmas.{cut_rows}
use Rattle.dnrd_csv.proofs.any_spelling.read_any_rows.Goals as goal
use Rattle.dnrd_csv.proofs.any_spelling.read_any_rows.Goals.{In_ok-fields}

-- the fields are those of the rows, and cut again they are the rows
cut : (c : In_ok-fields) → (length (fields_of c.in_ok-fields.fields) % length c.args.columns.now ≡ 0)
    × (rows_cut (length c.args.columns.now) (fields_of c.in_ok-fields.fields) ≡ rows_below_header c.args.has_header c.args.text.now)
cut c =
    cut_rows (length c.args.columns.now) (rows_below_header c.args.has_header c.args.text.now) (fields_of c.in_ok-fields.fields) (omega (arith, c.requires.some, c.requires.within))
    c.in_ok-fields.ensures.width c.in_ok-fields.ensures.fields

pub rows_of-requires-clause-fits : goal.rows_of-requires-clause-fits
rows_of-requires-clause-fits c =
    (cut ((goal.at.rows_of-requires-clause-fits c).In_ok-fields)).0

pub returns-in_err-rows-clause-refused : goal.returns-in_err-rows-clause-refused
returns-in_err-rows-clause-refused c =
    let told = err_from_is_err_and c.from_residual-in_err-rows.result c.from_residual-in_err-rows.ensures.1 in
    let refused = rw (cut ((goal.at.returns-in_err-rows-clause-refused c).In_ok-fields)).1 at c.in_err-rows.ensures.refused in
    rw (told.1, told.2) (refused c.args.key)

pub returns-in-Some-clause-refused : goal.returns-in-Some-clause-refused
returns-in-Some-clause-refused c =
    let columns = c.args.columns.now in
    let rows = c.in_ok-rows.rows in
    let row = c.in-Some.row in
    let column = c.in-Some.column in
    let field : c.in_ok-field.field.items ≡ get_or (get_or rows row []) column [] = c.in_ok-field.ensures.items_if_clones_equal (λ one other e. e) ∙ c.field.ensures in
    let first = subst (λ (t : List ℕ). IsFirstOutOfForm columns rows row column t) (sym field) c.in-Some.ensures.some in
    subst (λ (r : List (List (List ℕ))). HaveWidth (length columns) r × ¬ HaveForms columns r × IsFirstOutOfForm columns r row column c.in_ok-field.field.items)
    (c.in_ok-rows.ensures.rows ∙ (cut ((goal.at.returns-in-Some-clause-refused c).In_ok-fields)).1) (c.in_ok-rows.ensures.width, out_of_form_rows columns rows row column c.in_ok-field.field.items first, first)

pub returns-in-Some-2-clause-refused : goal.returns-in-Some-2-clause-refused
returns-in-Some-2-clause-refused c =
    let columns = c.args.columns.now in
    let key = c.args.key in
    let rows = c.in_ok-rows.rows in
    let row = c.in-Some-2.row in
    let earlier = c.in-Some-2.earlier in
    let first = MatchOption-at_some (HaveDistinctKeys key rows) (λ place. IsFirstRepeat key rows place.0 place.1) (row, earlier) c.in-Some-2.is c.in_ok-row.ensures in
    subst (λ (r : List (List (List ℕ))). HaveWidth (length columns) r × HaveForms columns r × ¬ HaveDistinctKeys key r × IsFirstRepeat key r row earlier)
    (c.in_ok-rows.ensures.rows ∙ (cut ((goal.at.returns-in-Some-2-clause-refused c).In_ok-fields)).1) (c.in_ok-rows.ensures.width, c.in_default.ensures.none, repeat_rows key rows row earlier first, first)

pub returns-clause-rows : goal.returns-clause-rows
returns-clause-rows c =
    c.in_ok-rows.ensures.rows ∙ (cut ((goal.at.returns-clause-rows c).In_ok-fields)).1

pub returns-clause-ok : goal.returns-clause-ok
returns-clause-ok c =
    let rows = c.in_ok-rows.rows in
    let distinct = MatchOption-at_none (HaveDistinctKeys c.args.key rows) (λ place. IsFirstRepeat c.args.key rows place.0 place.1) c.in_default-2.is c.in_ok-row.ensures in
    table_of_forms c.args.columns.now c.args.key rows c.requires.begins c.in_ok-rows.ensures.width c.in_default.ensures.none distinct
