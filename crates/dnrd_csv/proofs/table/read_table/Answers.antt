use Rattle.std.proofs.lemmas.Result.{err_from_is_err_and}
use Rattle.dnrd_csv.specs.Table.{columns_of, key_columns_of}
use Rattle.dnrd_csv.proofs.Tables.{one_reading, refused_for_memory}
use Rattle.dnrd_csv.proofs.table.read_table.Goals as goal

pub returns-in_err-rows-clause-refused : goal.returns-in_err-rows-clause-refused
returns-in_err-rows-clause-refused c =
    let told = err_from_is_err_and c.from_residual.result c.from_residual.ensures.1 in
    rw (told.1, told.2) (rw (c.columns.ensures, c.key_columns.ensures) at c.in_err-rows.ensures.refused)

pub returns-in_err-rows-clause-only : goal.returns-in_err-rows-clause-only
returns-in_err-rows-clause-only c rows is =
    let told = err_from_is_err_and c.from_residual.result c.from_residual.ensures.1 in
    let refused = rw (c.columns.ensures, c.key_columns.ensures) at c.in_err-rows.ensures.refused in
    rw (told.1, told.2) (refused_for_memory (columns_of c.args.name) (key_columns_of c.args.name) c.args.text.now rows _ is refused)

pub returns-clause-only : goal.returns-clause-only
returns-clause-only c rows is = one_reading c.args.text.now c.in_ok-rows.rows rows c.in_ok-rows.ensures.ok.text is.text
