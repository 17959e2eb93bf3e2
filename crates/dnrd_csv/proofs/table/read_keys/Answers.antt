use Rattle.std.proofs.Common.{take, ◌∙◌, ap, rules}
use Rattle.std.proofs.lemmas.Result.{err_from_is_err_and}
use Rattle.dnrd_csv.specs.Table.{columns_of}
use Rattle.dnrd_csv.specs.Text.{key_rows}
use Rattle.dnrd_csv.proofs.Tables.{one_reading, refused_for_memory}
use Rattle.dnrd_csv.proofs.table.read_keys.Goals as goal

pub returns-in_err-rows-clause-only : goal.returns-in_err-rows-clause-only
returns-in_err-rows-clause-only c rows is =
    let told = err_from_is_err_and c.from_residual.result c.from_residual.ensures.1 in
    let refused = rw c.columns.ensures at c.in_err-rows.ensures.refused in
    rw (told.1, told.2) (refused_for_memory (take 1 (columns_of c.args.name)) 1 c.args.text.now rows _ is refused)

pub returns-clause-only : goal.returns-clause-only
returns-clause-only c rows is =
    ap key_rows c.from_fields.ensures ∙ c.into_fields.ensures.keys (search rules) ∙ one_reading c.args.text.now c.in_ok-rows.rows rows c.in_ok-rows.ensures.ok.text is.text
