use Rattle.std.proofs.Common.{◌≡◌, ◌∙◌, IsTrue, ap, filter, length}
use Rattle.std.proofs.lemmas.Result.{IfOk-weaker}
use Rattle.deposit_name.specs.Tables.{has_deletes}
use Rattle.dnrd_csv.specs.Table.{columns_of}
use Rattle.dnrd_csv.specs.inside.RowKeys.{borrowed_texts}
use Rattle.deposit_verify.specs.References.{column}
use Rattle.deposit_tables.specs.inside.Changing.{changed_keys_of, is_gone}
use Rattle.deposit_tables.proofs.ChangedRows.{some_wide}
use Rattle.deposit_tables.proofs.RenewedKeys.{two_columns}
use Rattle.deposit_tables.proofs.changes.gone_in.Goals as goal

pub gone_keys-requires : goal.gone_keys-requires
gone_keys-requires c = some_wide (length (columns_of c.args.name)) c.args.new.now (two_columns c.args.name) c.requires

pub returns-clause-gone : goal.returns-clause-gone
returns-clause-gone c =
    let test = is_gone (column 0 c.args.new.now) in
    IfOk-weaker c.gone_keys.result (λ gone. gone ≡ filter test (borrowed_texts c.owners_in.result.now))
    (λ gone. IsTrue (has_deletes c.args.name) → gone ≡ filter test (changed_keys_of c.args.changed.now c.args.name)) (λ gone is keyed. is ∙ ap (filter test) c.owners_in.ensures) c.gone_keys.ensures
