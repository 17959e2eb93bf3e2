use Rattle.std.proofs.Common.{map}
use Rattle.deposit_verify.specs.Tables.{table_of}
use Rattle.deposit_tables.specs.inside.Changing.{keys_of_table}
use Rattle.deposit_tables.proofs.ChangedRows.{changed_rows, gone_rows}
use Rattle.deposit_tables.proofs.changes.changes_since.Goals as goal

pub returns : goal.returns
returns c =
    let olds = map (λ old. table_of old.now) c.args.olds.now in
    let new = table_of c.args.new.now in
    let changed = c.in_ok-changed.changed in
    let contents = c.in_ok-changed_contents.field-0.items in
    let deletes = c.in_ok-changed_deletes.field-0.items in
    record {
      all = c.in_ok-changed_contents.ensures.all;
      contents = λ name. changed_rows olds new changed c.in_ok-changed.ensures name (table_of contents name) (c.in_ok-changed_contents.ensures.rows name);
      eight = c.in_ok-changed_deletes.ensures.eight;
      deletes = λ name keyed. gone_rows olds new changed c.in_ok-changed.ensures name keyed (keys_of_table deletes name) (c.in_ok-changed_deletes.ensures.gone name keyed);
      none = c.in_ok-changed_deletes.ensures.none;
    }
