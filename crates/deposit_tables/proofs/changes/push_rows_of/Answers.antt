use Rattle.std.proofs.Common.{◌↔◌, ◌<◌, ◌++◌, ◌∙◌, [], Bool, Contains, IsTrue, ap, append-nil, arith, cond, get_or, length, sym}
use Rattle.csv.specs.Records.{fields_of, partial_of}
use Rattle.dnrd_csv.specs.inside.RowKeys.{borrowed_texts}
use Rattle.deposit_tables.specs.Owners.{owner_key}
use Rattle.deposit_tables.proofs.ChangedRows.{among_more, keys_sorted}
use Rattle.deposit_tables.proofs.changes.push_rows_of.Goals as goal
use Rattle.deposit_tables.proofs.changes.push_rows_of.Goals.{then-has_key+in_ok-push_row, else-has_key}

pub has_key-requires : goal.has_key-requires
has_key-requires c = keys_sorted c.args.keys.now c.requires.ascend

pub loop-row-preserved : goal.loop-row-preserved
loop-row-preserved c =
    let keys = borrowed_texts c.args.keys.now in
    let rows = c.args.rows.now in
    let row = get_or rows c.loop-row.row [] in
    let now = fields_of c.loop-row.fields in
    let inside : c.loop-row.row < length rows = omega (arith, c.loop-row-test.true, c.len-row-end.ensures) in
    let told : IsTrue c.has_key.result ↔ Contains keys (owner_key row) = rw c.field.ensures at c.has_key.ensures in
    elim c.if-has_key.branch [
      | then-has_key+in_ok-push_row w ↦ record {
        so_far = among_more keys rows c.loop-row.row c.has_key.result (fields_of c.args.fields.now) now (fields_of c.if-has_key.fields) inside told c.loop-row.invariant.so_far
            (ap fields_of w.fields-is ∙ w.in_ok-push_row.ensures.fields ∙ ap (λ (b : Bool). now ++ cond b row []) (sym w.if-has_key.true));
        partial = ap partial_of w.fields-is ∙ w.in_ok-push_row.ensures.partial;
      }
      | else-has_key w ↦ record {
        so_far = among_more keys rows c.loop-row.row c.has_key.result (fields_of c.args.fields.now) now (fields_of c.if-has_key.fields) inside told c.loop-row.invariant.so_far
            (ap fields_of w.fields-is ∙ sym (append-nil now) ∙ ap (λ (b : Bool). now ++ cond b row []) (sym w.if-has_key.false));
        partial = ap partial_of w.fields-is ∙ c.loop-row.invariant.partial;
      }
    ]
