use Rattle.std.proofs.Common.{◌≢◌, ◌∙◌, [], ap, refl, sym, take}
use Rattle.deposit_name.specs.Tables.{has_deletes}
use Rattle.deposit_name.specs.declared.table.TableName.{TableName}
use Rattle.dnrd_csv.specs.Table.{columns_of}
use Rattle.dnrd_csv.specs.Text.{key_rows}
use Rattle.deposit_tables.specs.inside.Changing.{keys_of_table}
use Rattle.deposit_tables.specs.inside.Packing.{text_rows}
use Rattle.deposit_tables.proofs.ChangesPacked.{is_none, is_some, keys_at, may_delete, named_as, read_written, some_rows, text_pushed, texts_kept}
use Rattle.deposit_tables.proofs.whole.deletes_texts.Goals as goal
use Rattle.deposit_tables.proofs.whole.deletes_texts.Goals.{then-not-is_empty+in_ok-write+in_ok-push, else-not-is_empty}

pub loop-place-preserved : goal.loop-place-preserved
loop-place-preserved c =
    let deletes = c.args.deletes.now in
    let rows_in = λ (name : TableName). key_rows (keys_of_table deletes name) in
    let place = c.loop-place.place in
    elim c.if-not-is_empty.branch [
      | then-not-is_empty+in_ok-write+in_ok-push w ↦
          let name = w.table_name_at-name.result in
          let at = keys_at deletes name place c.index-deletes-place.result c.requires.eight c.loop-place-test.true w.table_name_at-name.ensures c.index-deletes-place.is in
          let keys = w.index-deletes-place-then-not-is_empty.result in
          let is = keys_at deletes name place keys c.requires.eight c.loop-place-test.true w.table_name_at-name.ensures w.index-deletes-place-then-not-is_empty.is in
          let filled : keys_of_table deletes name ≢ [] = λ none. is_some c.index-deletes-place.result (sym c.is_empty.ensures ∙ w.if-not-is_empty.true) (at ∙ none) in
          let keyed = may_delete (has_deletes name) (keys_of_table deletes name) (c.requires.none name) filled in
          rw w.texts-is
          (text_pushed text_rows rows_in c.loop-place.texts.items _ _ place name c.loop-place.invariant w.table_name_at-name.ensures w.in_ok-push.ensures.items
          (named_as _ name (rows_in name) refl (read_written c.law_table_reader.ensures (take 1 (columns_of name)) 1 _ w.new-text.result.items (key_rows keys) (rows_in name) (c.requires.in_form name keyed) w.new-text.ensures.items w.in_ok-write.ensures
          (ap key_rows is)))
          (some_rows (keys_of_table deletes name) filled))
      | else-not-is_empty w ↦
          rw w.texts-is
          (texts_kept rows_in _ place c.loop-place.invariant
          (λ name here. ap key_rows (sym (keys_at deletes name place c.index-deletes-place.result c.requires.eight c.loop-place-test.true here c.index-deletes-place.is)
          ∙ is_none c.index-deletes-place.result (sym c.is_empty.ensures ∙ w.if-not-is_empty.false))))
    ]
