use Rattle.std.proofs.Common.{◌≢◌, ◌∙◌, [], refl, sym}
use Rattle.dnrd_csv.specs.Table.{columns_of, key_columns_of}
use Rattle.deposit_verify.specs.Tables.{table_of}
use Rattle.deposit_tables.specs.inside.Packing.{text_rows}
use Rattle.deposit_tables.proofs.ChangesPacked.{is_none, is_some, named_as, read_written, text_pushed, texts_kept}
use Rattle.deposit_tables.proofs.TablesThen.{at_place}
use Rattle.deposit_tables.proofs.whole.contents_texts.Goals as goal
use Rattle.deposit_tables.proofs.whole.contents_texts.Goals.{then-not-is_empty+in_ok-write+in_ok-push, else-not-is_empty}

pub loop-place-preserved : goal.loop-place-preserved
loop-place-preserved c =
    let tables = c.args.tables.now in
    let place = c.loop-place.place in
    elim c.if-not-is_empty.branch [
      | then-not-is_empty+in_ok-write+in_ok-push w ↦
          let name = w.table_name_at-name.result in
          let at = at_place tables name place c.index-tables-place.result c.requires.eight c.loop-place-test.true w.table_name_at-name.ensures c.index-tables-place.is in
          let rows = w.index-tables-place-then-not-is_empty.result in
          let is = at_place tables name place rows c.requires.eight c.loop-place-test.true w.table_name_at-name.ensures w.index-tables-place-then-not-is_empty.is in
          let filled : table_of tables name ≢ [] = λ none. is_some c.index-tables-place.result (sym c.is_empty.ensures ∙ w.if-not-is_empty.true) (at ∙ none) in
          rw w.texts-is
          (text_pushed text_rows (table_of tables) c.loop-place.texts.items _ _ place name c.loop-place.invariant w.table_name_at-name.ensures w.in_ok-push.ensures.items
          (named_as _ name (table_of tables name) refl (read_written c.law_table_reader.ensures (columns_of name) (key_columns_of name) _ w.new-text.result.items rows (table_of tables name) (c.requires.in_form name) w.new-text.ensures.items w.in_ok-write.ensures is))
          filled)
      | else-not-is_empty w ↦
          rw w.texts-is
          (texts_kept (table_of tables) _ place c.loop-place.invariant
          (λ name here. sym (at_place tables name place c.index-tables-place.result c.requires.eight c.loop-place-test.true here c.index-tables-place.is)
          ∙ is_none c.index-tables-place.result (sym c.is_empty.ensures ∙ w.if-not-is_empty.false)))
    ]
