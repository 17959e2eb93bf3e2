use Rattle.std.proofs.Common.{◌≡◌, ◌∙◌, None, Some, sym}
use Rattle.deposit_verify.specs.Bases.{reading_at}
use Rattle.deposit_verify.specs.inside.Reading.{OneReading}
use Rattle.deposit_tables.specs.inside.Restoring.{reading_in}
use Rattle.deposit_tables.proofs.TablesThen.{all_after, is_later, not_partial, not_read, rows_of_chain, wide_in}
use Rattle.deposit_tables.proofs.restoring.tables_then.Goals as goal

pub returns-in_default-clause-later : goal.returns-in_default-clause-later
returns-in_default-clause-later c =
    let one : OneReading = record { envelope = c.law_one_reading.ensures.envelope; frame = c.law_one_reading.ensures.frame } in
    let none : None ≡ reading_at c.args.joined.now = rw c.in_default.is at c.in_ok-whole.ensures.value in
    not_read c.law_readers.ensures c.law_table_reader.ensures one c.args.joined.now (sym none)

pub returns-then-is_full-clause-later : goal.returns-then-is_full-clause-later
returns-then-is_full-clause-later c =
    let one : OneReading = record { envelope = c.law_one_reading.ensures.envelope; frame = c.law_one_reading.ensures.frame } in
    let r = reading_in c.in-Some.whole in
    let at : Some r ≡ reading_at c.args.joined.now = rw c.in-Some.is at c.in_ok-whole.ensures.value in
    not_partial c.law_readers.ensures c.law_table_reader.ensures one c.args.joined.now r (sym at) (sym c.is_full.ensures ∙ c.if-is_full.true)

pub tables_after-requires-clause-contained : goal.tables_after-requires-clause-contained
tables_after-requires-clause-contained c =
    let one : OneReading = record { envelope = c.law_one_reading.ensures.envelope; frame = c.law_one_reading.ensures.frame } in
    let r = reading_in c.in-Some.whole in
    let at : Some r ≡ reading_at c.args.joined.now = rw c.in-Some.is at c.in_ok-whole.ensures.value in
    wide_in c.law_readers.ensures c.law_table_reader.ensures one c.args.joined.now r (sym at)

pub returns-clause-later : goal.returns-clause-later
returns-clause-later c =
    let one : OneReading = record { envelope = c.law_one_reading.ensures.envelope; frame = c.law_one_reading.ensures.frame } in
    let r = reading_in c.in-Some.whole in
    let at : Some r ≡ reading_at c.args.joined.now = rw c.in-Some.is at c.in_ok-whole.ensures.value in
    is_later c.law_readers.ensures c.law_table_reader.ensures one c.args.joined.now r (sym at) (sym c.is_full.ensures ∙ c.if-is_full.false)

pub returns-clause-tables : goal.returns-clause-tables
returns-clause-tables c =
    let one : OneReading = record { envelope = c.law_one_reading.ensures.envelope; frame = c.law_one_reading.ensures.frame } in
    let r = reading_in c.in-Some.whole in
    let at : Some r ≡ reading_at c.args.joined.now = rw c.in-Some.is at c.in_ok-whole.ensures.value in
    all_after c.law_readers.ensures c.law_table_reader.ensures one c.args.joined.now r (sym at) c.args.before.items c.in_ok-tables_after.field-0.items c.requires c.in_ok-tables_after.ensures.eight
    c.in_ok-tables_after.ensures.each

pub returns-clause-rows : goal.returns-clause-rows
returns-clause-rows c =
    let one : OneReading = record { envelope = c.law_one_reading.ensures.envelope; frame = c.law_one_reading.ensures.frame } in
    let r = reading_in c.in-Some.whole in
    let at : Some r ≡ reading_at c.args.joined.now = rw c.in-Some.is at c.in_ok-whole.ensures.value in
    rows_of_chain c.law_readers.ensures c.law_table_reader.ensures one c.args.joined.now r (sym at) c.args.before.items c.in_ok-tables_after.field-0.items c.requires c.in_ok-tables_after.ensures.eight
    c.in_ok-tables_after.ensures.each
