use Rattle.std.proofs.Common.{◌≡◌, ◌∙◌, None, Some, sym}
use Rattle.deposit_verify.specs.Bases.{reading_at}
use Rattle.deposit_verify.specs.inside.Reading.{OneReading}
use Rattle.deposit_tables.specs.inside.Restoring.{reading_in}
use Rattle.deposit_tables.proofs.TablesThen.{first_rows, full_tables, is_first, not_first, not_full}
use Rattle.deposit_tables.proofs.restoring.first_tables.Goals as goal

pub returns-in_default-clause-first : goal.returns-in_default-clause-first
returns-in_default-clause-first c =
    let one : OneReading = record { envelope = c.law_one_reading.ensures.envelope; frame = c.law_one_reading.ensures.frame } in
    let none : None ≡ reading_at c.args.joined.now = rw c.in_default.is at c.in_ok-envelope.ensures.value in
    not_first c.law_readers.ensures c.law_table_reader.ensures one c.args.joined.now (sym none)

pub returns-then-not-is_full-clause-first : goal.returns-then-not-is_full-clause-first
returns-then-not-is_full-clause-first c =
    let one : OneReading = record { envelope = c.law_one_reading.ensures.envelope; frame = c.law_one_reading.ensures.frame } in
    let r = reading_in c.in-Some.field-0 in
    let at : Some r ≡ reading_at c.args.joined.now = rw c.in-Some.is at c.in_ok-envelope.ensures.value in
    not_full c.law_readers.ensures c.law_table_reader.ensures one c.args.joined.now r (sym at) (sym c.is_full.ensures ∙ c.if-not-is_full.true)

pub returns-clause-first : goal.returns-clause-first
returns-clause-first c =
    let one : OneReading = record { envelope = c.law_one_reading.ensures.envelope; frame = c.law_one_reading.ensures.frame } in
    let r = reading_in c.in-Some.field-0 in
    let at : Some r ≡ reading_at c.args.joined.now = rw c.in-Some.is at c.in_ok-envelope.ensures.value in
    is_first c.law_readers.ensures c.law_table_reader.ensures one c.args.joined.now r (sym at) (sym c.is_full.ensures ∙ c.if-not-is_full.false)

pub returns-clause-tables : goal.returns-clause-tables
returns-clause-tables c =
    let one : OneReading = record { envelope = c.law_one_reading.ensures.envelope; frame = c.law_one_reading.ensures.frame } in
    let r = reading_in c.in-Some.field-0 in
    let at : Some r ≡ reading_at c.args.joined.now = rw c.in-Some.is at c.in_ok-envelope.ensures.value in
    let countable = rw c.in-Some.is at c.in_ok-envelope.ensures.countable in
    full_tables c.law_readers.ensures c.law_table_reader.ensures one c.args.joined.now r (sym at) (sym c.is_full.ensures ∙ c.if-not-is_full.false)
    countable.tables_count

pub returns-clause-rows : goal.returns-clause-rows
returns-clause-rows c =
    let one : OneReading = record { envelope = c.law_one_reading.ensures.envelope; frame = c.law_one_reading.ensures.frame } in
    let r = reading_in c.in-Some.field-0 in
    let at : Some r ≡ reading_at c.args.joined.now = rw c.in-Some.is at c.in_ok-envelope.ensures.value in
    first_rows c.law_readers.ensures c.law_table_reader.ensures one c.args.joined.now r (sym at) (sym c.is_full.ensures ∙ c.if-not-is_full.false)
