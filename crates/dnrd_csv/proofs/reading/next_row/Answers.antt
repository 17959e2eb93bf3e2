use Rattle.std.proofs.Common.{List, ℕ, ◌++◌, ◌∙◌, ap, refl, rules, subst, sym}
use Rattle.csv.specs.Records.{fields_of}
use Rattle.dnrd_csv.specs.Text.{IsRow, row_text}
use Rattle.dnrd_csv.proofs.Records.{at_next, none_read, read_front}
use Rattle.dnrd_csv.proofs.reading.next_row.Goals as goal

pub returns-then-not-found-clause-refused : goal.returns-then-not-found-clause-refused
returns-then-not-found-clause-refused c =
    let read = rw c.if-not-found.true at c.in_ok-found.ensures.reads c.requires.untrimmed c.requires.ready in
    (refl, none_read c.args.reader.now c.read_byte_record.new.self (fields_of c.read_byte_record.new.row) c.args.text.now c.requires read)

pub returns-then-not-is_row-clause-refused : goal.returns-then-not-is_row-clause-refused
returns-then-not-is_row-clause-refused c = (
  refl,
  λ row rest in_form is.
      let read = rw c.if-not-found.false at c.in_ok-found.ensures.reads c.requires.untrimmed c.requires.ready in
      let same = read_front c.args.reader.now c.read_byte_record.new.self (fields_of c.read_byte_record.new.row) c.args.text.now c.requires read row rest in_form is in
      cc (c.if-not-is_row.ensures.1 (subst (λ (r : List (List ℕ)). IsRow r) (sym same) in_form)),
)

pub returns-in-Some-clause-at : goal.returns-in-Some-clause-at
returns-in-Some-clause-at c =
    let read = rw c.if-not-found.false at c.in_ok-found.ensures.reads c.requires.untrimmed c.requires.ready in
    let row = c.if-not-is_row.ensures.0 (search rules) in
    let text = rw (c.deref.ensures.value, c.in_ok-spell.ensures) at c.in-Some.ensures.some in
    at_next c.args.reader.now c.read_byte_record.new.self (fields_of c.read_byte_record.new.row) c.args.text.now c.in-Some.rest.now c.requires read
    (c.in_ok-found.ensures.ready c.requires.untrimmed) row text

pub returns-in-None-clause-refused : goal.returns-in-None-clause-refused
returns-in-None-clause-refused c = (
  refl,
  λ row rest in_form is.
      let read = rw c.if-not-found.false at c.in_ok-found.ensures.reads c.requires.untrimmed c.requires.ready in
      let same = read_front c.args.reader.now c.read_byte_record.new.self (fields_of c.read_byte_record.new.row) c.args.text.now c.requires read row rest in_form is in
      let spelled = ap row_text (sym same) ∙ sym (c.deref.ensures.value ∙ c.in_ok-spell.ensures) in
      cc (c.in-None.ensures.only rest (is ∙ ap (λ (t : List ℕ). t ++ rest) spelled)),
)
