use Rattle.std.proofs.Common.{◌∙◌, length, sym}
use Rattle.csv.specs.Records.{fields_of}
use Rattle.dnrd_csv.specs.inside.Spellings.{rows_left}
use Rattle.dnrd_csv.proofs.WidthLemmas.{gathered_more, gathered_uneven, not_wide}
use Rattle.dnrd_csv.proofs.any_spelling.read_fields.Goals as goal

pub returns-then-len-width-clause-refused : goal.returns-then-len-width-clause-refused
returns-then-len-width-clause-refused c =
    let rows = rows_left c.args.reader.now in
    let row = fields_of c.next_row.new.row in
    let first = gathered_uneven c.args.width rows c.loop-fields.reader c.loop-fields.fields c.loop-fields.count row (rows_left c.next_row.new.reader) c.loop-fields.invariant
    (c.in_ok-next_row.ensures.row c.if-branch.true) (λ e. c.if-len-width.true (c.len.ensures ∙ e)) in
    rw c.len-fields.ensures (not_wide c.args.width rows c.loop-fields.count (length row) first, first)

pub loop-fields-preserved : goal.loop-fields-preserved
loop-fields-preserved c =
    gathered_more c.args.width (rows_left c.args.reader.now) c.loop-fields.reader c.next_row.new.reader c.loop-fields.fields c.append.new.fields c.loop-fields.count
    (fields_of c.next_row.new.row) c.loop-fields.invariant (c.in_ok-next_row.ensures.reading c.if-branch.true) (c.in_ok-next_row.ensures.row c.if-branch.true)
    (sym c.len.ensures ∙ c.if-len-width.false) c.in_ok-append.ensures.fields c.in_ok-append.ensures.partial
