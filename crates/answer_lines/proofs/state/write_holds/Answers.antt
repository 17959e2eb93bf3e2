use Rattle.std.proofs.Common.{arith, map, subst}
use Rattle.std.proofs.KnownBytes.{Appends-nil}
use Rattle.std.specs.Io.KnownBytes.{Appends}
use Rattle.desk.specs.Lines.{AppendsBeginning}
use Rattle.custody_records.specs.MemoryRecords.{records_of}
use Rattle.custody_records.specs.TypedRecords.{hold_key, hold_value}
use Rattle.answer_lines.specs.Lines.{line_text}
use Rattle.answer_lines.specs.Printing.{as_line}
use Rattle.answer_lines.specs.declared.lines.Line.{Line}
use Rattle.answer_lines.specs.State.{hold_line, lines_text}
use Rattle.answer_lines.proofs.Beginnings.{whole_begins}
use Rattle.answer_lines.proofs.PrintLemmas.{are_lines, rows_more}
use Rattle.answer_lines.proofs.StateLemmas.{table_begins, table_whole}
use Rattle.answer_lines.proofs.state.write_holds.Goals as goal

pub loop-hold-init : goal.loop-hold-init
loop-hold-init g c = Appends-nil (g.W.Write.contents c.args.out.now)

pub loop-hold-preserved : goal.loop-hold-preserved
loop-hold-preserved g c =
    rows_more _ _ (are_lines hold_key hold_value hold_line) (g.W.Write.contents c.args.out.now) (g.W.Write.contents c.loop-hold.out) (g.W.Write.contents c.write_line.new.out) c.holds-hold-items.result.now c.loop-hold.hold-index c.hold-item.result (omega arith) c.hold-item.is
    c.loop-hold.invariant (subst (λ (l : Line). Appends (g.W.Write.contents c.loop-hold.out) (g.W.Write.contents c.write_line.new.out) (as_line (line_text l))) c.hold_line.ensures c.in_ok-write_line.ensures.whole)

pub returns-in_err-write_line-clause-begun : goal.returns-in_err-write_line-clause-begun
returns-in_err-write_line-clause-begun g c =
    let mid = g.W.Write.contents c.loop-hold.out in
    let new = g.W.Write.contents c.write_line.new.out in
    table_begins hold_key hold_value (λ entries. lines_text (map hold_line entries)) _ (are_lines hold_key hold_value hold_line) (records_of c.args.records.now).holds
    c.holds-hold-items.result.now c.holds-hold-items.ensures.all c.holds-hold-items.ensures.rising
    (g.W.Write.contents c.args.out.now) mid new c.loop-hold.hold-index c.hold-item.result (omega arith) c.hold-item.is c.loop-hold.invariant
    (subst (λ (l : Line). AppendsBeginning mid new (as_line (line_text l))) c.hold_line.ensures c.write_line.ensures.begun)

pub returns-clause-whole : goal.returns-clause-whole
returns-clause-whole g c =
    table_whole hold_key hold_value (λ entries. lines_text (map hold_line entries)) _ (are_lines hold_key hold_value hold_line) (records_of c.args.records.now).holds
    c.holds-hold-items.result.now c.holds-hold-items.ensures.all c.holds-hold-items.ensures.rising
    (g.W.Write.contents c.args.out.now) (g.W.Write.contents c.loop-hold.out) c.loop-hold.hold-index (omega arith) c.loop-hold.invariant

pub returns-clause-begun : goal.returns-clause-begun
returns-clause-begun g c = whole_begins _ _ _ (returns-clause-whole g c)
