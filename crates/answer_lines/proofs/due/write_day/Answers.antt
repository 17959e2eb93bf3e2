use Rattle.std.proofs.Common.{List, subst}
use Rattle.std.proofs.KnownBytes.{Appends-trans}
use Rattle.std.specs.Io.KnownBytes.{Appends}
use Rattle.desk.specs.Lines.{AppendsBeginning}
use Rattle.custody_records.specs.MemoryRecords.{records_of}
use Rattle.custody_records.specs.Keys.{PartKey}
use Rattle.custody_records.specs.Records.{PartRecord, parts_of_day}
use Rattle.custody_rules.specs.DueDays.{due_day_pair}
use Rattle.answer_lines.specs.Due.{waiting_lines}
use Rattle.answer_lines.specs.Lines.{line_text}
use Rattle.answer_lines.specs.Printing.{as_line}
use Rattle.answer_lines.specs.State.{lines_text}
use Rattle.answer_lines.specs.declared.lines.Line.TheVariants as line
use Rattle.answer_lines.proofs.Beginnings.{begins_first, begins_second}
use Rattle.answer_lines.proofs.PrintLemmas.{ok_then}
use Rattle.answer_lines.proofs.due.write_day.Goals as goal

pub returns-in_err-write_line-clause-begun : goal.returns-in_err-write_line-clause-begun
returns-in_err-write_line-clause-begun g c =
    let head = as_line (line_text (line.Due c.args.due.now.tld c.args.due.now.day)) in
    let waiting = lines_text (waiting_lines (parts_of_day (records_of c.args.records.now) c.args.due.now.tld c.args.due.now.day) (due_day_pair c.args.due.now)) in
    begins_first _ _ head waiting c.write_line.ensures.begun

pub returns-clause-whole : goal.returns-clause-whole
returns-clause-whole g c =
    let headed = g.W.Write.contents c.write_line.new.out in
    let new = g.W.Write.contents c.write_waiting.new.out in
    let head = as_line (line_text (line.Due c.args.due.now.tld c.args.due.now.day)) in
    let waiting = lines_text (waiting_lines (parts_of_day (records_of c.args.records.now) c.args.due.now.tld c.args.due.now.day) (due_day_pair c.args.due.now)) in
    ok_then c.write_waiting.result (λ second. Appends-trans _ headed new head waiting c.in_ok-write_line.ensures.whole
    (subst (λ (es : List (PartKey × PartRecord)). Appends headed new (lines_text (waiting_lines es (due_day_pair c.args.due.now)))) c.parts_of_day.ensures second)) c.write_waiting.ensures.whole

pub returns-clause-begun : goal.returns-clause-begun
returns-clause-begun g c =
    let headed = g.W.Write.contents c.write_line.new.out in
    let new = g.W.Write.contents c.write_waiting.new.out in
    let head = as_line (line_text (line.Due c.args.due.now.tld c.args.due.now.day)) in
    let waiting = lines_text (waiting_lines (parts_of_day (records_of c.args.records.now) c.args.due.now.tld c.args.due.now.day) (due_day_pair c.args.due.now)) in
    begins_second _ headed new head waiting c.in_ok-write_line.ensures.whole
    (subst (λ (es : List (PartKey × PartRecord)). AppendsBeginning headed new (lines_text (waiting_lines es (due_day_pair c.args.due.now)))) c.parts_of_day.ensures c.write_waiting.ensures.begun)
