use Rattle.std.proofs.Common.{◌++◌, List, map, subst}
use Rattle.std.specs.Io.KnownBytes.{Appends}
use Rattle.desk.specs.Lines.{AppendsBeginning}
use Rattle.custody_records.specs.MemoryRecords.{records_of}
use Rattle.custody_records.specs.Keys.{NoticeKey, PartKey}
use Rattle.custody_records.specs.Records.{Notice, PartRecord, notices_of, parts_of}
use Rattle.answer_lines.specs.Lines.{line_text}
use Rattle.answer_lines.specs.Printing.{as_line}
use Rattle.answer_lines.specs.State.{lines_text, notice_line, part_line}
use Rattle.answer_lines.specs.declared.lines.Line.TheVariants as line
use Rattle.answer_lines.proofs.Beginnings.{begins_first}
use Rattle.answer_lines.proofs.PrintLemmas.{ok_then}
use Rattle.answer_lines.proofs.StateLemmas.{notices_begin, parts_begin, registry_is_whole}
use Rattle.answer_lines.proofs.state.write_registry.Goals as goal

pub returns-in_err-write_line-clause-begun : goal.returns-in_err-write_line-clause-begun
returns-in_err-write_line-clause-begun g c =
    let head = as_line (line_text (line.Registry c.args.registry.now.tld c.args.registry.now.first_day)) in
    let parts = map part_line (parts_of (records_of c.args.records.now) c.args.registry.now.tld) in
    let notices = map notice_line (notices_of (records_of c.args.records.now) c.args.registry.now.tld) in
    begins_first _ _ head (lines_text (parts ++ notices)) c.write_line.ensures.begun

pub returns-in_err-write_parts-clause-begun : goal.returns-in_err-write_parts-clause-begun
returns-in_err-write_parts-clause-begun g c =
    let old = g.W.Write.contents c.args.out.now in
    let headed = g.W.Write.contents c.write_line.new.out in
    let parted = g.W.Write.contents c.write_parts.new.out in
    let head = as_line (line_text (line.Registry c.args.registry.now.tld c.args.registry.now.first_day)) in
    let parts = map part_line (parts_of (records_of c.args.records.now) c.args.registry.now.tld) in
    let notices = map notice_line (notices_of (records_of c.args.records.now) c.args.registry.now.tld) in
    parts_begin old headed parted head parts notices c.in_ok-write_line.ensures.whole
    (subst (λ (es : List (PartKey × PartRecord)). AppendsBeginning headed parted (lines_text (map part_line es))) c.parts_of.ensures c.write_parts.ensures.begun)

pub returns-clause-whole : goal.returns-clause-whole
returns-clause-whole g c =
    let old = g.W.Write.contents c.args.out.now in
    let headed = g.W.Write.contents c.write_line.new.out in
    let parted = g.W.Write.contents c.write_parts.new.out in
    let new = g.W.Write.contents c.write_notices.new.out in
    let head = as_line (line_text (line.Registry c.args.registry.now.tld c.args.registry.now.first_day)) in
    let parts = map part_line (parts_of (records_of c.args.records.now) c.args.registry.now.tld) in
    let notices = map notice_line (notices_of (records_of c.args.records.now) c.args.registry.now.tld) in
    let second = subst (λ (es : List (PartKey × PartRecord)). Appends headed parted (lines_text (map part_line es))) c.parts_of.ensures c.in_ok-write_parts.ensures.whole in
    ok_then c.write_notices.result (λ third. registry_is_whole old headed parted new head parts notices c.in_ok-write_line.ensures.whole second
    (subst (λ (es : List (NoticeKey × Notice)). Appends parted new (lines_text (map notice_line es))) c.notices_of.ensures third)) c.write_notices.ensures.whole

pub returns-clause-begun : goal.returns-clause-begun
returns-clause-begun g c =
    let old = g.W.Write.contents c.args.out.now in
    let headed = g.W.Write.contents c.write_line.new.out in
    let parted = g.W.Write.contents c.write_parts.new.out in
    let new = g.W.Write.contents c.write_notices.new.out in
    let head = as_line (line_text (line.Registry c.args.registry.now.tld c.args.registry.now.first_day)) in
    let parts = map part_line (parts_of (records_of c.args.records.now) c.args.registry.now.tld) in
    let notices = map notice_line (notices_of (records_of c.args.records.now) c.args.registry.now.tld) in
    let second = subst (λ (es : List (PartKey × PartRecord)). Appends headed parted (lines_text (map part_line es))) c.parts_of.ensures c.in_ok-write_parts.ensures.whole in
    notices_begin old headed parted new head parts notices c.in_ok-write_line.ensures.whole second
    (subst (λ (es : List (NoticeKey × Notice)). AppendsBeginning parted new (lines_text (map notice_line es))) c.notices_of.ensures c.write_notices.ensures.begun)
