use Rattle.std.proofs.Common.{List, map, subst}
use Rattle.std.proofs.KnownBytes.{Appends-kept}
use Rattle.std.specs.Io.KnownBytes.{Appends}
use Rattle.desk.specs.Lines.{AppendsBeginning}
use Rattle.custody_records.specs.MemoryRecords.{records_of}
use Rattle.custody_records.specs.Keys.{PartKey}
use Rattle.custody_records.specs.Records.{PartRecord}
use Rattle.answer_lines.specs.Digests.{digest_line, digests_text}
use Rattle.answer_lines.specs.State.{lines_text}
use Rattle.answer_lines.proofs.Beginnings.{kept_begins}
use Rattle.answer_lines.proofs.PrintLemmas.{on_ok}
use Rattle.answer_lines.proofs.digests.write_digests.Goals as goal

pub returns-in_err-write_digests_of-clause-begun : goal.returns-in_err-write_digests_of-clause-begun
returns-in_err-write_digests_of-clause-begun g c =
    subst (λ (es : List (PartKey × PartRecord)). AppendsBeginning (g.W.Write.contents c.args.out.now) (g.W.Write.contents c.write_digests_of.new.out) (lines_text (map digest_line es))) c.parts_of.ensures c.write_digests_of.ensures.begun

pub returns-clause-whole : goal.returns-clause-whole
returns-clause-whole g c =
    let whole = subst (λ (es : List (PartKey × PartRecord)). Appends (g.W.Write.contents c.args.out.now) (g.W.Write.contents c.write_digests_of.new.out) (lines_text (map digest_line es))) c.parts_of.ensures c.in_ok-write_digests_of.ensures.whole in
    on_ok _ _ (Appends-kept _ _ _ (digests_text (records_of c.args.records.now) c.args.tld.now) whole c.flush.ensures)

pub returns-clause-begun : goal.returns-clause-begun
returns-clause-begun g c =
    let whole = subst (λ (es : List (PartKey × PartRecord)). Appends (g.W.Write.contents c.args.out.now) (g.W.Write.contents c.write_digests_of.new.out) (lines_text (map digest_line es))) c.parts_of.ensures c.in_ok-write_digests_of.ensures.whole in
    kept_begins _ _ _ (digests_text (records_of c.args.records.now) c.args.tld.now) whole c.flush.ensures
