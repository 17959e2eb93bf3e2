use Rattle.std.proofs.Common.{arith, map, subst}
use Rattle.std.proofs.KnownBytes.{Appends-nil}
use Rattle.std.specs.Io.KnownBytes.{Appends}
use Rattle.desk.specs.Lines.{AppendsBeginning}
use Rattle.custody_records.specs.MemoryRecords.{records_of}
use Rattle.custody_records.specs.TypedRecords.{release_key, release_value}
use Rattle.answer_lines.specs.Lines.{line_text}
use Rattle.answer_lines.specs.Printing.{as_line}
use Rattle.answer_lines.specs.declared.lines.Line.{Line}
use Rattle.answer_lines.specs.State.{release_line, lines_text}
use Rattle.answer_lines.proofs.Beginnings.{whole_begins}
use Rattle.answer_lines.proofs.PrintLemmas.{are_lines, rows_more}
use Rattle.answer_lines.proofs.StateLemmas.{table_begins, table_whole}
use Rattle.answer_lines.proofs.state.write_releases.Goals as goal

pub loop-release-init : goal.loop-release-init
loop-release-init g c = Appends-nil (g.W.Write.contents c.args.out.now)

pub loop-release-preserved : goal.loop-release-preserved
loop-release-preserved g c =
    rows_more _ _ (are_lines release_key release_value release_line) (g.W.Write.contents c.args.out.now) (g.W.Write.contents c.loop-release.out) (g.W.Write.contents c.write_line.new.out) c.releases-release-items.result.now c.loop-release.release-index c.release-item.result (omega arith) c.release-item.is
    c.loop-release.invariant (subst (λ (l : Line). Appends (g.W.Write.contents c.loop-release.out) (g.W.Write.contents c.write_line.new.out) (as_line (line_text l))) c.release_line.ensures c.in_ok-write_line.ensures.whole)

pub returns-in_err-write_line-clause-begun : goal.returns-in_err-write_line-clause-begun
returns-in_err-write_line-clause-begun g c =
    let mid = g.W.Write.contents c.loop-release.out in
    let new = g.W.Write.contents c.write_line.new.out in
    table_begins release_key release_value (λ entries. lines_text (map release_line entries)) _ (are_lines release_key release_value release_line) (records_of c.args.records.now).releases
    c.releases-release-items.result.now c.releases-release-items.ensures.all c.releases-release-items.ensures.rising
    (g.W.Write.contents c.args.out.now) mid new c.loop-release.release-index c.release-item.result (omega arith) c.release-item.is c.loop-release.invariant
    (subst (λ (l : Line). AppendsBeginning mid new (as_line (line_text l))) c.release_line.ensures c.write_line.ensures.begun)

pub returns-clause-whole : goal.returns-clause-whole
returns-clause-whole g c =
    table_whole release_key release_value (λ entries. lines_text (map release_line entries)) _ (are_lines release_key release_value release_line) (records_of c.args.records.now).releases
    c.releases-release-items.result.now c.releases-release-items.ensures.all c.releases-release-items.ensures.rising
    (g.W.Write.contents c.args.out.now) (g.W.Write.contents c.loop-release.out) c.loop-release.release-index (omega arith) c.loop-release.invariant

pub returns-clause-begun : goal.returns-clause-begun
returns-clause-begun g c = whole_begins _ _ _ (returns-clause-whole g c)
