use Rattle.std.proofs.Common.{ℕ, List, subst, sym}
use Rattle.std.proofs.KnownBytes.{Appends-nil}
use Rattle.std.specs.Prelude.{OnOk}
use Rattle.std.specs.Io.KnownBytes.{Appends}
use Rattle.desk.specs.Lines.{AppendsBeginning}
use Rattle.custody_rules.specs.DueDays.{due_day_pair}
use Rattle.answer_lines.specs.State.{lines_text}
use Rattle.answer_lines.specs.declared.lines.Line.{Line}
use Rattle.answer_lines.proofs.DueLemmas.{no_lines, one_line}
use Rattle.answer_lines.proofs.due.write_waiting_of.Goals as goal

pub returns-then-count-eq0-clause-whole : goal.returns-then-count-eq0-clause-whole
returns-then-count-eq0-clause-whole g c =
    let old = g.W.Write.contents c.args.out.now in
    subst (λ (lines : List Line). Appends old old (lines_text lines))
    (sym (no_lines c.args.parts.now (due_day_pair c.args.due.now) c.args.revision c.count_waiting-count.result c.count_waiting-count.ensures c.if-count-eq0.true)) (Appends-nil old)

pub returns-clause-whole : goal.returns-clause-whole
returns-clause-whole g c =
    subst (λ (text : List ℕ). OnOk c.write_line.result (Appends (g.W.Write.contents c.args.out.now) (g.W.Write.contents c.write_line.new.out) text))
    (sym (one_line c.args.parts.now (due_day_pair c.args.due.now) c.args.revision c.count_waiting-count.result c.count_waiting-count.ensures c.if-count-eq0.false)) c.write_line.ensures.whole

pub returns-clause-begun : goal.returns-clause-begun
returns-clause-begun g c =
    subst (λ (text : List ℕ). AppendsBeginning (g.W.Write.contents c.args.out.now) (g.W.Write.contents c.write_line.new.out) text)
    (sym (one_line c.args.parts.now (due_day_pair c.args.due.now) c.args.revision c.count_waiting-count.result c.count_waiting-count.ensures c.if-count-eq0.false)) c.write_line.ensures.begun
