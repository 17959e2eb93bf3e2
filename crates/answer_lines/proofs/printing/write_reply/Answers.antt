use Rattle.std.proofs.Common.{List, ℕ, subst}
use Rattle.std.proofs.KnownBytes.{Appends-kept, Appends-trans}
use Rattle.std.specs.Io.KnownBytes.{Appends}
use Rattle.desk.specs.Lines.{AppendsBeginning}
use Rattle.answer_lines.specs.Lines.{line_text}
use Rattle.answer_lines.specs.Printing.{as_line, line_of, names_behind, reply_text}
use Rattle.answer_lines.specs.declared.lines.Line.{Line}
use Rattle.answer_lines.proofs.Beginnings.{begins_first, begins_second, kept_begins}
use Rattle.answer_lines.proofs.PrintLemmas.{on_ok}
use Rattle.answer_lines.proofs.printing.write_reply.Goals as goal

pub returns-in_err-write_line-clause-begun : goal.returns-in_err-write_line-clause-begun
returns-in_err-write_line-clause-begun g c =
    begins_first (g.W.Write.contents c.args.out.now) (g.W.Write.contents c.write_line.new.out) (as_line (line_text (line_of c.args.told.now))) (names_behind c.args.told.now)
    (subst (λ (line : Line). AppendsBeginning (g.W.Write.contents c.args.out.now) (g.W.Write.contents c.write_line.new.out) (as_line (line_text line))) c.of_record.ensures c.write_line.ensures.begun)

pub returns-in_err-write_whole-clause-begun : goal.returns-in_err-write_whole-clause-begun
returns-in_err-write_whole-clause-begun g c =
    let first = subst (λ (line : Line). Appends (g.W.Write.contents c.args.out.now) (g.W.Write.contents c.write_line.new.out) (as_line (line_text line))) c.of_record.ensures c.in_ok-write_line.ensures.whole in
    begins_second (g.W.Write.contents c.args.out.now) (g.W.Write.contents c.write_line.new.out) (g.W.Write.contents c.write_whole.new.out) (as_line (line_text (line_of c.args.told.now))) (names_behind c.args.told.now) first
    (subst (λ (names : List ℕ). AppendsBeginning (g.W.Write.contents c.write_line.new.out) (g.W.Write.contents c.write_whole.new.out) names) c.names_behind.ensures c.write_whole.ensures.begun)

pub returns-clause-whole : goal.returns-clause-whole
returns-clause-whole g c =
    let first = subst (λ (line : Line). Appends (g.W.Write.contents c.args.out.now) (g.W.Write.contents c.write_line.new.out) (as_line (line_text line))) c.of_record.ensures c.in_ok-write_line.ensures.whole in
    let second = subst (λ (names : List ℕ). Appends (g.W.Write.contents c.write_line.new.out) (g.W.Write.contents c.write_whole.new.out) names) c.names_behind.ensures c.in_ok-write_whole.ensures.whole in
    on_ok _ _ (Appends-kept _ _ _ (reply_text c.args.told.now) (Appends-trans (g.W.Write.contents c.args.out.now) (g.W.Write.contents c.write_line.new.out) (g.W.Write.contents c.write_whole.new.out) (as_line (line_text (line_of c.args.told.now))) (names_behind c.args.told.now) first second) c.flush.ensures)

pub returns-clause-begun : goal.returns-clause-begun
returns-clause-begun g c =
    let first = subst (λ (line : Line). Appends (g.W.Write.contents c.args.out.now) (g.W.Write.contents c.write_line.new.out) (as_line (line_text line))) c.of_record.ensures c.in_ok-write_line.ensures.whole in
    let second = subst (λ (names : List ℕ). Appends (g.W.Write.contents c.write_line.new.out) (g.W.Write.contents c.write_whole.new.out) names) c.names_behind.ensures c.in_ok-write_whole.ensures.whole in
    kept_begins _ _ _ (reply_text c.args.told.now) (Appends-trans (g.W.Write.contents c.args.out.now) (g.W.Write.contents c.write_line.new.out) (g.W.Write.contents c.write_whole.new.out) (as_line (line_text (line_of c.args.told.now))) (names_behind c.args.told.now) first second) c.flush.ensures
