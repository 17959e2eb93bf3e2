use Rattle.std.proofs.Common.{arith}
use Rattle.std.proofs.KnownBytes.{Appends-nil}
use Rattle.std.proofs.lemmas.List.FromFn.{length-range_with_len}
use Rattle.std.specs.List.{range_with_len}
use Rattle.custody_records.specs.Tables.{row_entries}
use Rattle.custody_records.specs.TypedRecords.{key_of_part, part_value}
use Rattle.custody_rules.specs.DueDays.{due_day_pair}
use Rattle.answer_lines.specs.Due.{waiting_lines_of}
use Rattle.answer_lines.proofs.Beginnings.{whole_begins}
use Rattle.answer_lines.proofs.DueLemmas.{are_revisions, revision_at}
use Rattle.answer_lines.proofs.PrintLemmas.{rows_all, rows_begin, rows_more}
use Rattle.answer_lines.proofs.due.write_waiting.Goals as goal

pub loop-revision-init : goal.loop-revision-init
loop-revision-init g c = (omega arith, Appends-nil (g.W.Write.contents c.args.out.now))

pub loop-revision-preserved : goal.loop-revision-preserved
loop-revision-preserved g c = (
  omega arith,
  rows_more _ _ (are_revisions (waiting_lines_of (row_entries key_of_part part_value c.args.parts.now) (due_day_pair c.args.due.now))) (g.W.Write.contents c.args.out.now) (g.W.Write.contents c.loop-revision.out) (g.W.Write.contents c.write_waiting_of.new.out)
      (range_with_len 0 100) c.loop-revision.revision c.loop-revision.revision (omega arith) (revision_at c.loop-revision.revision (omega arith))
      c.loop-revision.invariant.1 c.in_ok-write_waiting_of.ensures.whole,
)

pub returns-in_err-write_waiting_of-clause-begun : goal.returns-in_err-write_waiting_of-clause-begun
returns-in_err-write_waiting_of-clause-begun g c =
    rows_begin _ _ (are_revisions (waiting_lines_of (row_entries key_of_part part_value c.args.parts.now) (due_day_pair c.args.due.now))) (g.W.Write.contents c.args.out.now) (g.W.Write.contents c.loop-revision.out) (g.W.Write.contents c.write_waiting_of.new.out)
    (range_with_len 0 100) c.loop-revision.revision c.loop-revision.revision (omega arith) (revision_at c.loop-revision.revision (omega arith))
    c.loop-revision.invariant.1 c.write_waiting_of.ensures.begun

pub returns-clause-whole : goal.returns-clause-whole
returns-clause-whole g c =
    rows_all _ _ (are_revisions (waiting_lines_of (row_entries key_of_part part_value c.args.parts.now) (due_day_pair c.args.due.now))) (g.W.Write.contents c.args.out.now) (g.W.Write.contents c.loop-revision.out) (range_with_len 0 100) c.loop-revision.revision
    (omega (arith, length-range_with_len 0 100)) c.loop-revision.invariant.1

pub returns-clause-begun : goal.returns-clause-begun
returns-clause-begun g c = whole_begins _ _ _ (returns-clause-whole g c)
