use Rattle.answer_lines.proofs.Beginnings.{kept_begins}
use Rattle.answer_lines.proofs.writing.print.Goals as goal

pub returns-clause-begun : goal.returns-clause-begun
returns-clause-begun g c = kept_begins _ _ _ c.args.text.now c.in_ok-write_whole.ensures.whole c.flush.ensures
