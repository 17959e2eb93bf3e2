use Rattle.answer_lines.proofs.Beginnings.{kept_begins}
use Rattle.answer_lines.proofs.due.write_due.Goals as goal

pub returns-clause-begun : goal.returns-clause-begun
returns-clause-begun g c = kept_begins _ _ _ _ c.in_ok-write_days.ensures.whole c.flush.ensures
