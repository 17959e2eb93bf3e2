use Rattle.answer_lines.proofs.Beginnings.{kept_begins}
use Rattle.answer_lines.proofs.state.write_report.Goals as goal

pub returns-clause-begun : goal.returns-clause-begun
returns-clause-begun g c = kept_begins _ _ _ _ c.in_ok-write_notices.ensures.whole c.flush.ensures
