use Rattle.std.proofs.Common.{sym}
use Rattle.agent_cli.proofs.acting.act.Goals as goal

-- The name that the command has is the path's.
pub returns-in-Put-clause-acts : goal.returns-in-Put-clause-acts
returns-in-Put-clause-acts g c =
    rw c.in-Put.is (rw (sym c.file_name.ensures)
    (c.apply-answer.result, c.apply-answer.ensures, c.tell_answer.ensures.status, c.tell_answer.ensures.told))
