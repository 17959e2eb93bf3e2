use Rattle.agent_program.proofs.BatchLemmas.{vault_status}
use Rattle.agent_program.proofs.batch.tell_lost.Goals as goal

pub returns : goal.returns
returns g c =
    let printed = c.tell_error.ensures in
    (c.by_file.result, c.by_file.ensures.kind, vault_status c.by_file.result c.tell_error.result _ c.by_file.ensures.vault printed, printed.1.1)
