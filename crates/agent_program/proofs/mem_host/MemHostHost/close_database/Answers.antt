use Rattle.std.proofs.Common.{Some}
use Rattle.agent_program.proofs.MemHostLemmas.{log_held}
use Rattle.agent_program.proofs.mem_host.MemHostHost.close_database.Goals as goal

pub returns-clause-log : goal.returns-clause-log
returns-clause-log c = λ reveals.
    let new = record c.args.self.now { database = Some (record { log = c.args.log; db = c.args.db }) } in
    log_held new c.args._path.now (c.requires reveals).0 c.args.self.now.log_is
