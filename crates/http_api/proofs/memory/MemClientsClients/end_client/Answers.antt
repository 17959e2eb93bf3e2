use Rattle.std.proofs.Common.{Some, ap}
use Rattle.http_api.proofs.ClientLemmas.{last_set}
use Rattle.http_api.proofs.memory.MemClientsClients.end_client.Goals as goal

pub returns-in-Some-clause-taken : goal.returns-in-Some-clause-taken
returns-in-Some-clause-taken c =
    let responses = c.args.self.now.responses in
    λ others last are. ap Some (last_set (λ v. v.items) responses.items _ c.args.taker others last responses.ok.0 are)
