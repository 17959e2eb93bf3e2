use Rattle.std.proofs.Common.{take}
use Rattle.http_api.specs.Responses.{response_bytes}
use Rattle.http_api.proofs.ClientLemmas.{has_taken}
use Rattle.http_api.proofs.TurnLemmas.{response_begun}
use Rattle.http_api.proofs.connections.serve_client.Goals as goal

pub returns-clause-write_failed : goal.returns-clause-write_failed
returns-clause-write_failed g c = λ failed.
    let responded = c.respond-outcome in
    let written = c.write_outcome-served in
    let before = g.K.Taker.Write.contents c.taker-taker.result in
    let taken = g.K.Taker.Write.contents written.new.writer in
    let begun = response_begun (g.K.Sender.Read.remaining c.args.sender) c.args.now c.args.custody.now responded.new.custody responded.result written.result before taken responded.ensures.serves
    responded.ensures.left written.ensures.write_failed written.ensures.read_failed failed in
    let began = g.K.Clients.responses c.args.clients.now in
    let after = g.K.Clients.responses c.end_client.new.self in
    (begun.0, begun.1, begun.2.0, begun.2.1, has_taken (take begun.2.0 (response_bytes begun.0)) before taken began after c.taker-taker.ensures begun.2.2 c.end_client.ensures.taken)
