use Rattle.http_api.proofs.TurnLemmas.{response_begun}
use Rattle.http_api.proofs.handling.Api.serve_one.Goals as goal

pub returns-clause-write_failed : goal.returns-clause-write_failed
returns-clause-write_failed g c =
    let responded = c.respond-outcome in
    let written = c.write_outcome in
    let contents = g.W.Write.contents in
    response_begun (g.R.Read.remaining c.args.reader.now) c.args.now c.args.custody.now responded.new.custody responded.result written.result (contents c.args.writer.now) (contents written.new.writer)
    responded.ensures.serves responded.ensures.left written.ensures.write_failed written.ensures.read_failed
