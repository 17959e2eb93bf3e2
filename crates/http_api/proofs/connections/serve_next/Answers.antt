use Rattle.std.proofs.Common.{inl}
use Rattle.http_api.specs.Connections.{server_state}
use Rattle.http_api.proofs.TurnLemmas.{client_turn, same_server}
use Rattle.http_api.proofs.connections.serve_next.Goals.{in-Some, in-None}
use Rattle.http_api.proofs.connections.serve_next.Goals as goal

pub returns-clause-served : goal.returns-clause-served
returns-clause-served g c =
    let old = server_state g.K.Clients c.args.clients.now c.args.custody.now in
    let began = server_state g.K.Clients c.next_client.new.self c.args.custody.now in
    elim c.match-client.branch [
      | in-Some w ↦
          let served = w.serve_client-served in
          let new = server_state g.K.Clients served.new.clients served.new.custody in
          let came = rw w.in-Some.is at c.in_ok-client.ensures in
          rw (w.clients-is, w.custody-is)
          (client_turn c.args.now.now c.in-Ok.moment _ old began new served.result c.in-Ok.ensures.found came.comes came.begins served.ensures.others served.ensures.served served.ensures.read_failed
          served.ensures.write_failed)
      | in-None w ↦
          let nobody = rw w.in-None.is at c.in_ok-client.ensures.nobody in
          rw (w.clients-is, w.custody-is) (inl (nobody.0, same_server g.K.Clients c.args.clients.now c.next_client.new.self c.args.custody.now nobody.1 nobody.2))
    ]
