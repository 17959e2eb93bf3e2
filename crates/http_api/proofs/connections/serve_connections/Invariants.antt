use Rattle.std.specs.Prelude.{◌≡◌, true}
use Rattle.custody.specs.Custody.{is_open}
use Rattle.http_api.specs.Connections.{AreConnections, server_state}
use Rattle.http_api.proofs.connections.serve_connections.Given as goal

abbrev pub invariant-loop : goal.invariant-loop
invariant-loop g l = AreConnections l.now l.counter (server_state g.K.Clients l.initial.clients l.initial.custody) (server_state g.K.Clients l.clients l.custody)
    × (l.until_closed ≡ true → is_open l.initial.custody ≡ true → is_open l.custody ≡ true)
