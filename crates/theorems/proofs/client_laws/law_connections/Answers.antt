use Rattle.theorems.proofs.ConnectionLemmas.{connections_move, connections_may_stop}
use Rattle.theorems.proofs.ExampleConnections.{connections_happen}
use Rattle.theorems.proofs.client_laws.law_connections.Goals as goal

pub returns-clause-moves : goal.returns-clause-moves
returns-clause-moves g c tells = connections_move g.V.Volume g.S.Store tells

pub returns-clause-stops : goal.returns-clause-stops
returns-clause-stops g c tells = connections_may_stop g.V.Volume g.S.Store tells

pub returns-clause-happen : goal.returns-clause-happen
returns-clause-happen g c = connections_happen g.V.Volume g.S.Store c.law_accepted.ensures
