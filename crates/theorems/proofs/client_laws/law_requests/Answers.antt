use Rattle.theorems.proofs.RequestLemmas.{requests_move, requests_stop, may_stop_afterwards}
use Rattle.theorems.proofs.RunMoves.{is_there}
use Rattle.theorems.proofs.client_laws.law_requests.Goals as goal

pub returns-clause-begins : goal.returns-clause-begins
returns-clause-begins g c serving = is_there c.args.old.now serving

pub returns-clause-moves : goal.returns-clause-moves
returns-clause-moves g c tells = requests_move tells c.args.old.now c.args.new.now

pub returns-clause-stops : goal.returns-clause-stops
returns-clause-stops g c tells = requests_stop tells c.args.old.now c.args.new.now

pub returns-clause-at_rest : goal.returns-clause-at_rest
returns-clause-at_rest g c = λ place there. may_stop_afterwards c.args.new.now place there
