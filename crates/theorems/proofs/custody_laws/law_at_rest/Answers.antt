use Rattle.theorems.proofs.RunMoves.{rests, rests_in_state, rests_apart}
use Rattle.theorems.proofs.custody_laws.law_at_rest.Goals as goal

pub returns-clause-leaves : goal.returns-clause-leaves
returns-clause-leaves g c serving = rests c.args.custody.now serving

pub returns-clause-stands : goal.returns-clause-stands
returns-clause-stands g c serving = rests_in_state c.args.custody.now serving

pub returns-clause-spares : goal.returns-clause-spares
returns-clause-spares g c serving = rests_apart c.args.custody.now serving
