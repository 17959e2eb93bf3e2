use Rattle.theorems.proofs.CallLemmas.{calls_move, calls_may_stop}
use Rattle.theorems.proofs.life_laws.law_calls.Goals as goal

pub returns-clause-moves : goal.returns-clause-moves
returns-clause-moves g c tells = calls_move tells c.args.old.now c.args.new.now

pub returns-clause-stops : goal.returns-clause-stops
returns-clause-stops g c tells = calls_may_stop tells c.args.old.now c.args.new.now
