use Rattle.theorems.proofs.RunMoves.{runs_move}
use Rattle.theorems.proofs.custody_laws.law_run.Goals as goal

pub returns : goal.returns
returns g c tells = runs_move tells c.args.old.now c.args.new.now
