use Rattle.theorems.proofs.RunMoves.{stops_move}
use Rattle.theorems.proofs.custody_laws.law_stop.Goals as goal

pub returns : goal.returns
returns g c tells = stops_move tells c.args.old.now c.args.mid.now c.args.new.now
