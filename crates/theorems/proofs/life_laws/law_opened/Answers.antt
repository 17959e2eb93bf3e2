use Rattle.theorems.proofs.LifeLemmas.{openings_move, openings_may_stop}
use Rattle.theorems.proofs.life_laws.law_opened.Goals as goal

pub returns-clause-moves : goal.returns-clause-moves
returns-clause-moves g c tells result = openings_move g.V.Volume g.S.Store tells c.args.volume.now c.args.db.now result

pub returns-clause-stops : goal.returns-clause-stops
returns-clause-stops g c tells result = openings_may_stop g.V.Volume g.S.Store tells c.args.volume.now c.args.db.now result
