use Rattle.theorems.proofs.LifeLemmas.{begins_empty}
use Rattle.theorems.proofs.life_laws.law_begun.Goals as goal

pub returns : goal.returns
returns g c tells number = begins_empty tells c.args.volume.now c.args.db.now number c.args.custody.now
