use Rattle.custody_machine.specs.State.{empty}
use Rattle.theorems.specs.Sessions.{place_of}
use Rattle.theorems.specs.Lives.{Up}
use Rattle.theorems.proofs.LifeLemmas.{begins_empty, agents_live_on}
use Rattle.theorems.proofs.life_laws.law_lives.Goals as goal

pub returns-clause-begun : goal.returns-clause-begun
returns-clause-begun g c tells number is =
    let begun = c.args.begun.now in
    let h = begins_empty tells c.args.volume.now c.args.db.now number begun is in
    agents_live_on tells empty (place_of g.S.Store begun) (Up begun) h.0 h.1

pub returns-clause-any : goal.returns-clause-any
returns-clause-any g c tells = agents_live_on tells
