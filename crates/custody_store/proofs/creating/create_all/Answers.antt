use Rattle.custody_store.proofs.EndLemmas.{founds}
use Rattle.custody_store.proofs.creating.create_all.Goals as goal

pub returns-clause-runs : goal.returns-clause-runs
returns-clause-runs g c = rw (c.text.ensures, c.number.ensures) at c.together.ensures.runs

pub returns-clause-founds : goal.returns-clause-founds
returns-clause-founds g c =
    founds g.S.Store c.args.db.now c.together.new.db _ (g.met.S.Store.settled c.together.new.db.store) c.together.ensures.trust c.together.ensures.mode c.args.digits.now c.args.blocks (rw (c.text.ensures, c.number.ensures) at c.together.ensures.runs)
