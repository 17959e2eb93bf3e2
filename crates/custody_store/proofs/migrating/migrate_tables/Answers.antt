use Rattle.custody_store.proofs.EndLemmas.{migrates}
use Rattle.custody_store.proofs.migrating.migrate_tables.Goals as goal

pub returns-clause-migrates : goal.returns-clause-migrates
returns-clause-migrates g c = migrates g.S.Store c.args.db.now c.together.new.db _ (g.met.S.Store.settled c.together.new.db.store) c.together.ensures.trust c.together.ensures.mode c.together.ensures.runs
