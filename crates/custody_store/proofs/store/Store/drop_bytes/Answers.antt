use Rattle.custody_store.proofs.store.Store.drop_bytes.Goals as goal

pub returns-clause-commits : goal.returns-clause-commits
returns-clause-commits g c = rw (← c.self.view_is) c.drop_all.ensures.commits

pub returns-clause-runs : goal.returns-clause-runs
returns-clause-runs g c = rw (← c.self.view_is) c.drop_all.ensures.runs
