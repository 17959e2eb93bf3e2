use Rattle.custody_store.proofs.store.Store.create.Goals as goal

pub returns-clause-founds : goal.returns-clause-founds
returns-clause-founds g c = rw (← c.self.view_is) (rw c.write_number.ensures at c.create_all.ensures.founds)

pub returns-clause-runs : goal.returns-clause-runs
returns-clause-runs g c new = rw (← c.self.view_is) (rw c.write_number.ensures at c.create_all.ensures.runs)
