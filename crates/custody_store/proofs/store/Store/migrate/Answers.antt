use Rattle.custody_store.proofs.store.Store.migrate.Goals as goal

pub returns-clause-migrates : goal.returns-clause-migrates
returns-clause-migrates g c = rw (← c.self.view_is) c.migrate_tables.ensures.migrates

pub returns-clause-runs : goal.returns-clause-runs
returns-clause-runs g c = rw (← c.self.view_is) c.migrate_tables.ensures.runs
