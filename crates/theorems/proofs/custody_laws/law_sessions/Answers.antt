use Rattle.custody_store.specs.StoreState.{store_state}
use Rattle.theorems.proofs.SessionLemmas.{rests_may_stop, sessions_go_on, openings_may_fail}
use Rattle.theorems.proofs.custody_laws.law_sessions.Goals as goal

pub returns-clause-stops : goal.returns-clause-stops
returns-clause-stops g c = rests_may_stop

pub returns-clause-sessions : goal.returns-clause-sessions
returns-clause-sessions g c = sessions_go_on (store_state g.S.Store c.args.db.now).may_leave (g.V.Volume.left_at c.args.volume.now (g.V.Volume.moment c.args.volume.now))

pub returns-clause-not_opened : goal.returns-clause-not_opened
returns-clause-not_opened g c = openings_may_fail (store_state g.S.Store c.args.db.now).may_leave (g.V.Volume.left_at c.args.volume.now (g.V.Volume.moment c.args.volume.now))
