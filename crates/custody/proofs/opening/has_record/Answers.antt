use Rattle.std.proofs.Common.{◌∙◌}
use Rattle.custody_store.specs.StoreState.{store_state}
use Rattle.custody.proofs.FirstDamage.{is_there}
use Rattle.custody.proofs.opening.has_record.Goals as goal

pub returns-clause-found : goal.returns-clause-found
returns-clause-found g c honest either = c.is_some.ensures ∙ is_there (store_state g.S.Store c.args.db.now).rows _ (c.in_ok-find_record.ensures.found honest either)
