use Rattle.std.proofs.Common.{sym, ap}
use Rattle.sqlite.specs.Effect.{Database}
use Rattle.sqlite.specs.Held.{state}
use Rattle.custody_store.specs.Reading.{rows_in}
use Rattle.custody.proofs.Opened.{all_rests}
use Rattle.theorems.proofs.custody_laws.law_shown.Goals as goal

pub returns : goal.returns
returns g c all =
    let store = c.args.db.now.store in
    let rest = all_rests (state g.S.Store c.args.db.now) all in
    ((g.S.Store.view store).committed, g.met.S.Store.stays store rest.is_open, ap (λ (db : Database). rows_in db.trees) (sym rest.committed))
