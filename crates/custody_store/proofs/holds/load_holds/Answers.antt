use Rattle.std.proofs.Common.{[], refl}
use Rattle.sqlite.specs.Held.{state}
use Rattle.custody_store.specs.Reading.{stored_hold_row, answered_hold}
use Rattle.custody_store.proofs.TableLemmas.{holds_first}
use Rattle.custody_store.proofs.QueryLemmas.{query_never_returns}
use Rattle.custody_store.proofs.StatementLemmas.{select_hold_is}
use Rattle.custody_store.proofs.FindLemmas.{loads}
use Rattle.custody_store.proofs.holds.load_holds.Goals as goal

pub load_rows-requires : goal.load_rows-requires
load_rows-requires g c = query_never_returns _ _ (select_hold_is [] [] []).query

pub returns-clause-found : goal.returns-clause-found
returns-clause-found g c clean first there =
    let old = state g.S.Store c.args.db.now in
    let at = first.1 there in
    loads select_hold_is (λ rows. rows.holds) stored_hold_row answered_hold old at refl at.ordered.1.1.1.1.1.0.0 (holds_first old.now.trees old.now.schema at.begins at.sound) refl _ _ _ _ _ _ _ (c.load_rows.ensures.found clean)
