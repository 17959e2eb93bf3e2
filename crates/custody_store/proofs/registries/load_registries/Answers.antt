use Rattle.std.proofs.Common.{[], refl}
use Rattle.sqlite.specs.Held.{state}
use Rattle.custody_store.specs.Reading.{stored_registry_row, answered_registry}
use Rattle.custody_store.proofs.QueryLemmas.{query_never_returns}
use Rattle.custody_store.proofs.StatementLemmas.{select_registry_is}
use Rattle.custody_store.proofs.FindLemmas.{field_in_both, loads}
use Rattle.custody_store.proofs.registries.load_registries.Goals as goal

pub load_rows-requires : goal.load_rows-requires
load_rows-requires g c = query_never_returns _ _ (select_registry_is [] [] []).query

pub returns-clause-found : goal.returns-clause-found
returns-clause-found g c clean at =
    let old = state g.S.Store c.args.db.now in
    loads select_registry_is (λ rows. rows.registries) stored_registry_row answered_registry old at.0 refl at.0.ordered.1.0.0 (field_in_both (λ rows. rows.registries) 1 stored_registry_row old at.0 refl) refl _ _ _ _ _ _ _ (c.load_rows.ensures.found clean)
