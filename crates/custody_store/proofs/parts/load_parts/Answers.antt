use Rattle.std.proofs.Common.{[], refl}
use Rattle.sqlite.specs.Held.{state}
use Rattle.custody_store.specs.Reading.{stored_part_row, answered_part}
use Rattle.custody_store.proofs.QueryLemmas.{query_never_returns}
use Rattle.custody_store.proofs.StatementLemmas.{select_part_is}
use Rattle.custody_store.proofs.FindLemmas.{field_in_both, loads}
use Rattle.custody_store.proofs.parts.load_parts.Goals as goal

pub load_rows-requires : goal.load_rows-requires
load_rows-requires g c = query_never_returns _ _ (select_part_is [] [] []).query

pub returns-clause-found : goal.returns-clause-found
returns-clause-found g c clean at =
    let old = state g.S.Store c.args.db.now in
    loads select_part_is (λ rows. rows.parts) stored_part_row answered_part old at.0 refl at.0.ordered.1.1.0.0 (field_in_both (λ rows. rows.parts) 3 stored_part_row old at.0 refl) refl _ _ _ _ _ _ _ (c.load_rows.ensures.found clean)
