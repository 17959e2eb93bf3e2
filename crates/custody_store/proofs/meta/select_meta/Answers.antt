use Rattle.std.proofs.Common.{[], refl}
use Rattle.sqlite.specs.Held.{state}
use Rattle.custody_store.specs.Reading.{stored_meta_row, answered_meta}
use Rattle.custody_store.proofs.TableLemmas.{meta_first}
use Rattle.custody_store.proofs.StatementLemmas.{select_meta_is}
use Rattle.custody_store.proofs.FindLemmas.{found_all, only_reads}
use Rattle.custody_store.proofs.meta.select_meta.Goals as goal

pub returns-clause-found : goal.returns-clause-found
returns-clause-found g c clean at =
    let old = state g.S.Store c.args.db.now in
    found_all select_meta_is (λ rows. rows.meta) stored_meta_row answered_meta old at refl at.ordered.0.0 (meta_first old.now.trees old.now.schema at.begins at.sound) refl (state g.S.Store c.ask.new.db) _ clean c.ask.ensures.asks

pub returns-clause-reads : goal.returns-clause-reads
returns-clause-reads g c = only_reads (select_meta_is [] [] []) (state g.S.Store c.args.db.now) (state g.S.Store c.ask.new.db) _ c.ask.ensures.asks
