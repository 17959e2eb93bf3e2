use Rattle.std.proofs.Common.{subst}
use Rattle.custody_records.specs.MemoryRecords.{records_of}
use Rattle.custody_store.specs.StoreState.{store_state}
use Rattle.custody_rules.specs.Breaks.{ReportsBreak}
use Rattle.custody.proofs.OpenCustodyLemmas.{err_is}
use Rattle.custody.proofs.FirstDamage.{broken_rows}
use Rattle.custody.proofs.opening.load_whole.Goals as goal

pub returns-in_err-map-clause-rows : goal.returns-in_err-map-clause-rows
returns-in_err-map-clause-rows g c honest ready =
    let records = records_of c.in-Ok.records in
    let rows = (store_state g.S.Store c.args.store.now).rows in
    rw (err_is _ c.in_err-map.field-0.0 c.from_residual.ensures.1)
    (λ damage same. broken_rows records rows (c.in-Ok.ensures.found honest ready) damage (subst (ReportsBreak records) same c.in_err-map.ensures.failure))
