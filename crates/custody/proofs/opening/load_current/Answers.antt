use Rattle.std.proofs.Common.{Ok, Err, sym, subst}
use Rattle.sqlite.specs.Held.{state}
use Rattle.custody_store.specs.StoreState.{store_state, ChangesNothing}
use Rattle.custody_store.proofs.ReadLemmas.{reads_none}
use Rattle.custody_machine.specs.declared.answers.Failure.{Failure}
use Rattle.custody.proofs.OpenCustodyLemmas.{err_is}
use Rattle.custody.proofs.Migrated.{migrates_answers, migrates_fails, opens_nothing, opens_then}
use Rattle.custody.proofs.opening.load_current.Goals as goal

pub returns-in_err-loaded-clause-opens : goal.returns-in_err-loaded-clause-opens
returns-in_err-loaded-clause-opens g c =
    rw (err_is _ c.in_err-loaded.field-0.0 c.from_residual.ensures.1)
    (opens_nothing (state g.S.Store c.args.store.now) (store_state g.S.Store c.load_whole.new.store) _ c.args.is_earlier c.in_err-loaded.field-0.0 c.in_err-loaded.ensures.reads)

pub returns-in_err-loaded-clause-rows : goal.returns-in_err-loaded-clause-rows
returns-in_err-loaded-clause-rows g c honest ready =
    rw (err_is _ c.in_err-loaded.field-0.0 c.from_residual.ensures.1)
    (c.in_err-loaded.ensures.rows honest ready)

pub returns-in_err-migrate_earlier-clause-opens : goal.returns-in_err-migrate_earlier-clause-opens
returns-in_err-migrate_earlier-clause-opens g c =
    let of = c.in_err-migrate_earlier.ensures in
    let failure = c.in_err-migrate_earlier.field-0.0 in
    let mid = store_state g.S.Store c.load_whole.new.store in
    let new = store_state g.S.Store c.migrate_earlier.new.store in
    rw (err_is _ failure c.from_residual-in_err-migrate_earlier.ensures.1)
    (opens_then (state g.S.Store c.args.store.now) mid new c.in_ok-loaded.loaded (Err failure) c.args.is_earlier c.in_ok-loaded.ensures.reads (record {
      reads = λ current. let clash = (of.kept current).0 in cc;
      migrates = λ earlier. migrates_fails mid new failure failure (of.migrates earlier);
      unchanged = λ other. absurd (other of.kind);
    }))

pub returns-clause-opens : goal.returns-clause-opens
returns-clause-opens g c =
    let of = c.in_ok-migrate_earlier.ensures in
    let loaded = c.in_ok-loaded.loaded in
    let mid = store_state g.S.Store c.load_whole.new.store in
    let new = store_state g.S.Store c.migrate_earlier.new.store in
    opens_then (state g.S.Store c.args.store.now) mid new loaded (Ok loaded) c.args.is_earlier c.in_ok-loaded.ensures.reads (record {
      reads = λ current. subst (λ store. ChangesNothing {E = Failure} mid (store_state g.S.Store store) (Ok loaded)) (sym (of.kept current).1) (reads_none (state g.S.Store c.load_whole.new.store) (Ok loaded));
      migrates = λ earlier. migrates_answers mid new _ loaded (of.migrates earlier);
      unchanged = tt;
    })

pub returns-clause-rows : goal.returns-clause-rows
returns-clause-rows g c honest ready = c.in_ok-loaded.ensures.rows (c.in_ok-migrate_earlier.ensures.trust honest) ready
