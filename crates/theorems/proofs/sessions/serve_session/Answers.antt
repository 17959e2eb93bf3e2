use Rattle.std.proofs.Common.{◌∙◌, ap, subst}
use Rattle.vault_volume.specs.Vault.{volume_of}
use Rattle.sqlite.specs.Held.{state}
use Rattle.custody_store.specs.StoreState.{store_state}
use Rattle.custody_machine.specs.declared.answers.Failure.TheVariants.{NoMemory}
use Rattle.custody.specs.Custody.{timed_commands, open_custody_of}
use Rattle.theorems.specs.Sessions.{IsServing, IsNotOpened}
use Rattle.custody.proofs.Migrated.{left_of_all}
use Rattle.custody.proofs.OpenCustodyLemmas.{err_is}
use Rattle.custody.proofs.Opened.{first_of_all, known_of_all}
use Rattle.theorems.proofs.RunMoves.{honest_then}
use Rattle.theorems.proofs.SessionLemmas.{may_not_open, session_made}
use Rattle.theorems.proofs.sessions.serve_session.Goals as goal

pub returns-in-Ok-clause-served : goal.returns-in-Ok-clause-served
returns-in-Ok-clause-served g c tells one all honest =
    let old = c.in_ok-custody.custody in
    let new = c.run-answers.new.self in
    let entries = timed_commands c.args.commands.now in
    let answers = c.in-Ok.answers.items in
    let rows = (store_state g.S.Store c.args.db).rows in
    let image = g.V.Volume.image c.args.volume in
    let clean = subst (λ db. (store_state g.S.Store db).IsHonest) c.close-volume.ensures.store honest in
    let run = c.in-Ok.ensures.run in
    let then = honest_then old new entries answers run clean in
    let loaded = c.in_ok-custody.ensures.loaded in
    let serving : IsServing g.S.Store old = record { opened = c.in_ok-custody.ensures.opened.opened; image = loaded.image tells one; rows = loaded.rows all then } in
    let made = session_made tells old new rows image entries answers serving (loaded.in_form (first_of_all (state g.S.Store c.args.db) all) then) (loaded.good tells) (loaded.same_image tells) run clean in
    rw (c.close-volume.ensures.volume, c.close-volume.ensures.store) made

pub returns-in_err-custody-clause-failed : goal.returns-in_err-custody-clause-failed
returns-in_err-custody-clause-failed g c tells one all =
    let db = c.args.db in
    let failed = c.in_err-custody.field-0.0 in
    let h = c.in_err-custody.ensures in
    rw (err_is c.from_residual.result failed c.from_residual.ensures.1)
    (λ honest. record {
      cause = may_not_open (store_state g.S.Store db).rows (g.V.Volume.image c.args.volume) failed.0 h.cause.not_closed
          (λ damage same. (h.damaged (known_of_all (state g.S.Store db) all) honest damage same).is_first tells);
      leaves = left_of_all g.V.Volume g.S.Store c.args.volume db failed.1 failed.2 _ h.reads h.migrates tells one all honest;
    })

-- it was opened, and there was no memory for the answers
pub returns-in-Err-clause-failed : goal.returns-in-Err-clause-failed
returns-in-Err-clause-failed g c tells one all honest =
    let rows = (store_state g.S.Store c.args.db).rows in
    let image = g.V.Volume.image c.args.volume in
    let old = open_custody_of c.in_ok-custody.custody in
    let there = volume_of old.vault in
    let same = c.in-Err.ensures.none in
    let same_volume = c.close-volume.ensures.volume ∙ ap (λ custody. volume_of (open_custody_of custody).vault) same in
    let same_store = c.close-volume.ensures.store ∙ ap (λ custody. (open_custody_of custody).store) same in
    let clean = subst (λ db. (store_state g.S.Store db).IsHonest) same_store honest in
    let made : IsNotOpened rows image NoMemory (store_state g.S.Store old.store).may_leave (g.V.Volume.left_at there (g.V.Volume.moment there)) = record {
      cause = tt;
      leaves = left_of_all g.V.Volume g.S.Store c.args.volume c.args.db there old.store _ c.in_ok-custody.ensures.reads c.in_ok-custody.ensures.migrates tells one all clean;
    } in
    rw (same_volume, same_store) made
