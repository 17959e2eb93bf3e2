use Rattle.std.proofs.Common.{inl, inr, refl, sym, ap}
use Rattle.sqlite.specs.Effect.{Database}
use Rattle.sqlite.specs.Held.{state}
use Rattle.sqlite.specs.Steps.{over_memory}
use Rattle.sqlite.proofs.Callers.{memory_is_clean}
use Rattle.custody_store.specs.Reading.{rows_in}
use Rattle.custody_store.specs.StoreState.{store_state}
use Rattle.custody_store.proofs.ReadLemmas.{first_of_ready}
use Rattle.custody.specs.Custody.{timed_commands, open_custody_of}
use Rattle.theorems.specs.Sessions.{IsServing}
use Rattle.theorems.proofs.RunMoves.{runs_move}
use Rattle.theorems.proofs.SessionLemmas.{resumed}
use Rattle.theorems.proofs.sessions.begin_run_and_reopen.Goals as goal

pub returns-in-Ok-open : goal.returns-in-Ok-open
returns-in-Ok-open c =
    let entries = timed_commands c.args.commands.now in
    let answers = c.in-Ok-run.answers.items in
    let old = c.in-Ok-init.custody in
    let new = c.run.new.self in
    let later = c.in-Ok-open.custody in
    let store = (open_custody_of new).store in
    let honest = memory_is_clean store in
    let honest_later = memory_is_clean (open_custody_of later).store in
    let serving : IsServing over_memory old = record { opened = c.in-Ok-init.ensures.new.opened; image = c.in-Ok-init.ensures.kept.image tt; rows = c.in-Ok-init.ensures.kept.rows (inr c.in-Ok.ensures.bare) (memory_is_clean (open_custody_of old).store) } in
    let run = c.in-Ok-run.ensures.run in
    let ready = ((runs_move tt old new serving honest entries answers run).serves c.in_ok-records.ensures.found.0).rows.ready in
    let shown : (store_state over_memory store).may_leave (store_state over_memory store).rows = ((state over_memory store).committed.trees, refl, ap (λ (d : Database). rows_in d.trees) (sym ready.rest.committed)) in
    let loaded = rw c.close-stopped.ensures.store at c.in-Ok-open.ensures.loaded in
    let left = rw c.close-stopped.ensures.volume at c.restart.ensures.restarted.found in
    resumed tt old new later entries answers serving c.in-Ok-init.ensures.new.begun run honest
    (store_state over_memory store).rows c.restart.new.self.image.items shown left (loaded.in_form (first_of_ready (state over_memory store) ready) honest_later) (loaded.good tt) (loaded.same_image tt)
    (record { opened = c.in-Ok-open.ensures.opened.opened; image = loaded.image tt c.restart.ensures.restarted.settled; rows = loaded.rows (inl ready) honest_later })
