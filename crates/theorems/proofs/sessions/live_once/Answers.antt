use Rattle.std.proofs.Common.{inl, inr, refl, sym, ◌∙◌, ap}
use Rattle.std.specs.Prelude.{is_none}
use Rattle.sqlite.specs.Effect.{Database}
use Rattle.sqlite.specs.Held.{state}
use Rattle.sqlite.specs.Steps.{over_memory}
use Rattle.sqlite.proofs.Callers.{memory_is_clean}
use Rattle.custody_store.specs.Reading.{rows_in}
use Rattle.custody_store.specs.StoreState.{store_state}
use Rattle.custody_machine.specs.Commands.{command_of}
use Rattle.custody.specs.Custody.{open_custody_of}
use Rattle.theorems.specs.Sessions.{IsServing}
use Rattle.theorems.specs.Lives.{Up, Down}
use Rattle.theorems.proofs.RunMoves.{serves_on}
use Rattle.theorems.proofs.sessions.live_once.Goals as goal

pub returns-in-Ok-open_custody : goal.returns-in-Ok-open_custody
returns-in-Ok-open_custody c =
    let begun = c.in-Ok-init.custody in
    let new = c.apply.new.self in
    let later = c.in-Ok-open_custody.custody in
    let store = (open_custody_of new).store in
    let honest = memory_is_clean store in
    let honest_first = memory_is_clean (open_custody_of begun).store in
    let kept = c.in-Ok-init.ensures.kept in
    let bare = c.in-Ok.ensures.bare in
    let applied = c.apply.ensures in
    let serving : IsServing over_memory begun = record { opened = c.in-Ok-init.ensures.new.opened; image = kept.image tt; rows = kept.rows (inr bare) honest_first } in
    let stays = sym (ap is_none (applied.closes serving.opened)) ∙ c.in_ok-records.ensures.found.0 in
    let ready = (serves_on tt begun new (command_of c.args.command.now) c.args.now c.apply.result serving honest applied stays).rows.ready in
    let shown : (store_state over_memory store).may_leave (store_state over_memory store).rows = ((state over_memory store).committed.trees, refl, ap (λ (d : Database). rows_in d.trees) (sym ready.rest.committed)) in
    let left = rw c.close-stopped.ensures.volume at c.restart.ensures.restarted.found in
    let did = rw c.close-stopped.ensures.store at c.in-Ok-open_custody.ensures in
    record {
      db = c.in-Ok.db;
      begun = begun;
      answer = c.apply.result;
      beginning = record { begun = c.in-Ok-init.ensures.new; durable = kept; tables = inr bare; honest = honest_first };
      goes = (
        Up new,
        (applied, honest),
        (
          Down (store_state over_memory store).rows c.restart.new.self.image.items,
          (shown, left),
          (Up later, (c.restart.new.self, store, record { image_is = refl; settled = c.restart.ensures.restarted.settled; rows_are = refl; tables = inl ready }, did, memory_is_clean (open_custody_of later).store), refl),
        ),
      );
    }
