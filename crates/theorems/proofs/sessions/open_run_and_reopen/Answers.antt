use Rattle.sqlite.specs.Held.{state}
use Rattle.custody_store.specs.StoreState.{store_state}
use Rattle.custody.specs.Custody.{timed_commands, open_custody_of}
use Rattle.custody.specs.OpenCustody.{current_records}
use Rattle.theorems.specs.Sessions.{answers_of}
use Rattle.custody.proofs.Opened.{first_of_all}
use Rattle.theorems.proofs.SessionLemmas.{reopened}
use Rattle.theorems.proofs.sessions.open_run_and_reopen.Goals as goal

pub returns-in-Ok-open : goal.returns-in-Ok-open
returns-in-Ok-open g c one all all_left honest honest_later may_leave =
    let entries = timed_commands c.args.commands.now in
    let answers = answers_of entries c.in-Ok.session.answers.items in
    let session = c.in-Ok.ensures.served tt one all honest in
    let loaded = c.in-Ok-open.ensures.loaded in
    rw (loaded.same_image tt) (reopened (store_state g.S.Store c.args.db).rows c.args.volume.image.items entries answers _ _ session
    (store_state g.S.Store c.args.left).rows c.restart.new.self.image.items (current_records (open_custody_of c.in-Ok-open.custody))
    may_leave c.restart.ensures.restarted.found (loaded.in_form (first_of_all (state g.S.Store c.args.left) all_left) honest_later) (loaded.good tt))
