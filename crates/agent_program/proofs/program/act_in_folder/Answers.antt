use Rattle.std.proofs.Common.{◌∙◌, sym}
use Rattle.agent_program.proofs.HostLemmas.{database_is_other, log_is_other}
use Rattle.agent_program.proofs.program.act_in_folder.Goals as goal

pub returns-then-branch-clause-done : goal.returns-then-branch-clause-done
returns-then-branch-clause-done g c = (
  sym c.only_reads.ensures ∙ c.if-only_reads.true,
  (
    c.in_ok-found.found,
    c.in_ok-found.ensures.held,
    record {
      now = c.in_ok-now.now;
      found = c.in_ok-found.ensures.found;
      moment = c.in_ok-now.ensures.found;
      ends = c.open_and_act-ended.ensures;
    },
  ),
)

pub returns-clause-done : goal.returns-clause-done
returns-clause-done g c = (
  c.in_ok-found-2.found,
  c.in_ok-found-2.ensures.held,
  record {
    now = c.in_ok-now.now;
    found = c.in_ok-found-2.ensures.found;
    moment = c.in_ok-now.ensures.found;
    ends = c.open_and_act-ended-2.ensures;
  },
)

pub returns-then-branch-clause-left_open : goal.returns-then-branch-clause-left_open
returns-then-branch-clause-left_open g c = λ reveals.
    let folder = c.args.order.now.folder.now in
    let others = c.open_folder_to_read.ensures.others reveals in
    (c.in_ok-found.ensures.open reveals, (others _ (database_is_other folder), others _ (log_is_other folder)))

pub returns-then-branch-clause-others : goal.returns-then-branch-clause-others
returns-then-branch-clause-others g c = λ reveals path away. c.open_folder_to_read.ensures.others reveals path away.0
