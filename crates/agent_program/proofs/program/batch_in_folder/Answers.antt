use Rattle.agent_program.proofs.program.batch_in_folder.Goals as goal

pub returns-clause-done : goal.returns-clause-done
returns-clause-done g c = (
  c.in_ok-found.found,
  c.in_ok-found.ensures.held,
  record {
    found = c.in_ok-found.ensures.found;
    held_then = _;
    others = c.open_folder.ensures.others;
    ends = rw c.open_folder.ensures.moment at c.batch.ensures;
  },
)
