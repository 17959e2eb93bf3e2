use Rattle.agent_program.proofs.program.begin_in_folder.Goals as goal

pub returns-clause-done : goal.returns-clause-done
returns-clause-done g c = (
  c.in_ok-made.made,
  c.in_ok-made.ensures.held,
  record {
    size = c.in_ok-made.ensures.size;
    bare = c.in_ok-made.ensures.bare;
    unrecorded = c.in_ok-made.ensures.unrecorded;
    within = c.init_vault.ensures.within;
    ends = c.init_vault.ensures.ends;
  },
)
