use Rattle.agent_program.proofs.program.serve_in_folder.Goals as goal

pub returns-clause-done : goal.returns-clause-done
returns-clause-done g c = (c.in_ok-found.found, c.in_ok-found.ensures.held, record { found = c.in_ok-found.ensures.found; ends = c.serve.ensures })
