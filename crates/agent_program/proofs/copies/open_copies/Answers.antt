use Rattle.agent_program.proofs.copies.open_copies.Goals as goal

pub returns-in-Ok-clause-found : goal.returns-in-Ok-clause-found
returns-in-Ok-clause-found g c = λ clean. (_, c.in_ok-copy_file-2.ensures.bytes, c.in_ok-copy_file.ensures.bytes, c.in-Ok.ensures.found clean)
