use Rattle.agent_program.proofs.folder.close_database.Goals as goal

pub returns-clause-left : goal.returns-clause-left
returns-clause-left g c = λ reveals. record {
  files = c.into_files-files.result;
  left = c.into_files-files.ensures;
  db_held = c.close_database.ensures.db reveals;
  log_held = c.close_database.ensures.log reveals;
}
