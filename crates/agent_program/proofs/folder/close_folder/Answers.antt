use Rattle.std.proofs.Common.{◌∙◌, Some, ap, sym}
use Rattle.agent_program.proofs.HostLemmas.{same_left}
use Rattle.agent_program.proofs.folder.close_folder.Goals as goal

pub returns-in-Open-clause-left : goal.returns-in-Open-clause-left
returns-in-Open-clause-left g c = λ reveals.
    let others = c.close.ensures.others reveals in
    rw c.in-Open.is (
      c.close.ensures.closed reveals ∙ ap (λ file. Some (g.H.File.BlockFile.image file)) c.into_file.ensures,
      same_left (g.H.BlockFiles.holds c.close_database.new.host) (g.H.BlockFiles.holds c.close.new.self) g.H.DatabaseFile.Disk c.args.database_path.now c.in-Open.field-0.db
          (others _ (λ same. c.requires.apart.0 (sym same))) (others _ (λ same. c.requires.apart.1 (sym same))) (c.close_database.ensures.left reveals),
    )

pub returns-in-Open-clause-others : goal.returns-in-Open-clause-others
returns-in-Open-clause-others g c = λ reveals other away database_away. c.close.ensures.others reveals other away ∙ c.close_database.ensures.others reveals other database_away
