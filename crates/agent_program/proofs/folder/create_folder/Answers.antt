use Rattle.std.proofs.Common.{◌≡◌, ◌∙◌, subst}
use Rattle.vault_volume.specs.contracts.file_volume.FileVolumeVolume.TheImpl.{ghosts}
use Rattle.agent_program.specs.Host.{IsDatabaseHeld, database_path}
use Rattle.agent_program.proofs.HostLemmas.{same_volume, volume_is_other}
use Rattle.agent_program.proofs.folder.create_folder.Goals as goal

pub returns-in-Ok-clause-held : goal.returns-in-Ok-clause-held
returns-in-Ok-clause-held g c = λ reveals.
    let folder = c.args.folder.now in
    let is : c.deref.result.now ≡ database_path folder = c.deref.ensures ∙ c.in_ok-path.ensures in
    record {
      volume_is = same_volume (g.H.BlockFiles.holds c.args.host.now) (g.H.BlockFiles.holds c.open_database.new.host) (ghosts g.row.H-File g.H.File.BlockFile g.H.File.BlockFile-dict g.H.File.Destruct-dict) folder c.args.blocks c.in-Ok.volume (c.open_database.ensures.others reveals _ (rw is (volume_is_other folder))) (c.in-Ok.ensures.held reveals);
      database_is = (c.in_ok-db.db, subst (λ path. IsDatabaseHeld (g.H.BlockFiles.holds c.args.host.now) g.H.DatabaseFile.Disk path c.in_ok-db.db) is (c.in_ok-db.ensures.held reveals), c.in-Ok.ensures.asked);
    }

pub returns-in-Ok-clause-others : goal.returns-in-Ok-clause-others
returns-in-Ok-clause-others g c = λ reveals path away.
    let is : c.deref.result.now ≡ database_path c.args.folder.now = c.deref.ensures ∙ c.in_ok-path.ensures in
    c.open_or_create_volume.ensures.others reveals path away.0 ∙ c.open_database.ensures.others reveals path (rw is away.1)

pub close_database-requires : goal.close_database-requires
close_database-requires g c = λ reveals. c.open_or_create_volume.ensures.beside _ (rw c.deref-in-Err.ensures (rw c.deref.ensures at c.in_ok-db.ensures.open reveals))

pub returns-clause-others : goal.returns-clause-others
returns-clause-others g c = λ reveals path away.
    let is : c.deref.result.now ≡ database_path c.args.folder.now = c.deref.ensures ∙ c.in_ok-path.ensures in
    let is_again : c.deref-in-Err.result.now ≡ database_path c.args.folder.now = c.deref-in-Err.ensures ∙ c.in_ok-path.ensures in
    c.close_database.ensures.others reveals path (rw is_again away.1) ∙ c.open_or_create_volume.ensures.others reveals path away.0 ∙ c.open_database.ensures.others reveals path (rw is away.1)
