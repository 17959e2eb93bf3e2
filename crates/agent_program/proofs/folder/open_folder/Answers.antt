use Rattle.std.proofs.Common.{◌≡◌, ◌∙◌, ℕ, List, Option, IsSome, subst}
use Rattle.vault_volume.specs.contracts.file_volume.FileVolumeVolume.TheImpl.{ghosts}
use Rattle.agent_program.specs.Host.{IsVolumeHeld, volume_path}
use Rattle.agent_program.proofs.HostLemmas.{database_is_other, log_is_other, same_database, volume_is_other}
use Rattle.agent_program.proofs.folder.open_folder.Goals as goal

pub returns-in-Ok-clause-held : goal.returns-in-Ok-clause-held
returns-in-Ok-clause-held g c = λ reveals.
    let folder = c.args.folder.now in
    let is : c.deref.result.now ≡ volume_path folder = c.deref.ensures ∙ c.in_ok-path.ensures in
    let others = c.open_volume.ensures.others reveals in
    record {
      volume_is = subst (λ path. IsVolumeHeld (g.H.BlockFiles.holds c.args.host.now) (ghosts g.row.H-File g.H.File.BlockFile g.H.File.BlockFile-dict g.H.File.Destruct-dict) path c.in_ok-volume.volume) is (c.in_ok-volume.ensures.held reveals);
      database_is = same_database (g.H.BlockFiles.holds c.args.host.now) (g.H.BlockFiles.holds c.open_volume.new.host) g.H.DatabaseFile.Disk _ c.in-Ok.db (others _ (rw is (database_is_other folder))) (others _ (rw is (log_is_other folder))) (c.in-Ok.ensures.held reveals);
      there = subst (λ (known : Option (List ℕ)). IsSome known) (others _ (rw is (database_is_other folder))) (c.in-Ok.ensures.there reveals);
    }

pub returns-in-Ok-clause-open : goal.returns-in-Ok-clause-open
returns-in-Ok-clause-open g c = λ reveals.
    let folder = c.args.folder.now in
    let is : c.deref.result.now ≡ volume_path folder = c.deref.ensures ∙ c.in_ok-path.ensures in
    (c.find_and_open_database.ensures.others_open reveals _ (volume_is_other folder) (subst (λ path. g.H.BlockFiles.is_open c.open_volume.new.host path) is (c.in_ok-volume.ensures.open reveals)), c.in-Ok.ensures.open reveals)

pub returns-in-Ok-clause-others : goal.returns-in-Ok-clause-others
returns-in-Ok-clause-others g c = λ reveals path away.
    let is : c.deref.result.now ≡ volume_path c.args.folder.now = c.deref.ensures ∙ c.in_ok-path.ensures in
    c.find_and_open_database.ensures.others reveals path away.1 ∙ c.open_volume.ensures.others reveals path (rw is away.0)

pub returns-in-Ok-clause-moment : goal.returns-in-Ok-clause-moment
returns-in-Ok-clause-moment g c = c.find_and_open_database.ensures.moment ∙ g.met.H.Host.beside_shown _ _ c.open_volume.ensures.beside
