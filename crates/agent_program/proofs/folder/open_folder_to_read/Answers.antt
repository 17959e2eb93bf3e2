use Rattle.std.proofs.Common.{◌≡◌, ◌∙◌, subst}
use Rattle.vault_volume.specs.contracts.file_volume.FileVolumeVolume.TheImpl.{ghosts}
use Rattle.agent_program.specs.Host.{IsVolumeHeld, volume_path}
use Rattle.agent_program.proofs.HostLemmas.{database_is_other, log_is_other, same_copy}
use Rattle.agent_program.proofs.folder.open_folder_to_read.Goals as goal

pub returns-in-Ok-clause-held : goal.returns-in-Ok-clause-held
returns-in-Ok-clause-held g c = λ reveals.
    let folder = c.args.folder.now in
    let is : c.deref.result.now ≡ volume_path folder = c.deref.ensures ∙ c.in_ok-path.ensures in
    let others = c.open_volume.ensures.others reveals in
    record {
      volume_is = subst (λ path. IsVolumeHeld (g.H.BlockFiles.holds c.args.host.now) (ghosts g.row.H-File g.H.File.BlockFile g.H.File.BlockFile-dict g.H.File.Destruct-dict) path c.in_ok-volume.volume) is (c.in_ok-volume.ensures.held reveals);
      database_is = same_copy (g.H.BlockFiles.holds c.args.host.now) (g.H.BlockFiles.holds c.open_volume.new.host) _ c.in-Ok.db (others _ (rw is (database_is_other folder))) (others _ (rw is (log_is_other folder))) (c.in-Ok.ensures.found reveals);
    }

pub returns-in-Ok-clause-others : goal.returns-in-Ok-clause-others
returns-in-Ok-clause-others g c = λ reveals other away.
    let is : c.deref.result.now ≡ volume_path c.args.folder.now = c.deref.ensures ∙ c.in_ok-path.ensures in
    c.open_volume.ensures.others reveals other (rw is away)
