use Rattle.std.proofs.Common.{◌≡◌, ◌∙◌, ap}
use Rattle.vault_volume.specs.contracts.file_volume.FileVolumeVolume.TheImpl.{ghosts}
use Rattle.agent_program.specs.Host.{database_path, volume_path}
use Rattle.agent_program.proofs.FolderLemmas.{left_since}
use Rattle.agent_program.proofs.program.obey.Goals as goal

pub returns-clause-done : goal.returns-clause-done
returns-clause-done g c =
    let folder = c.args.order.now.folder.now in
    let volume_is : c.deref-2.result.now ≡ volume_path folder = c.deref-2.ensures ∙ c.in_ok-volume_path.ensures in
    let database_is : c.deref-3.result.now ≡ database_path folder = c.deref-3.ensures ∙ c.in_ok-database_path.ensures in
    record {
      ended = c.in_ok-ended.ended;
      told = _;
      noted = _;
      done = c.in_ok-ended.ensures.done;
      status_is = c.status-status.ensures;
      output_failed = c.tell_failed_output.ensures;
      quiet = λ none. c.tell_cause.ensures (ap (λ volume. volume.failures.count) c.volume.ensures ∙ none);
      left = λ reveals. left_since (ghosts g.row.H-File g.H.File.BlockFile g.H.File.BlockFile-dict g.H.File.Destruct-dict) (g.H.BlockFiles.holds c.args.host.now) (g.H.BlockFiles.holds c.carry_out.new.host) (g.H.BlockFiles.holds c.close_folder.new.host)
          (volume_path folder) (database_path folder) c.in_ok-ended.ended (c.in_ok-ended.ensures.left_open reveals).1 (rw (volume_is, database_is) at c.close_folder.ensures.left reveals);
      others = λ reveals path away. c.close_folder.ensures.others reveals path (rw volume_is away.0) (rw database_is away.1) ∙ c.carry_out.ensures.others reveals path away;
    }
