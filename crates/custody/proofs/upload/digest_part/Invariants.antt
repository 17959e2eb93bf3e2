use Rattle.std.proofs.Common.{◌≡◌, ◌≤◌, ◌-◌}
use Rattle.sha2.specs.Hashers.{Holds256}
use Rattle.vault_volume.specs.Extents.{part_bytes}
use Rattle.vault_volume.specs.Vault.{volume_of}
use Rattle.custody.specs.Reading.{ReadsVault}
use Rattle.custody.proofs.upload.digest_part.Given as goal

abbrev pub invariant-loop-done : goal.invariant-loop-done
invariant-loop-done g l = record {
  within : l.done ≤ l.len;
  read : ReadsVault l.fn.vault l.vault;
  failures : g.V.Volume.failures (volume_of l.vault) ≡ g.V.Volume.failures (volume_of l.fn.vault);
  digest : g.V.Volume.tells → Holds256 l.hasher (part_bytes (g.V.Volume.image (volume_of l.fn.vault)) l.extents l.done);
}

abbrev pub decreases-loop-done : goal.decreases-loop-done
decreases-loop-done g l = l.len - l.done
