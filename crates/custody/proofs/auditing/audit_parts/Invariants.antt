use Rattle.std.proofs.Common.{◌≡◌, map}
use Rattle.vault_volume.specs.Vault.{volume_of}
use Rattle.custody.specs.Reading.{ReadsVault}
use Rattle.custody.proofs.AuditLemmas.{IsPicked, IsPicking, IsPassing}
use Rattle.custody.proofs.auditing.audit_parts.Given as goal

abbrev pub invariant-loop-part : goal.invariant-loop-part
invariant-loop-part g l =
    let image = g.V.Volume.image (volume_of l.fn.vault) in
    record {
      read : ReadsVault l.fn.vault l.vault;
      failures : g.V.Volume.failures (volume_of l.vault) ≡ g.V.Volume.failures (volume_of l.fn.vault);
      picked : IsPicked (IsPicking g.V.Volume.tells image) (IsPassing g.V.Volume.tells image) (map (λ part. part.now) l.yielded) l.damaged.items;
    }
