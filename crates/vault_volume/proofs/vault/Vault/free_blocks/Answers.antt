use Rattle.std.proofs.Common.{subst}
use Rattle.vault_volume.specs.Extents.{HasCount}
use Rattle.vault_volume.specs.Vault.{IsFree}
use Rattle.vault_volume.proofs.vault.Vault.free_blocks.Goals as goal

pub returns : goal.returns
returns g c = subst (λ n. HasCount (IsFree c.args.self.now) n c.free_blocks.result) c.args.self.now.same_size c.free_blocks.ensures
