use Rattle.vault_volume.proofs.Moments.{nothing_yet}
use Rattle.vault_volume.proofs.vault.read_some.Goals as goal

pub returns-then-is_empty-clause-any_moment : goal.returns-then-is_empty-clause-any_moment
returns-then-is_empty-clause-any_moment g c = λ tells. nothing_yet g.V.Volume.moment g.V.Volume.left_at c.args.volume.now _ (λ image h. h)
