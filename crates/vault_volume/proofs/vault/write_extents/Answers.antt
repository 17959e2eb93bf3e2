use Rattle.std.proofs.Common.{arith}
use Rattle.vault_volume.specs.Extents.{IsInAny}
use Rattle.vault_volume.proofs.Moments.{goes_on}
use Rattle.vault_volume.proofs.Writes.{synced}
use Rattle.vault_volume.proofs.vault.write_extents.Goals as goal

pub returns-clause-any_moment : goal.returns-clause-any_moment
returns-clause-any_moment g c = λ tells.
    let so_far = c.fill_extents.ensures.any_moment tells in
    let image = g.V.Volume.image c.args.volume.now in
    let left = g.V.Volume.left_at c.args.volume.now (g.V.Volume.moment c.args.volume.now) in
    goes_on g.V.Volume.moment g.V.Volume.left_at _ _ _ _ so_far (c.sync.ensures.clock tells)
    (synced (IsInAny c.args.extents.now) image left c.sync.result _ _ _ (c.fill_extents.ensures.image tells)
    (λ old h. so_far.since (g.V.Volume.moment c.fill_extents.new.volume) old so_far.later (omega arith) h)
    (c.sync.ensures.settled tells) (c.sync.ensures.unsettled tells))
