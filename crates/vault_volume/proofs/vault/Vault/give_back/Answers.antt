use Rattle.std.proofs.Common.{◌≡◌, ◌∙◌, ap, get_or, sym, subst}
use Rattle.extent_map.specs.Extents.{IsUsed}
use Rattle.extent_map.specs.declared.extent.Extent.{Extent}
use Rattle.extent_map.specs.Map as map
use Rattle.vault_volume.specs.Vault.{IsFree}
use Rattle.vault_volume.proofs.FreeLemmas.{still_used, gives_next}
use Rattle.vault_volume.proofs.vault.Vault.give_back.Goals as goal

pub free-requires : goal.free-requires
free-requires g c =
    let d : Extent = record { start = 0; count = 0 } in
    let size = g.V.Volume.size c.args.self.now.volume in
    let same : size ≡ map.size_of c.loop-extent.self.map = sym (c.loop-extent.self.same_size ∙ ap g.V.Volume.size c.loop-extent.invariant.volume) in
    subst (λ n. IsUsed n (IsFree c.loop-extent.self) (get_or c.args.extents.now c.loop-extent.extent-index d)) same
    (still_used size (IsFree c.args.self.now) (IsFree c.loop-extent.self) (IsFree c.loop-extent.self) c.args.extents.now c.loop-extent.extent-index d c.loop-extent-test.true c.requires.used c.requires.apart c.loop-extent.invariant.given_back)

pub loop-extent-preserved : goal.loop-extent-preserved
loop-extent-preserved g c =
    let d : Extent = record { start = 0; count = 0 } in
    record {
      volume = c.loop-extent.invariant.volume;
      given_back = gives_next (g.V.Volume.size c.args.self.now.volume) (IsFree c.args.self.now) (IsFree c.loop-extent.self) (map.IsFree c.free.new.self) c.args.extents.now c.loop-extent.extent-index d c.loop-extent-test.true
          c.requires.used c.requires.apart c.loop-extent.invariant.given_back c.free.ensures.freed;
    }
