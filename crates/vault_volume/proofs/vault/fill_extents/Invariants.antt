use Rattle.std.proofs.Common.{◌≡◌, ◌+◌, ◌-◌, ◌*◌, ◌++◌, min, length, take}
use Rattle.vault_volume.specs.Disk.{ChangedIn, LeavesOnly}
use Rattle.vault_volume.specs.Image.{DiffersOnlyIn}
use Rattle.vault_volume.specs.Extents.{blocks_of, bytes_of, IsInAny}
use Rattle.vault_volume.proofs.vault.fill_extents.Given as goal

abbrev pub invariant-loop-extent : goal.invariant-loop-extent
invariant-loop-extent g l = record {
  skip : l.skip ≡ l.done - 4096 * blocks_of (take l.extent-index l.extents);
  written : l.written ≡ min (4096 * blocks_of (take l.extent-index l.extents) - l.done) (length l.bytes);
  size : g.V.Volume.size l.volume ≡ g.V.Volume.size l.initial.volume;
  failures : g.V.Volume.failures l.volume ≡ g.V.Volume.failures l.initial.volume;
  image : g.V.Volume.tells → DiffersOnlyIn (IsInAny l.extents) (g.V.Volume.image l.initial.volume) (g.V.Volume.image l.volume);
  bytes : g.V.Volume.tells → take (l.done + l.written) (bytes_of (g.V.Volume.image l.volume) l.extents) ≡ take l.done (bytes_of (g.V.Volume.image l.initial.volume) l.extents) ++ take l.written l.bytes;
  left : g.V.Volume.tells
      → LeavesOnly g.V.Volume.moment g.V.Volume.left_at l.initial.volume l.volume
      (ChangedIn (IsInAny l.extents) (g.V.Volume.image l.initial.volume) (g.V.Volume.left_at l.initial.volume (g.V.Volume.moment l.initial.volume)));
}
