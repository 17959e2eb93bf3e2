use Rattle.std.proofs.Common.{◌≡◌, ◌+◌, take}
use Rattle.vault_volume.specs.Extents.{blocks_of}
use Rattle.custody_rules.proofs.extents.have_blocks.Given as goal

abbrev pub invariant-loop-extent : goal.invariant-loop-extent
invariant-loop-extent l = blocks_of (take l.extent-index l.extents) + l.left ≡ l.count
