use Rattle.std.proofs.Common.{◌≡◌, take}
use Rattle.extent_map.specs.Extents.{GivesBack}
use Rattle.vault_volume.specs.Vault.{volume_of, IsFree}
use Rattle.vault_volume.proofs.vault.Vault.give_back.Given as goal

abbrev pub invariant-loop-extent : goal.invariant-loop-extent
invariant-loop-extent g l = record {
  volume : volume_of l.self ≡ volume_of l.initial.self;
  given_back : GivesBack (IsFree l.initial.self) (take l.extent-index l.extents) (IsFree l.self);
}
