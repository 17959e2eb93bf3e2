-- A part that is being written: where it is to lie, and which of its bytes were pushed.
use Rattle.std.specs.Prelude.{◌≡◌, ℕ, List, length}
use Rattle.sha2.specs.Hashers.{Holds256}
use Rattle.extent_map.specs.declared.extent.Extent.{Extent}
use Rattle.vault_volume.specs.declared.opened.Opened.{Opened}
use Rattle.vault_volume.specs.declared.vault.Vault.{Vault}
use Rattle.vault_volume.specs.declared.volume.Volume as volume
use Rattle.vault_volume.specs.Extents.{AreApart, AreUsed, block_count, blocks_of}
use Rattle.vault_volume.specs.Vault.{volume_of, IsFree}

abbrev pub extents_of : Opened → List Extent
extents_of opened = opened.extents.items

-- how many bytes it is to have
abbrev pub len_of : Opened → ℕ
len_of opened = opened.len

-- how many of them are written
abbrev pub written_len : Opened → ℕ
written_len opened = opened.done

-- these bytes were pushed, in this order, and no others
abbrev pub HasPushed : Opened → List ℕ → Type 0
HasPushed opened sent = Holds256 opened.hasher sent × (length sent ≡ opened.done)

-- Its blocks are used in the vault, none of them twice, and are as many as its bytes take.
pub record IsOpenIn {V : Type 0} {g : volume.Ghosts V} (vault : Vault V g) (opened : Opened) : Type 0 where
  pub used : AreUsed (g.size (volume_of vault)) (IsFree vault) (extents_of opened)
  pub apart : AreApart (extents_of opened)
  pub counts : blocks_of (extents_of opened) ≡ block_count (len_of opened)
