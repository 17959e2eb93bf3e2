-- What is read of the parts of a revision.
use Rattle.std.specs.Prelude.{◌≡◌, ℕ, ◌+◌, List, Contains, option_map, Result, Ok, Err}
use Rattle.std.specs.FinMap.{get}
use Rattle.deposit_name.specs.Name.{Name}
use Rattle.vault_volume.specs.declared.errors.ReadError.{ReadError}
use Rattle.vault_volume.specs.declared.errors.ReadError.TheVariants.{NoMemory, VolumeFailed}
use Rattle.vault_volume.specs.declared.vault.Vault.{Vault}
use Rattle.vault_volume.specs.declared.volume.Volume as volume
use Rattle.vault_volume.specs.Disk.{LeavesOnly}
use Rattle.vault_volume.specs.Extents.{SameFree}
use Rattle.vault_volume.specs.Vault.{volume_of, IsFree}
use Rattle.custody_records.specs.Keys.{PartKey}
use Rattle.custody_records.specs.Records.{Records}
use Rattle.custody_machine.specs.Machine.{bytes_held, joined_bytes, part_keys}
use Rattle.custody_machine.specs.StoredState.{part_of, state_in, HasDigestAt}
use Rattle.custody.specs.declared.reading.RevisionBytes as found
use Rattle.custody.specs.declared.reading.RevisionBytes.TheVariants.{Whole, Broken}

-- A volume was read, and not written: blocks, bytes, and what a stop may leave at each moment since are as they were.
pub record ReadsVault {V : Type 0} {g : volume.Ghosts V} (old new : Vault V g) : Type 0 where
  pub free : SameFree (IsFree old) (IsFree new)
  pub size : g.size (volume_of new) ≡ g.size (volume_of old)
  pub image : g.tells → g.image (volume_of new) ≡ g.image (volume_of old)
  pub any_moment : g.tells → LeavesOnly g.moment g.left_at (volume_of old) (volume_of new) (g.left_at (volume_of old) (g.moment (volume_of old)))

-- it counts one failure where it is said to have failed, and none else
abbrev pub CountsReadFailure : {T : Type 0} → Result T ReadError → (before now : ℕ) → Type 0
CountsReadFailure (Ok found) before now = now ≡ before
CountsReadFailure (Err NoMemory) before now = now ≡ before
CountsReadFailure (Err VolumeFailed) before now = now ≡ before + 1

-- the bytes that an image holds of the part with a key
abbrev pub bytes_under : List ℕ → Records → PartKey → List ℕ
bytes_under image records key = bytes_held (option_map (part_of image) (get records.parts key))

-- the bytes of a revision's parts were read, joined, and each has its digest; or this one of them has not
abbrev pub IsRevisionRead : found.RevisionBytes → Records → List ℕ → Name → Type 0
IsRevisionRead (Whole bytes) records image name = (bytes.items ≡ joined_bytes (state_in records image) name) × ((key : PartKey) → Contains (part_keys (state_in records image) name) key → HasDigestAt image records key)
IsRevisionRead (Broken key) records image name = Contains (part_keys (state_in records image) name) key × (¬ HasDigestAt image records key)
