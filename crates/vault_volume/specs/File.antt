-- A volume that is a file, and why there is none in a file.
use Rattle.std.specs.Prelude.{◌≢◌, ℕ, ◌*◌, ◌<◌, ◌^◌, ◌++◌, Bool, List, Option, Some, None, codes, decimal}
use Rattle.vault_volume.specs.declared.block_file.BlockFile as block_file
use Rattle.vault_volume.specs.declared.file_volume.FileVolume.{FileVolume}
use Rattle.vault_volume.specs.declared.file_error.FileError.{FileError}
use Rattle.vault_volume.specs.declared.file_error.FileError.TheVariants.{Missing, Locked, WrongLength, Io}

module _ {F : Type 0} {g : block_file.Ghosts F} where
  -- whether its blocks were made anew, all zero, when the file was opened
  abbrev pub is_new_file : FileVolume F g → Bool
  is_new_file volume = volume.is_new

  abbrev pub block_file_of : FileVolume F g → F
  block_file_of volume = volume.file

-- a file is refused for its length only where that is no number of blocks
abbrev pub IsRefusedRightly : FileError → Type 0
IsRefusedRightly Missing = Unit {0}
IsRefusedRightly Locked = Unit {0}
IsRefusedRightly (WrongLength bytes) = (blocks : ℕ) → blocks < 2 ^ 32 → 4096 * blocks ≢ bytes
IsRefusedRightly (Io fault) = Unit {0}

-- an error that says nothing of the file's length
abbrev pub IsNotOfLength : FileError → Type 0
IsNotOfLength e = (bytes : ℕ) → e ≢ WrongLength bytes

-- what an error prints; a fault of input or output prints what the system tells of it
abbrev pub file_error_text : FileError → Option (List ℕ)
file_error_text Missing = Some (codes "file missing")
file_error_text Locked = Some (codes "file in use")
file_error_text (WrongLength bytes) = Some (decimal bytes ++ codes " bytes are no whole number of blocks")
file_error_text (Io fault) = None
