-- A volume in one of the machine's files.
use Rattle.vault_volume.specs.contracts.host_file.HostFileBlockFile.TheImpl.{ghosts}
use Rattle.vault_volume.specs.declared.file_volume.FileVolume.{FileVolume}
use Rattle.vault_volume.specs.declared.host_file.HostFile.{HostFile}

abbrev pub HostVolume : Type 0
HostVolume = FileVolume HostFile ghosts
