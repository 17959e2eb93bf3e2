-- A database over files in memory that were settled when it was opened.
use Rattle.std.specs.Prelude.{◌≡◌}
use Rattle.sqlite_disk.specs.declared.Files.{Files}
use Rattle.sqlite_disk.specs.declared.memory.Memory.{Memory}
use Rattle.sqlite_disk.specs.Disk.{Only}
use Rattle.sqlite_disk.specs.Memory.{memory_bytes}
use Rattle.sqlite_disk.specs.contracts.memory.MemoryDisk.TheImpl.{ghosts as memory}
use Rattle.sqlite_store.specs.declared.store.FileStore.{FileStore}
use Rattle.sqlite.specs.Files.{Finds, file_state}
use Rattle.sqlite.specs.Held.{Held}
use Rattle.sqlite.specs.State.{HasCleanDisk}

-- a file in memory has the same bytes, and a stop leaves them
abbrev pub IsSettledFrom : (old new : Memory) → Type 0
IsSettledFrom old new = (memory_bytes new ≡ memory_bytes old) × Only (memory.seen new) (memory.may_leave new)

-- the database is the one that is found in these files, settled
abbrev pub IsFoundSettled : Files Memory → Held (FileStore Memory memory) → Type 0
IsFoundSettled files db = HasCleanDisk (file_state db) → (settled : Files Memory) × IsSettledFrom files.db settled.db × IsSettledFrom files.log settled.log × Finds settled db
