-- Copies in memory of what files hold.
use Rattle.std.specs.Prelude.{◌≡◌, ℕ, List, [], Option, None, Some, IfSome}
use Rattle.sqlite_disk.specs.declared.memory.Memory.{Memory}
use Rattle.sqlite_disk.specs.Memory.{memory_bytes}
use Rattle.sqlite_disk.specs.declared.Files.{Files}
use Rattle.sqlite_disk.specs.contracts.memory.MemoryDisk.TheImpl.{ghosts as memory}
use Rattle.sqlite_store.specs.declared.store.FileStore.{FileStore}
use Rattle.sqlite.specs.Files.{Finds, file_state}
use Rattle.sqlite.specs.Held.{Held}
use Rattle.sqlite.specs.State.{HasCleanDisk}
use Rattle.agent_program.specs.Host.{log_path}

-- it has the bytes of a file, where that tells them, and of a missing file none
abbrev pub IsCopy : {R : Type 0} → (R → Option (List ℕ)) → Option R → Memory → Type 0
IsCopy remaining None copy = memory_bytes copy ≡ []
IsCopy remaining (Some file) copy = IfSome (remaining file) (λ all. memory_bytes copy ≡ all)

-- this holds of copies of a database file and its log
abbrev pub AreCopies : {R : Type 0} → (R → Option (List ℕ)) → (db : R) → (log : Option R) → (Files Memory → Type 0) → Type 0
AreCopies remaining db log Holds = (files : Files Memory) × IsCopy remaining (Some db) files.db × IsCopy remaining log files.log × Holds files

module _ (held : List ℕ → Option (List ℕ)) where
  -- a copy has the bytes of the file of a path, where the host holds it
  abbrev pub HasBytesHeld : (path : List ℕ) → Memory → Type 0
  HasBytesHeld path copy = IfSome (held path) (λ all. memory_bytes copy ≡ all)

  -- the database is the one that is found in copies of the files of a path and of its log
  abbrev pub IsCopyFound : (path : List ℕ) → Held (FileStore Memory memory) → Type 0
  IsCopyFound path db = HasCleanDisk (file_state db) → (files : Files Memory) × HasBytesHeld path files.db × HasBytesHeld (log_path path) files.log × Finds files db

  module _ (IsThere : List ℕ → Type 0) where
    -- a file is open at its start, or there is none
    abbrev pub IsReaderOf : {R : Type 0} → (R → Option (List ℕ)) → (path : List ℕ) → Option R → Type 0
    IsReaderOf remaining path None = IsThere path → ⊥
    IsReaderOf remaining path (Some file) = IsThere path × IfSome (held path) (λ all. remaining file ≡ Some all)

    -- a copy has the bytes of a file, and of a missing one none
    pub record IsCopyOf (path : List ℕ) (copy : Memory) : Type 0 where
      pub bytes : HasBytesHeld path copy
      pub missing : (IsThere path → ⊥) → memory_bytes copy ≡ []

    -- so the database is found in copies of both files
    abbrev pub IsCopyHeld : (path : List ℕ) → Held (FileStore Memory memory) → Type 0
    IsCopyHeld path db = HasCleanDisk (file_state db) → (files : Files Memory) × IsCopyOf path files.db × IsCopyOf (log_path path) files.log × Finds files db
