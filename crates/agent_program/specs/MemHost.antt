-- A machine in memory: the files that it holds.
use Rattle.std.specs.Prelude.{◌≡◌, ◌⊎◌, ◌||◌, ℕ, Bool, true, false, List, Option, None, Some, IsSome, bytes_eq, codes, option_map, string_bytes}
use Rattle.sqlite_disk.specs.declared.Files.{Files}
use Rattle.sqlite_disk.specs.declared.memory.Memory.{Memory}
use Rattle.sqlite_disk.specs.Memory.{memory_bytes}
use Rattle.vault_volume.specs.MemFile.{IsOpenAt, held_at}
use Rattle.agent_program.specs.declared.mem_host.MemHost.{MemHost}

-- the bytes of a path: those of the database, of its log, of the other file, or else of the volume
abbrev pub held_of : Option (Files Memory) → (other : List ℕ) → (is_database is_log is_other : Bool) → (volume : Option (List ℕ)) → Option (List ℕ)
held_of database other true is_log is_other volume = option_map (λ files. memory_bytes files.db) database
held_of database other false true is_other volume = option_map (λ files. memory_bytes files.log) database
held_of database other false false true volume = Some other
held_of database other false false false volume = volume

abbrev pub held_in : MemHost → List ℕ → Option (List ℕ)
held_in h path = held_of h.database h.other.bytes.now (bytes_eq (string_bytes h.database_path) path) (bytes_eq (string_bytes h.log_path) path) (bytes_eq h.other.path.now path) (held_at h.volumes path)

-- a path is one of the database's, or it is that of the other file too
abbrev pub is_database : MemHost → List ℕ → Bool
is_database h path = bytes_eq (string_bytes h.database_path) path || bytes_eq (string_bytes h.log_path) path

abbrev pub is_beside : MemHost → List ℕ → Bool
is_beside h path = is_database h path || bytes_eq h.other.path.now path

-- a file stands at a path: the null device, which is no database's, or one that is held
abbrev pub IsThereIn : MemHost → List ℕ → Type 0
IsThereIn h path = ((path ≡ codes "/dev/null") × (is_database h path ≡ false)) ⊎ IsSome (held_in h path)

-- a volume is open by a path
abbrev pub IsVolumeOpenIn : MemHost → List ℕ → Type 0
IsVolumeOpenIn h path = (is_beside h path ≡ false) × IsOpenAt h.volumes path

-- the database is open by a path
abbrev pub IsDatabaseOpenIn : MemHost → List ℕ → Type 0
IsDatabaseOpenIn h path = (string_bytes h.database_path ≡ path) × (h.database ≡ None)

-- the database and the clock of a machine are the same
pub record IsSameBeside (old new : MemHost) : Type 0 where
  pub path_is : string_bytes new.database_path ≡ string_bytes old.database_path
  pub database_is : new.database ≡ old.database
  pub clock_is : new.clock ≡ old.clock
