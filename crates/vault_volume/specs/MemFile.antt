-- A machine in memory: the one file that it may have.
use Rattle.std.specs.Prelude.{◌≡◌, ℕ, List, Option, None, bytes_eq, option_map, string_bytes, if◌then◌else◌}
use Rattle.vault_volume.specs.declared.mem_file.MemFiles.{MemFiles}

abbrev pub mem_file_name : MemFiles → List ℕ
mem_file_name files = string_bytes files.name

-- the bytes of the file of a path, where there is one that is not open
abbrev pub held_at : MemFiles → List ℕ → Option (List ℕ)
held_at files path = if bytes_eq (mem_file_name files) path then option_map (λ volume. volume.image.items) files.volume else None

-- its file was opened by this path, and is not closed
abbrev pub IsOpenAt : MemFiles → List ℕ → Type 0
IsOpenAt files path = (mem_file_name files ≡ path) × (files.volume ≡ None)
