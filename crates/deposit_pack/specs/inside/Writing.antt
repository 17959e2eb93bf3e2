-- Files that are written one behind the other, for private clauses.
use Rattle.std.specs.Prelude.{◌≡◌, ◌≤◌, ◌<◌, ◌++◌, ⊤, ℕ, List, All, Contains, length, map}
use Rattle.std.specs.List.{concat}
use Rattle.envelope.specs.Envelope.{file_length_max}
use Rattle.envelope.specs.declared.envelope.FileEntry.{FileEntry}
use Rattle.deposit_pack.specs.Packing.{NamedRows, packed_entry, file_of}
use Rattle.deposit_pack.specs.declared.pack_error.PackError.{PackError}
use Rattle.deposit_pack.specs.declared.pack_error.PackError.TheVariants.{Length, Memory}

-- the files of these rows, which have these entries, were written behind what stood before
pub record AreAppended (files : List NamedRows) (before after : List ℕ) (entries : List FileEntry) : Type 0 where
  pub bytes : after ≡ before ++ concat (map file_of files)
  pub listed : entries ≡ map packed_entry files
  pub lengths : All (λ f. length (file_of f) ≤ file_length_max) files

-- one of the files is too long
abbrev pub IsWriteError : List NamedRows → PackError → Type 0
IsWriteError files Length = (f : NamedRows) × Contains files f × (file_length_max < length (file_of f))
IsWriteError files Memory = ⊤
IsWriteError files error = ⊥
