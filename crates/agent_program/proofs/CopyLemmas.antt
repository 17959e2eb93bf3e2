-- A copy has the bytes of its file: what was written to an empty one from its start on is what it has.
use Rattle.std.proofs.Common.{◌≡◌, ◌+◌, ◌<◌, ◌++◌, ◌∙◌, [], ◌∷◌, List, ℕ, Option, None, Some, Result, IfOk, IfSome, IsSome, arith, length, refl, slice_index, subst, sym}
use Rattle.std.proofs.lemmas.List.{ext_get_or}
use Rattle.sqlite_disk.specs.Disk.{Holds, Torn}
use Rattle.sqlite_disk.specs.Memory.{memory_bytes}
use Rattle.sqlite_disk.specs.declared.memory.Memory.{Memory}
use Rattle.sqlite_disk.specs.contracts.memory.MemoryDisk.TheImpl.{ghosts as memory}
use Rattle.sqlite_store.specs.declared.store.FileStore.{FileStore}
use Rattle.sqlite.specs.Held.{Held}
use Rattle.sqlite.specs.Files.{Finds, file_state}
use Rattle.sqlite.specs.State.{HasCleanDisk}
use Rattle.std.proofs.lemmas.Result.{IfOk-weaker}
use Rattle.agent_program.specs.Host.{log_path}
use Rattle.agent_program.specs.Copies.{AreCopies, IsCopy, IsCopyFound, IsCopyHeld, IsCopyOf, IsReaderOf}

from_start : (i : ℕ) → 0 + i ≡ i
from_start i = omega arith

pub written_whole : (old new bytes : List ℕ) → length old ≡ 0 → Torn 0 (length bytes) old new → (0 < length bytes → Holds new 0 bytes) → new ≡ bytes
written_whole old new [] empty torn holds = ext_get_or 0 new [] (omega (arith, empty, torn.no_longer)) (λ i low. absurd (omega (arith, empty, torn.no_longer, low)))
written_whole old new (b ∷ bytes) empty torn holds =
    let held = holds (omega arith) in
    let same : length new ≡ length (b ∷ bytes) = omega (arith, empty, torn.no_longer, held.within) in
    ext_get_or 0 new (b ∷ bytes) same (λ i low. subst (λ (at : ℕ). slice_index new at ≡ slice_index (b ∷ bytes) i) (from_start i) (held.each i (omega (arith, same, low))))

read_whole : (known : Option (List ℕ)) (before bytes now : List ℕ) → before ≡ [] → IfSome known (λ rest. bytes ≡ before ++ rest) → now ≡ bytes → IfSome known (λ all. now ≡ all)
read_whole None before bytes now none read same = tt
read_whole (Some all) before bytes now none read same = same ∙ read ∙ subst (λ (s : List ℕ). s ++ all ≡ all) (sym none) refl

pub copied : {R : Type 0} (remaining : R → Option (List ℕ)) (file : Option R) (source : R) (before bytes : List ℕ) (copy : Memory) → file ≡ Some source → before ≡ []
    → IfSome (remaining source) (λ rest. bytes ≡ before ++ rest) → memory_bytes copy ≡ bytes → IsCopy remaining file copy
copied remaining file source before bytes copy is none read same =
    subst (λ it. IsCopy remaining it copy) (sym is) (read_whole (remaining source) before bytes (memory_bytes copy) none read same)

-- copies of what is there, or of nothing, are copies of what is held
pub held_found : (held : List ℕ → Option (List ℕ)) (IsThere : List ℕ → Type 0) (path : List ℕ) (db : Held (FileStore Memory memory)) → IsCopyHeld held IsThere path db → IsCopyFound held path db
held_found held IsThere path db found = λ clean. let copies = found clean in (copies.0, copies.1.bytes, copies.2.bytes, copies.3)

-- a copy of what a reader gives is one of the file that it reads
of_known : (known read : Option (List ℕ)) (bytes : List ℕ) → IfSome known (λ all. read ≡ Some all) → IfSome read (λ all. bytes ≡ all) → IfSome known (λ all. bytes ≡ all)
of_known None read bytes reads copied_ = tt
of_known (Some all) None bytes reads copied_ = cc
of_known (Some all) (Some given) bytes reads copied_ = copied_ ∙ some_is given all reads
  where
    some_is : (a b : List ℕ) → Some a ≡ Some b → a ≡ b
    some_is a b is = cc

of_none : (known : Option (List ℕ)) (bytes : List ℕ) → known ≡ None → IfSome known (λ all. bytes ≡ all)
of_none None bytes is = tt
of_none (Some all) bytes is = cc

pub copy_held : {R : Type 0} (held : List ℕ → Option (List ℕ)) (IsThere : List ℕ → Type 0) (remaining : R → Option (List ℕ)) (path : List ℕ) (file : Option R) (copy : Memory)
    → (IsSome (held path) → IsThere path) → IsReaderOf held IsThere remaining path file → IsCopy remaining file copy → IsCopyOf held IsThere path copy
copy_held held IsThere remaining path None copy there reads copied_ = record { bytes = by (held path) refl; missing = λ _. copied_ }
  where
    by : (known : Option (List ℕ)) → held path ≡ known → IfSome (held path) (λ all. memory_bytes copy ≡ all)
    by None is = of_none (held path) (memory_bytes copy) is
    by (Some all) is = absurd (reads (there (subst (λ (known : Option (List ℕ)). IsSome known) (sym is) refl)))
copy_held held IsThere remaining path (Some file) copy there reads copied_ = record { bytes = of_known (held path) (remaining file) (memory_bytes copy) reads.1 copied_; missing = λ missing. absurd (missing reads.0) }

pub copies_held : {R E : Type 0} (held : List ℕ → Option (List ℕ)) (IsThere : List ℕ → Type 0) (remaining : R → Option (List ℕ)) (path : List ℕ) (db : R) (log : Option R) (opened : Result (Held (FileStore Memory memory)) E)
    → ((p : List ℕ) → IsSome (held p) → IsThere p) → IsReaderOf held IsThere remaining path (Some db) → IsReaderOf held IsThere remaining (log_path path) log
    → IfOk opened (λ found. HasCleanDisk (file_state found) → AreCopies remaining db log (λ files. Finds files found)) → IfOk opened (IsCopyHeld held IsThere path)
copies_held held IsThere remaining path db log opened there reads reads_log copied_ =
    IfOk-weaker opened (λ found. HasCleanDisk (file_state found) → AreCopies remaining db log (λ files. Finds files found)) (IsCopyHeld held IsThere path) all copied_
  where
    all : (found : Held (FileStore Memory memory)) → (HasCleanDisk (file_state found) → AreCopies remaining db log (λ files. Finds files found)) → IsCopyHeld held IsThere path found
    all found copies clean =
        let files = copies clean in
        (files.0, copy_held held IsThere remaining path (Some db) files.0.db (there path) reads files.1, copy_held held IsThere remaining (log_path path) log files.0.log (there (log_path path)) reads_log files.2, files.3)
