-- The paths of a folder's files, and what is held at them as one of the files is opened.
use Rattle.std.proofs.Common.{◌≡◌, ◌≢◌, ◌∙◌, ℕ, List, Option, ap, arith, codes, length, length-append, sym}
use Rattle.vault_volume.specs.declared.block_file.BlockFile as block_file
use Rattle.vault_volume.specs.declared.file_volume.FileVolume.{FileVolume}
use Rattle.vault_volume.specs.declared.volume.Volume as volume
use Rattle.sqlite_disk.specs.declared.Disk as disk
use Rattle.sqlite_disk.specs.contracts.memory.MemoryDisk.TheImpl.{ghosts as memory}
use Rattle.sqlite_disk.specs.declared.memory.Memory.{Memory}
use Rattle.sqlite_store.specs.declared.store.FileStore.{FileStore}
use Rattle.sqlite.specs.Held.{Held}
use Rattle.agent_program.specs.Copies.{IsCopyFound}
use Rattle.agent_program.specs.Folder.{IsVolumeMade}
use Rattle.agent_program.specs.Host.{IsDatabaseHeld, IsDatabaseLeft, IsOtherPath, bytes_or_none, database_path, log_path, volume_path}

longer : (a b : List ℕ) → length a ≢ length b → a ≢ b
longer a b differ same = differ (ap length same)

pub database_is_other : (folder : List ℕ) → database_path folder ≢ volume_path folder
database_is_other folder = longer (database_path folder) (volume_path folder) (λ same. omega (arith, same, length-append folder (codes "/custody.db"), length-append folder (codes "/vault.vol")))

pub log_is_other : (folder : List ℕ) → log_path (database_path folder) ≢ volume_path folder
log_is_other folder = longer (log_path (database_path folder)) (volume_path folder)
    (λ same. omega (arith, same, length-append (database_path folder) (codes "-wal"), length-append folder (codes "/custody.db"), length-append folder (codes "/vault.vol")))

pub volume_is_other : (folder : List ℕ) → IsOtherPath (database_path folder) (volume_path folder)
volume_is_other folder = ((λ same. database_is_other folder (sym same)), (λ same. log_is_other folder (sym same)))

module _ (old new : List ℕ → Option (List ℕ)) where
  -- what holds the same at both paths holds the same database
  pub same_database : {D : Type 0} (d : disk.Ghosts D) (path : List ℕ) (db : Held (FileStore D d)) → new path ≡ old path → new (log_path path) ≡ old (log_path path) → IsDatabaseHeld new d path db → IsDatabaseHeld old d path db
  same_database d path db same same_log held = λ clean.
      let found = held clean in
      (found.0, record { db = found.1.db ∙ ap bytes_or_none same; log = found.1.log ∙ ap bytes_or_none same_log; db_settled = found.1.db_settled; log_settled = found.1.log_settled }, found.2)

  -- and the same copies
  pub same_copy : (path : List ℕ) (db : Held (FileStore Memory memory)) → new path ≡ old path → new (log_path path) ≡ old (log_path path) → IsCopyFound new path db → IsCopyFound old path db
  same_copy path db same same_log found = λ clean.
      let copies = found clean in
      (copies.0, rw (sym same) copies.1, rw (sym same_log) copies.2, copies.3)

  -- and the same volume
  pub same_volume : {F : Type 0} {f : block_file.Ghosts F} (g : volume.Ghosts (FileVolume F f)) (folder : List ℕ) (blocks : ℕ) (volume : FileVolume F f) → new (volume_path folder) ≡ old (volume_path folder)
      → IsVolumeMade new g folder blocks volume → IsVolumeMade old g folder blocks volume
  same_volume g folder blocks volume same made = rw (sym same) made

  -- what is held the same at both paths is what a database left there
  pub same_left : {D : Type 0} (d : disk.Ghosts D) (path : List ℕ) (db : Held (FileStore D d)) → new path ≡ old path → new (log_path path) ≡ old (log_path path) → IsDatabaseLeft old d path db → IsDatabaseLeft new d path db
  same_left d path db same same_log left = record { files = left.files; left = left.left; db_held = same ∙ left.db_held; log_held = same_log ∙ left.log_held }
