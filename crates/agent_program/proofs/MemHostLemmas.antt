-- What a machine in memory holds, and the words that it was started with.
use Rattle.std.proofs.Common.{◌≡◌, ◌≢◌, ◌∙◌, ◌+◌, ◌||◌, ◌∷◌, [], ℕ, List, Option, None, Bool, true, false, IsSome, map, ap, arith, codes, inl, inr, length, length-append, option_map, refl, string_bytes, subst, sym}
use Rattle.std.specs.Prelude.{bytes_eq}
use Rattle.std.specs.List.{AllZip}
use Rattle.std.proofs.lemmas.Slice.Eq.{bytes_eq-Decides}
use Rattle.sqlite_disk.specs.declared.Files.{Files}
use Rattle.sqlite_disk.specs.declared.memory.Memory.{Memory}
use Rattle.sqlite_disk.specs.Memory.{memory_bytes}
use Rattle.vault_volume.specs.MemFile.{held_at}
use Rattle.agent_program.specs.Host.{IsOtherPath, log_path}
use Rattle.agent_program.specs.MemHost.{IsThereIn, held_in, held_of}
use Rattle.agent_program.specs.declared.mem_host.MemHost.{MemHost}

-- the bytes of clones are those of the texts
pub cloned_bytes : {T : Type 0} (bytes : T → List ℕ) (old new : List T) → AllZip (λ s t. bytes t ≡ bytes s) old new → map bytes new ≡ map bytes old
cloned_bytes bytes [] [] all = refl
cloned_bytes bytes [] (t ∷ new) all = absurd all
cloned_bytes bytes (s ∷ old) [] all = absurd all
cloned_bytes bytes (s ∷ old) (t ∷ new) all = ap (λ first. first ∷ map bytes new) all.0 ∙ ap (λ others. bytes s ∷ others) (cloned_bytes bytes old new all.1)

differ : (a b : List ℕ) → a ≢ b → bytes_eq a b ≡ false
differ a b unlike = by (bytes_eq a b) refl
  where
    by : (x : Bool) → bytes_eq a b ≡ x → x ≡ false
    by true is = absurd (unlike ((bytes_eq-Decides a b).0 is))
    by false is = refl

same : (a b : List ℕ) → a ≡ b → bytes_eq a b ≡ true
same a b is = (bytes_eq-Decides a b).1 is

-- a log has another path than its database
apart : (path : List ℕ) → path ≢ log_path path
apart path is = let longer : length path ≡ length path + 4 = ap length is ∙ length-append path (codes "-wal") in omega (arith, longer)

module _ (h : MemHost) (path : List ℕ) (is : string_bytes h.database_path ≡ path) where
  -- what is held at the path of the database, and at that of its log
  pub db_held : held_in h path ≡ option_map (λ files. memory_bytes files.db) h.database
  db_held = ap (λ b. held_of h.database h.other.bytes.now b (bytes_eq (string_bytes h.log_path) path) (bytes_eq h.other.path.now path) (held_at h.volumes path)) (same (string_bytes h.database_path) path is)

  pub log_held : string_bytes h.log_path ≡ log_path (string_bytes h.database_path) → held_in h (log_path path) ≡ option_map (λ files. memory_bytes files.log) h.database
  log_held log =
      let first : bytes_eq (string_bytes h.database_path) (log_path path) ≡ false = differ (string_bytes h.database_path) (log_path path) (subst (λ (db : List ℕ). db ≢ log_path path) (sym is) (apart path)) in
      let second : bytes_eq (string_bytes h.log_path) (log_path path) ≡ true = same (string_bytes h.log_path) (log_path path) (log ∙ ap log_path is) in
      ap (λ b. held_of h.database h.other.bytes.now b (bytes_eq (string_bytes h.log_path) (log_path path)) (bytes_eq h.other.path.now (log_path path)) (held_at h.volumes (log_path path))) first
      ∙ ap (λ b. held_of h.database h.other.bytes.now false b (bytes_eq h.other.path.now (log_path path)) (held_at h.volumes (log_path path))) second

  -- a database that is there is held
  pub held_there : IsThereIn h path → IsSome (held_in h path)
  held_there (inl null) = let never : true ≡ false = sym (ap (λ b. b || bytes_eq (string_bytes h.log_path) path) (same (string_bytes h.database_path) path is)) ∙ null.1 in cc
  held_there (inr held) = held

  -- at other paths no database is held
  pub others_held : string_bytes h.log_path ≡ log_path (string_bytes h.database_path) → (database : Option (Files Memory)) (other : List ℕ) → IsOtherPath path other
      → held_of database h.other.bytes.now (bytes_eq (string_bytes h.database_path) other) (bytes_eq (string_bytes h.log_path) other) (bytes_eq h.other.path.now other) (held_at h.volumes other) ≡ held_in h other
  others_held log database other away =
      by (differ (string_bytes h.database_path) other (λ same_path. away.0 (sym same_path ∙ is))) (differ (string_bytes h.log_path) other (λ same_path. away.1 (sym same_path ∙ log ∙ ap log_path is)))
    where
      of_others : (a b : Option (Files Memory)) (bytes : List ℕ) (mine : Bool) (rest : Option (List ℕ)) → held_of a bytes false false mine rest ≡ held_of b bytes false false mine rest
      of_others a b bytes true rest = refl
      of_others a b bytes false rest = refl

      by : bytes_eq (string_bytes h.database_path) other ≡ false → bytes_eq (string_bytes h.log_path) other ≡ false
          → held_of database h.other.bytes.now (bytes_eq (string_bytes h.database_path) other) (bytes_eq (string_bytes h.log_path) other) (bytes_eq h.other.path.now other) (held_at h.volumes other) ≡ held_in h other
      by first second = rw (first, second) (of_others database h.database h.other.bytes.now (bytes_eq h.other.path.now other) (held_at h.volumes other))

-- where there is no database and no volume, only the other file is held
pub none_held : (other path bytes : List ℕ) (first second : Bool) (rest : Option (List ℕ)) → path ≢ other → rest ≡ None → held_of None bytes first second (bytes_eq other path) rest ≡ None
none_held other path bytes first second rest away none = rw (differ other path (λ same_path. away (sym same_path))) (by first second)
  where
    by : (a b : Bool) → held_of None bytes a b false rest ≡ None
    by true b = refl
    by false true = refl
    by false false = none
