-- The script of a volume in memory, and its room.
use Rattle.std.specs.Prelude.{◌≡◌, ◌↔◌, ◌⊎◌, ℕ, ◌+◌, ◌<◌, ◌≤◌, length, nat_eq, IsSomeAnd, IsTrue}
use Rattle.std.specs.List.{list_any}
use Rattle.std.specs.Vec.{vec_capacity}
use Rattle.vault_volume.specs.declared.memory.MemVolume.{MemVolume}

-- how many calls it has kept, which is the number of the next
abbrev pub call_count : MemVolume → ℕ
call_count volume = length volume.calls.items

-- the call of this number is one of those that are to fail
abbrev pub IsListed : MemVolume → ℕ → Type 0
IsListed volume number = IsTrue (list_any (λ n. nat_eq n number) volume.failing.items)

-- the volume has stopped by this call
abbrev pub IsStopped : MemVolume → ℕ → Type 0
IsStopped volume number = IsSomeAnd volume.stop_at (λ stop. stop ≤ number)

abbrev pub WillFail : MemVolume → ℕ → Type 0
WillFail volume number = IsListed volume number ⊎ IsStopped volume number

-- how many calls it has room for
abbrev pub call_room : MemVolume → ℕ
call_room volume = vec_capacity volume.calls

-- how many more syncs it has a buffer for
abbrev pub sync_room : MemVolume → ℕ
sync_room volume = length volume.spare.items

-- A call answers where the script does not fail it and it finds room, and one that the script fails does not answer. The script and the room for calls stay, and one buffer at most is taken.
pub record FollowsScript (old new : MemVolume) (FindsRoom Answers : Type 0) : Type 0 where
  pub fails : WillFail old (call_count old) → ¬ Answers
  pub answers : ¬ WillFail old (call_count old) → FindsRoom → Answers
  pub next : call_count old < call_room old → call_count new ≡ call_count old + 1
  pub same_room : call_room new ≡ call_room old
  pub buffers : sync_room old ≤ sync_room new + 1
  pub same_script : (number : ℕ) → WillFail new number ↔ WillFail old number
