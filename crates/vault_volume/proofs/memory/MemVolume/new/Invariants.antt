use Rattle.std.proofs.Common.{◌≡◌, ◌*◌, length}
use Rattle.std.specs.Prelude.{IsTrue}
use Rattle.std.specs.List.{list_all}
use Rattle.vault_volume.specs.Memory.{is_buffer}
use Rattle.vault_volume.proofs.memory.MemVolume.new.Given as goal

abbrev pub invariant-loop : goal.invariant-loop
invariant-loop l = record {
  count : length l.spare.items ≡ l.counter;
  fit : IsTrue (list_all (is_buffer (4096 * l.blocks)) l.spare.items);
}
