use Rattle.std.proofs.Common.{◌≡◌, ℕ, suc, ◌<◌, ◌-◌, take}
use Rattle.std.specs.List.{flat_map}
use Rattle.vault_volume.specs.Vault.{volume_of}
use Rattle.custody_records.specs.MemoryRecords.{records_of}
use Rattle.custody_machine.specs.State.{part_numbers}
use Rattle.custody_machine.specs.StoredState.{HasDigestAt}
use Rattle.custody.specs.Reading.{ReadsVault, bytes_under}
use Rattle.custody.proofs.RevisionLemmas.{key_at}
use Rattle.custody.proofs.reading.read_revision.Given as goal

abbrev pub invariant-loop-place : goal.invariant-loop-place
invariant-loop-place g l =
    let image = g.V.Volume.image (volume_of l.fn.vault) in
    let records = records_of l.records in
    record {
      read : ReadsVault l.fn.vault l.vault;
      failures : g.V.Volume.failures (volume_of l.vault) ≡ g.V.Volume.failures (volume_of l.fn.vault);
      bytes : g.V.Volume.tells → l.joined.items ≡ flat_map (λ place. bytes_under image records (key_at records image l.name place)) (take (l.place - 1) part_numbers);
      sound : g.V.Volume.tells → (k : ℕ) → suc k < l.place → HasDigestAt image records (key_at records image l.name (suc k));
    }
