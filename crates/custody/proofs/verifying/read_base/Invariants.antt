use Rattle.std.proofs.Common.{◌≡◌, map, take}
use Rattle.vault_volume.specs.Vault.{volume_of}
use Rattle.custody_records.specs.MemoryRecords.{records_of}
use Rattle.deposit_verify.specs.Bases.{all_then}
use Rattle.custody_machine.specs.Machine.{joined_bytes}
use Rattle.custody_machine.specs.StoredState.{state_in}
use Rattle.custody.specs.Reading.{ReadsVault}
use Rattle.custody.proofs.ChainLemmas.{AreSound, keys_of}
use Rattle.custody.proofs.verifying.read_base.Given as goal

abbrev pub invariant-loop-name : goal.invariant-loop-name
invariant-loop-name g l =
    let image = g.V.Volume.image (volume_of l.fn.vault) in
    let records = records_of l.records in
    record {
      read : ReadsVault l.fn.vault l.vault;
      failures : g.V.Volume.failures (volume_of l.vault) ≡ g.V.Volume.failures (volume_of l.fn.vault);
      base : g.V.Volume.tells → l.base ≡ all_then l.initial.base (map (joined_bytes (state_in records image)) (take l.name-index l.later));
      sound : g.V.Volume.tells → AreSound records image (keys_of records image (take l.name-index l.later));
    }
