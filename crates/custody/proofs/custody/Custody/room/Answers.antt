use Rattle.std.proofs.Common.{ℕ, ◌-◌, refl, ◌∙◌, ap}
use Rattle.vault_volume.specs.Vault.{volume_of, IsFree}
use Rattle.custody_records.specs.Records.{Records}
use Rattle.custody_records.specs.RegistryRows.{all_rows}
use Rattle.custody.specs.Custody.{open_custody_of}
use Rattle.custody.specs.OpenCustody.{current_records, failures_of}
use Rattle.custody.proofs.Room.{free_count, rows_rise}
use Rattle.custody.proofs.custody.Custody.room.Goals as goal

pub returns-clause-found : goal.returns-clause-found
returns-clause-found g c =
    let held = open_custody_of c.args.self.now in
    let found = c.in_ok-records.ensures.found in (
      found.0,
      free_count (current_records held) (all_rows held.records.parts) refl (rows_rise held.records) (g.V.Volume.size (volume_of held.vault)) (failures_of held) (IsFree held.vault) (c.args.self.now.order found.0) c.free_blocks.result c.free_blocks.ensures,
      c.saturating_sub.ensures ∙ ap (λ (n : ℕ). n - 1) (c.blocks-blocks.ensures ∙ ap (λ (r : Records). r.blocks) found.1),
    )
