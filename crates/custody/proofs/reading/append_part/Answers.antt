use Rattle.std.proofs.Common.{◌≡◌, Vec, Global, Some, false, sym, ◌∙◌, ap}
use Rattle.std.specs.Prelude.{option_map}
use Rattle.extent_map.specs.declared.extent.Extent.{Extent}
use Rattle.sha2.specs.Sha256.{sha256}
use Rattle.vault_volume.specs.Extents.{part_bytes}
use Rattle.vault_volume.specs.Vault.{volume_of}
use Rattle.custody_records.specs.MemoryRecords.{records_of}
use Rattle.custody_records.specs.TypedRecords.{part_value}
use Rattle.custody_machine.specs.StoredState.{HasDigestAt}
use Rattle.custody.proofs.RevisionLemmas.{in_range, if_ok_then, held_broken}
use Rattle.custody.proofs.reading.append_part.Goals as goal

pub append_held-requires-clause-held : goal.append_held-requires-clause-held
append_held-requires-clause-held g c =
    in_range (records_of c.args.records.now) c.args.key.now (part_value c.in-Some.part.now) c.deref.result.now _ c.requires.range (sym c.in-Some.ensures.found)
    (ap (option_map (λ (v : Vec Extent Global). v.items)) c.in-Some-extents.is ∙ ap Some (sym c.deref.ensures.value)) c.requires.blocks

pub returns-in-Some-extents-clause-broken : goal.returns-in-Some-extents-clause-broken
returns-in-Some-extents-clause-broken g c = λ tells.
    let image = g.V.Volume.image (volume_of c.args.vault.now) in
    if_ok_then (λ sound. sound ≡ false → ¬ (sha256 (part_bytes image c.deref.result.now c.in-Some.part.now.len) ≡ c.in-Some.part.now.digest)) (λ sound. sound ≡ false → ¬ HasDigestAt image (records_of c.args.records.now) c.args.key.now) c.append_held.result
    (λ sound broken is. held_broken image (records_of c.args.records.now) c.args.key.now (part_value c.in-Some.part.now) c.deref.result.now (sym c.in-Some.ensures.found)
    (ap (option_map (λ (v : Vec Extent Global). v.items)) c.in-Some-extents.is ∙ ap Some (sym c.deref.ensures.value)) (broken is))
    (c.append_held.ensures.broken tells)
