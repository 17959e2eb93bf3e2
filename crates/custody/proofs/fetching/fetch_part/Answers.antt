use Rattle.std.proofs.Common.{◌≡◌, Option, Vec, ℕ, Global, subst}
use Rattle.std.specs.Prelude.{IfNone}
use Rattle.sha2.specs.Sha256.{sha256}
use Rattle.vault_volume.specs.Extents.{part_bytes}
use Rattle.vault_volume.specs.Vault.{volume_of}
use Rattle.custody_records.specs.MemoryRecords.{records_of}
use Rattle.custody_records.specs.Records.{key_of}
use Rattle.custody_records.specs.TypedRecords.{part_value}
use Rattle.custody.proofs.FetchLemmas.{stands_at}
use Rattle.custody.proofs.RevisionLemmas.{in_range, held_broken}
use Rattle.custody.proofs.fetching.fetch_part.Goals as goal

pub read_sound-requires-clause-held : goal.read_sound-requires-clause-held
read_sound-requires-clause-held g c =
    let h = c.in_ok-part.ensures.found in
    let part = part_value c.in_ok-part.part.now in
    in_range (records_of c.args.records.now) (key_of h.recorded.name) part c.in_ok-part.extents.now (g.V.Volume.size (volume_of c.args.vault.now)) c.requires.whole.extents
    (stands_at (records_of c.args.records.now) h.recorded.name part h.recorded.recorded) h.held c.requires.blocks

pub returns-in-None-clause-fetched : goal.returns-in-None-clause-fetched
returns-in-None-clause-fetched g c = λ tells has.
    let h = c.in_ok-part.ensures.found in
    let part = part_value c.in_ok-part.part.now in
    let image = g.V.Volume.image (volume_of c.args.vault.now) in
    let broken = subst {A = Option (Vec ℕ Global)} (λ found. IfNone found (sha256 (part_bytes image c.in_ok-part.extents.now c.in_ok-part.part.now.len) ≡ c.in_ok-part.part.now.digest → ⊥)) c.in-None.is (c.in_ok-bytes.ensures.broken tells) in
    held_broken image (records_of c.args.records.now) (key_of h.recorded.name) part c.in_ok-part.extents.now (stands_at (records_of c.args.records.now) h.recorded.name part h.recorded.recorded) h.held broken (has h.recorded.name h.recorded.named)
