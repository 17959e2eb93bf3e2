use Rattle.std.proofs.Common.{◌≤◌, ◌∙◌, arith}
use Rattle.vault_volume.specs.Vault.{volume_of}
use Rattle.custody_records.specs.MemoryRecords.{records_of}
use Rattle.custody.proofs.RevisionLemmas.{read_again, bytes_more, sound_more, broken_at, whole_read}
use Rattle.custody.proofs.reading.read_revision.Goals as goal

pub returns-then-not-branch-clause-joined : goal.returns-then-not-branch-clause-joined
returns-then-not-branch-clause-joined g c = λ tells.
    broken_at (records_of c.args.records.now) (g.V.Volume.image (volume_of c.args.vault.now)) c.args.name.now c.loop-place.place c.loop-place.auto.place (omega (arith, c.loop-place-test.true)) _ (c.loop-place.invariant.read.image tells)
    _ c.key_at-key.ensures (c.in_ok-append_part.ensures.broken tells c.if-not-branch.true)

pub loop-place-preserved : goal.loop-place-preserved
loop-place-preserved g c =
    let records = records_of c.args.records.now in
    let image = g.V.Volume.image (volume_of c.args.vault.now) in
    let key = c.key_at-key.ensures in
    let high : c.loop-place.place ≤ 8 = omega (arith, c.loop-place-test.true) in
    let sound = c.if-not-branch.false in
    record {
      read = read_again c.args.vault.now c.loop-place.vault c.append_part.new.vault c.loop-place.invariant.read c.in_ok-append_part.ensures.read;
      failures = c.in_ok-append_part.ensures.failures ∙ c.loop-place.invariant.failures;
      bytes = λ tells. bytes_more records image c.args.name.now c.loop-place.place c.loop-place.auto.place high _ (c.loop-place.invariant.read.image tells) _ key _ _ (c.loop-place.invariant.bytes tells) (c.in_ok-append_part.ensures.bytes tells sound);
      sound = λ tells. sound_more records image c.args.name.now c.loop-place.place c.loop-place.auto.place high _ (c.loop-place.invariant.read.image tells) _ key (c.loop-place.invariant.sound tells) (c.in_ok-append_part.ensures.sound tells sound);
    }

pub returns-clause-joined : goal.returns-clause-joined
returns-clause-joined g c = λ tells.
    whole_read (records_of c.args.records.now) (g.V.Volume.image (volume_of c.args.vault.now)) c.args.name.now c.loop-place.place (omega (arith, c.loop-place-test.false)) c.loop-place.joined.items (c.loop-place.invariant.bytes tells) (c.loop-place.invariant.sound tells)
