use Rattle.std.proofs.Common.{sym, ◌∙◌, subst, arith}
use Rattle.vault_volume.specs.Vault.{volume_of}
use Rattle.custody_records.specs.MemoryRecords.{records_of}
use Rattle.custody_machine.specs.Explaining.{with_notices}
use Rattle.custody.specs.inside.Verifying.{HaveDigests, chain_keys}
use Rattle.custody.proofs.ChainLemmas.{base_more, sound_more, none_base, base_whole, sound_whole, broken_first, broken_later}
use Rattle.custody.proofs.OpenCustodyLemmas.{err_is}
use Rattle.custody.proofs.RevisionLemmas.{read_again}
use Rattle.custody.proofs.verifying.read_base.Goals as goal

pub returns-in_default-clause-base : goal.returns-in_default-clause-base
returns-in_default-clause-base g c = λ _ told are.
    let image = g.V.Volume.image (volume_of c.args.vault.now) in
    none_base (with_notices (records_of c.args.records.now) told) image c.args.statement.now c.as_slice.result.now (c.as_slice.ensures.value ∙ c.in_ok-chain.ensures told image are) (omega (arith, c.in_default.len_below))

pub returns-in_err-full-clause-digests : goal.returns-in_err-full-clause-digests
returns-in_err-full-clause-digests g c = λ tells told are.
    let image = g.V.Volume.image (volume_of c.args.vault.now) in
    let records = with_notices (records_of c.args.records.now) told in
    subst (λ r. HaveDigests r records image (chain_keys records image c.args.statement.now)) (sym (err_is _ c.in_err-full.field-0.0 c.from_residual-in_err-full.ensures.1))
    (λ is. broken_first records image c.args.statement.now c.as_slice.result.now (c.as_slice.ensures.value ∙ c.in_ok-chain.ensures told image are) c.first-item.result (omega (arith, c.in-len1-up.len_at_least)) c.first-item.is
    (c.in_err-full.ensures.digests tells is))

pub returns-in_err-joined-clause-digests : goal.returns-in_err-joined-clause-digests
returns-in_err-joined-clause-digests g c = λ tells told are.
    let image = g.V.Volume.image (volume_of c.args.vault.now) in
    let records = with_notices (records_of c.args.records.now) told in
    subst (λ r. HaveDigests r records image (chain_keys records image c.args.statement.now)) (sym (err_is _ c.in_err-joined.field-0.0 c.from_residual-in_err-joined.ensures.1))
    (λ is. broken_later records image c.args.statement.now c.as_slice.result.now (c.as_slice.ensures.value ∙ c.in_ok-chain.ensures told image are) c.first-item.result (omega (arith, c.in-len1-up.len_at_least)) c.first-item.is
    _ (c.loop-name.invariant.read.image tells) c.loop-name.name-index c.name-item.result c.loop-name-test.true c.name-item.is
    (c.in_err-joined.ensures.digests tells is))

pub loop-name-preserved : goal.loop-name-preserved
loop-name-preserved g c =
    let image = g.V.Volume.image (volume_of c.args.vault.now) in
    let records = records_of c.args.records.now in
    let inv = c.loop-name.invariant in
    let found = c.in_ok-joined.ensures in
    record {
      read = read_again c.args.vault.now c.loop-name.vault c.read_whole-in-loop-name.new.vault inv.read found.read;
      failures = found.failures ∙ inv.failures;
      base = λ tells. base_more records image _ (inv.read.image tells) _ c.loop-name.name-index c.name-item.result c.loop-name-test.true c.name-item.is
          c.in_ok-base.base c.loop-name.base _ c.deref-in-loop-name.result.now (c.deref-in-loop-name.ensures.value ∙ found.bytes tells) c.in_ok-base-2.ensures (inv.base tells);
      sound = λ tells. sound_more records image _ (inv.read.image tells) _ c.loop-name.name-index c.name-item.result c.loop-name-test.true c.name-item.is (found.digests tells) (inv.sound tells);
    }

pub returns-clause-base : goal.returns-clause-base
returns-clause-base g c = λ tells told are.
    let image = g.V.Volume.image (volume_of c.args.vault.now) in
    base_whole (with_notices (records_of c.args.records.now) told) image c.args.statement.now c.as_slice.result.now (c.as_slice.ensures.value ∙ c.in_ok-chain.ensures told image are) c.first-item.result (omega (arith, c.in-len1-up.len_at_least)) c.first-item.is
    c.deref.result.now c.in_ok-base.base c.loop-name.base (c.deref.ensures.value ∙ c.in_ok-full.ensures.bytes tells) c.in_ok-base.ensures.computed c.loop-name.name-index (omega (arith, c.loop-name-test.false)) (c.loop-name.invariant.base tells)

pub returns-clause-digests : goal.returns-clause-digests
returns-clause-digests g c = λ tells told are.
    let image = g.V.Volume.image (volume_of c.args.vault.now) in
    sound_whole (with_notices (records_of c.args.records.now) told) image c.args.statement.now c.as_slice.result.now (c.as_slice.ensures.value ∙ c.in_ok-chain.ensures told image are) c.first-item.result (omega (arith, c.in-len1-up.len_at_least)) c.first-item.is
    (c.in_ok-full.ensures.digests tells) c.loop-name.name-index (omega (arith, c.loop-name-test.false)) (c.loop-name.invariant.sound tells)
