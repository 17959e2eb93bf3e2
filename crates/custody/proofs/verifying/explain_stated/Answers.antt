use Rattle.std.proofs.Common.{sym, ◌∙◌, subst}
use Rattle.vault_volume.specs.Vault.{volume_of}
use Rattle.custody_records.specs.MemoryRecords.{records_of}
use Rattle.deposit_verify.specs.Known.{known_in}
use Rattle.deposit_verify.specs.Reasons.{verdict_for}
use Rattle.custody_machine.specs.Explaining.{with_notices}
use Rattle.custody.specs.inside.Verifying.{IsStatedExplained}
use Rattle.custody.proofs.ChainLemmas.{reason_is, verdict_is}
use Rattle.custody.proofs.OpenCustodyLemmas.{err_is}
use Rattle.custody.proofs.verifying.explain_stated.Goals as goal

pub returns-in_err-stated-clause-explained : goal.returns-in_err-stated-clause-explained
returns-in_err-stated-clause-explained g c = λ tells told are.
    let image = g.V.Volume.image (volume_of c.args.vault.now) in
    let records = with_notices (records_of c.args.records.now) told in
    subst (λ r. IsStatedExplained r records image c.args.statement.now) (sym (err_is _ c.in_err-stated.field-0.0 c.from_residual.ensures.1))
    (tt, (c.in_err-stated.ensures.stated tells told are).1)

pub returns-clause-explained : goal.returns-clause-explained
returns-clause-explained g c = λ tells told are.
    let image = g.V.Volume.image (volume_of c.args.vault.now) in
    let records = with_notices (records_of c.args.records.now) told in
    let stated = c.args.statement.now in
    let read = c.in_ok-stated.ensures.stated tells told are in
    let about = known_in c.in_ok-stated.stated.about in
    let found = c.in_ok-explain.field-0 in
    let bytes = c.deref.ensures.value ∙ read.0.0 in (
      (
        verdict_is records image stated (verdict_for found) c.deref.result.now about (c.law_verdict.ensures.only c.deref.result.now about (verdict_for found) c.in_ok-explain.ensures.verdict) bytes read.0.1,
        reason_is records image stated found c.deref.result.now about bytes read.0.1 c.in_ok-explain.ensures.reason,
      ),
      read.1,
    )
