use Rattle.std.proofs.Common.{sym, ◌∙◌, subst}
use Rattle.vault_volume.specs.Vault.{volume_of}
use Rattle.custody_records.specs.MemoryRecords.{records_of}
use Rattle.deposit_verify.specs.Known.{known_in}
use Rattle.custody.specs.inside.Verifying.{IsVerified}
use Rattle.custody.proofs.ChainLemmas.{verdict_is}
use Rattle.custody.proofs.OpenCustodyLemmas.{err_is}
use Rattle.custody.proofs.verifying.verify_stated.Goals as goal

pub returns-in_err-stated-clause-verified : goal.returns-in_err-stated-clause-verified
returns-in_err-stated-clause-verified g c = λ tells.
    let image = g.V.Volume.image (volume_of c.args.vault.now) in
    let records = records_of c.args.records.now in
    subst (λ r. IsVerified r records image c.args.statement.now) (sym (err_is _ c.in_err-stated.field-0.0 c.from_residual.ensures.1))
    (tt, (c.in_err-stated.ensures.stated tells records.notices c.notices_of-notices.ensures).1)

pub returns-clause-verified : goal.returns-clause-verified
returns-clause-verified g c = λ tells.
    let image = g.V.Volume.image (volume_of c.args.vault.now) in
    let records = records_of c.args.records.now in
    let read = c.in_ok-stated.ensures.stated tells records.notices c.notices_of-notices.ensures in
    (verdict_is records image c.args.statement.now _ c.deref.result.now (known_in c.in_ok-stated.stated.about) c.in_ok-verify.ensures.computed (c.deref.ensures.value ∙ read.0.0) read.0.1, read.1)
