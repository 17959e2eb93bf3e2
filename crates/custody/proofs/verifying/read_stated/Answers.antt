use Rattle.std.proofs.Common.{sym, subst}
use Rattle.vault_volume.specs.Vault.{volume_of}
use Rattle.custody_records.specs.MemoryRecords.{records_of}
use Rattle.deposit_verify.specs.Known.{known_in}
use Rattle.custody_machine.specs.Explaining.{with_notices}
use Rattle.custody.specs.inside.Verifying.{IsStatedRead}
use Rattle.custody.proofs.ChainLemmas.{broken_chain, broken_stated, bytes_are, known_is, sound_both}
use Rattle.custody.proofs.OpenCustodyLemmas.{err_is}
use Rattle.custody.proofs.verifying.read_stated.Goals as goal

pub returns-in_err-base-clause-stated : goal.returns-in_err-base-clause-stated
returns-in_err-base-clause-stated g c = λ tells told are.
    let image = g.V.Volume.image (volume_of c.args.vault.now) in
    let records = with_notices (records_of c.args.records.now) told in
    subst (λ r. IsStatedRead r records image c.args.statement.now) (sym (err_is _ c.in_err-base.field-0.0 c.from_residual.ensures.1))
    (tt, λ is. broken_chain records image c.args.statement.now (c.in_err-base.ensures.digests tells told are is))

pub returns-in_err-joined-clause-stated : goal.returns-in_err-joined-clause-stated
returns-in_err-joined-clause-stated g c = λ tells told are.
    let image = g.V.Volume.image (volume_of c.args.vault.now) in
    let records = with_notices (records_of c.args.records.now) told in
    subst (λ r. IsStatedRead r records image c.args.statement.now) (sym (err_is _ c.in_err-joined.field-0.0 c.from_residual-in_err-joined.ensures.1))
    (tt, λ is. broken_stated records image c.args.statement.now _ (c.in_ok-base.ensures.read.image tells) c.first_part-name.result c.first_part-name.ensures (c.in_err-joined.ensures.digests tells is))

pub returns-clause-stated : goal.returns-clause-stated
returns-clause-stated g c = λ tells told are.
    let image = g.V.Volume.image (volume_of c.args.vault.now) in
    let records = with_notices (records_of c.args.records.now) told in
    let stated = c.args.statement.now in
    let same = c.in_ok-base.ensures.read.image tells in (
      (
        bytes_are records image stated _ same c.first_part-name.result c.first_part-name.ensures c.in_ok-joined.joined.items (c.in_ok-joined.ensures.bytes tells),
        known_is records image stated (known_in c.in_ok-about.about) c.in_ok-base.base (c.in_ok-about.ensures told image are) (c.in_ok-base.ensures.base tells told are),
      ),
      sound_both records image stated _ same c.first_part-name.result c.first_part-name.ensures (c.in_ok-base.ensures.digests tells told are) (c.in_ok-joined.ensures.digests tells),
    )
