use Rattle.std.proofs.Common.{sym, subst}
use Rattle.vault_volume.specs.Vault.{volume_of}
use Rattle.custody_records.specs.MemoryRecords.{records_of}
use Rattle.custody_rules.specs.Rulings.{change_of, record_of}
use Rattle.custody.specs.Previewing.{IsPreviewed}
use Rattle.custody.proofs.OpenCustodyLemmas.{err_is}
use Rattle.custody.proofs.PreviewLemmas.{kept_is_notice, goes_to_verdict, kept_decided, kept_previewed, verdict_decided, verdict_previewed, failure_previewed}
use Rattle.custody.proofs.Verdicts.{first_recorded}
use Rattle.custody.proofs.previewing.preview_notice.Goals as goal

pub kept_notice-requires : goal.kept_notice-requires
kept_notice-requires g c = kept_is_notice (records_of c.args.records.now) c.args.statement.now c.args.now (record_of c.in-Kept.kept) c.in-Kept.ensures

pub verify_stated-requires-clause-first : goal.verify_stated-requires-clause-first
verify_stated-requires-clause-first g c =
    let records = records_of c.args.records.now in
    let stated = c.args.statement.now in
    first_recorded records c.requires.whole stated c.args.now (goes_to_verdict records stated c.args.now (change_of c.in-Go.field-0) c.in-Go.ensures)

pub returns-in_err-verdict-in-Go-clause-previewed : goal.returns-in_err-verdict-in-Go-clause-previewed
returns-in_err-verdict-in-Go-clause-previewed g c = λ tells.
    let records = records_of c.args.records.now in
    let stated = c.args.statement.now in
    let image = g.V.Volume.image (volume_of c.args.vault.now) in
    let d = goes_to_verdict records stated c.args.now (change_of c.in-Go.field-0) c.in-Go.ensures in
    let h = c.in_err-verdict-in-Go.ensures in
    subst (λ r. IsPreviewed records image stated c.args.now r) (sym (err_is _ c.in_err-verdict-in-Go.field-0.0 c.from_residual.ensures.1))
    (failure_previewed records stated c.args.now c.requires.whole d c.in_err-verdict-in-Go.field-0.0 _ _ h.failures image (h.verified tells))

pub returns-in-Kept-clause-decided : goal.returns-in-Kept-clause-decided
returns-in-Kept-clause-decided g c = kept_decided (records_of c.args.records.now) c.args.statement.now c.args.now (record_of c.in-Kept.kept) c.in-Kept.ensures c.kept_notice.result c.kept_notice.ensures

pub returns-in-Kept-clause-previewed : goal.returns-in-Kept-clause-previewed
returns-in-Kept-clause-previewed g c = λ _. kept_previewed (records_of c.args.records.now) c.args.statement.now c.args.now (record_of c.in-Kept.kept) c.in-Kept.ensures c.kept_notice.result c.kept_notice.ensures (g.V.Volume.image (volume_of c.args.vault.now))

pub returns-in_ok-verdict-in-Go-clause-decided : goal.returns-in_ok-verdict-in-Go-clause-decided
returns-in_ok-verdict-in-Go-clause-decided g c =
    let records = records_of c.args.records.now in
    let stated = c.args.statement.now in
    let d = goes_to_verdict records stated c.args.now (change_of c.in-Go.field-0) c.in-Go.ensures in
    verdict_decided records stated c.args.now c.requires.whole d c.in_ok-verdict-in-Go.verdict c.notice_of.result c.notice_of.ensures.key c.notice_of.ensures.value

pub returns-in_ok-verdict-in-Go-clause-previewed : goal.returns-in_ok-verdict-in-Go-clause-previewed
returns-in_ok-verdict-in-Go-clause-previewed g c = λ tells.
    let records = records_of c.args.records.now in
    let stated = c.args.statement.now in
    let d = goes_to_verdict records stated c.args.now (change_of c.in-Go.field-0) c.in-Go.ensures in
    verdict_previewed records stated c.args.now c.requires.whole d c.in_ok-verdict-in-Go.verdict c.notice_of.result c.notice_of.ensures.key c.notice_of.ensures.value
    (g.V.Volume.image (volume_of c.args.vault.now)) (c.in_ok-verdict-in-Go.ensures.verified tells)
