use Rattle.std.proofs.Common.{sym, subst}
use Rattle.vault_volume.specs.Vault.{volume_of}
use Rattle.custody_records.specs.MemoryRecords.{records_of}
use Rattle.custody_machine.specs.Explaining.{notices_before}
use Rattle.custody_rules.specs.Explaining.{failure_key}
use Rattle.custody.specs.Explaining.{IsExplained}
use Rattle.custody.proofs.ExplainLemmas.{before, is_explained, known_notices, not_explained, stated_notices}
use Rattle.custody.proofs.OpenCustodyLemmas.{err_is}
use Rattle.custody.proofs.explaining.explain_failure.Goals as goal

pub returns-in_err-found-clause-explained : goal.returns-in_err-found-clause-explained
returns-in_err-found-clause-explained g c = λ tells.
    let records = records_of c.args.records.now in
    let image = g.V.Volume.image (volume_of c.args.vault.now) in
    let found = c.in_ok-failure.failure in
    let failed = c.in_ok-failure.ensures.found in
    let are = known_notices records c.args.tld.now c.args.day c.args.rev found failed c.deref.result.now c.in_ok-notices.notices.items c.deref.ensures.value c.in_ok-notices.ensures in
    subst (λ r. IsExplained records image c.args.tld.now c.args.day c.args.rev r) (sym (err_is _ c.in_err-found.field-0.0 c.from_residual-in_err-found.ensures.1))
    (not_explained records c.args.tld.now c.args.day c.args.rev found failed image c.in_err-found.field-0.0 _ _ c.in_err-found.ensures.failures
    (c.in_err-found.ensures.explained tells (notices_before records.notices (failure_key found)) (stated_notices records c.args.tld.now c.args.day c.args.rev found failed c.deref.result.now are)))

pub returns-clause-explained : goal.returns-clause-explained
returns-clause-explained g c = λ tells.
    let records = records_of c.args.records.now in
    let image = g.V.Volume.image (volume_of c.args.vault.now) in
    let tld = c.args.tld.now in
    let found = c.in_ok-failure.failure in
    let failed = c.in_ok-failure.ensures.found in
    let are = known_notices records tld c.args.day c.args.rev found failed c.deref.result.now c.in_ok-notices.notices.items c.deref.ensures.value c.in_ok-notices.ensures in
    let behind = known_notices records tld c.args.day c.args.rev found failed c.deref-2.result.now c.in_ok-notices.notices.items c.deref-2.ensures.value c.in_ok-notices.ensures in
    is_explained records tld c.args.day c.args.rev found failed image c.in_ok-found.found c.reason_of-reason.result c.taken_day.result
    (c.in_ok-found.ensures.explained tells (notices_before records.notices (failure_key found)) (stated_notices records tld c.args.day c.args.rev found failed c.deref.result.now are))
    c.reason_of-reason.ensures.some c.reason_of-reason.ensures.none (c.taken_day.ensures (before records tld c.args.day c.args.rev found failed) tld behind)
