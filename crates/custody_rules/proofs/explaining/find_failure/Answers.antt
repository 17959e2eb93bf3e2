use Rattle.std.proofs.Common.{◌≡◌, ◌∙◌, sym, ap, subst, is_some, not, Some}
use Rattle.custody_records.specs.MemoryRecords.{records_of}
use Rattle.custody_records.specs.TypedRecords.{notice_entry}
use Rattle.custody_rules.specs.Explaining.{HasFailed}
use Rattle.custody_rules.specs.Judging.{has_dropped_part_in}
use Rattle.custody_rules.proofs.Explained.{dropped_since, fails, failure_in, first_place, first_recorded, has_failed, not_refused}
use Rattle.custody_rules.proofs.explaining.find_failure.Goals as goal

pub returns-then-has_dropped_part-clause-refused : goal.returns-then-has_dropped_part-clause-refused
returns-then-has_dropped_part-clause-refused c =
    let records = records_of c.args.records.now in
    let tld = c.args.tld.now in
    dropped_since records tld c.args.day c.args.rev (ap is_some (sym c.first_day.ensures) ∙ c.is_none.ensures ∙ ap not c.if-is_none.false) (notice_entry c.in-Some.notice.now)
    (sym (c.in-Some.ensures ∙ ap (failure_in records tld c.args.day) c.number.ensures.value))
    (ap (λ r. has_dropped_part_in records (first_place tld c.args.day r)) (sym c.number-2.ensures.value) ∙ sym c.has_dropped_part.ensures ∙ c.if-has_dropped_part.true)

pub stated_failure-requires-clause-failed : goal.stated_failure-requires-clause-failed
stated_failure-requires-clause-failed c =
    let records = records_of c.args.records.now in
    let tld = c.args.tld.now in
    fails records tld c.args.day c.number-2.result c.in-Some.notice.now (sym (c.in-Some.ensures ∙ ap (failure_in records tld c.args.day) (c.number.ensures.value ∙ sym c.number-2.ensures.value)))

pub stated_failure-requires-clause-recorded : goal.stated_failure-requires-clause-recorded
stated_failure-requires-clause-recorded c =
    let records = records_of c.args.records.now in
    let tld = c.args.tld.now in
    first_recorded records tld c.args.day c.number-2.result c.in-Some.notice.now (sym (c.in-Some.ensures ∙ ap (failure_in records tld c.args.day) (c.number.ensures.value ∙ sym c.number-2.ensures.value))) c.requires.linked

pub returns-clause-found : goal.returns-clause-found
returns-clause-found c =
    let records = records_of c.args.records.now in
    let tld = c.args.tld.now in
    let rev = c.number-2.result in
    let notice = c.in-Some.notice.now in
    let found : failure_in records tld c.args.day rev ≡ Some (notice_entry notice) = sym (c.in-Some.ensures ∙ ap (failure_in records tld c.args.day) (c.number.ensures.value ∙ sym c.number-2.ensures.value)) in
    let tells = c.stated_failure.ensures in
    subst (λ r. HasFailed records tld c.args.day r c.stated_failure.result) c.number-2.ensures.value
    (has_failed records tld c.args.day rev notice found c.stated_failure.result tells.place tells.day tells.told tells.first.0 tells.first.1 tells.first.2 tells.parts
    (not_refused records tld c.args.day rev (ap is_some (sym c.first_day.ensures) ∙ c.is_none.ensures ∙ ap not c.if-is_none.false) (notice_entry notice) found (sym c.has_dropped_part.ensures ∙ c.if-has_dropped_part.false)))
