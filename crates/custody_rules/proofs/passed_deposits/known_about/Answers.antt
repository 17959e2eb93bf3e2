use Rattle.std.proofs.Common.{◌∙◌}
use Rattle.custody_records.specs.MemoryRecords.{records_of}
use Rattle.custody_machine.specs.Explaining.{with_notices}
use Rattle.custody_rules.proofs.Passed.{full_by_parts, known_is}
use Rattle.custody_rules.proofs.passed_deposits.known_about.Goals as goal

pub returns : goal.returns
returns c = λ told image noted.
    let records = records_of c.args.records.now in
    known_is c.args.statement.now (with_notices records told) image c.args.base c.args.name.now c.args.notices.now c.deref.result.now c.latest_passed.result c.latest_passed-2.result c.in_ok-passed_ids.field-0.items c.requires.named
    noted (c.deref.ensures.value ∙ c.in_ok-full.ensures ∙ full_by_parts records told c.args.notices.now) c.latest_passed.ensures c.latest_passed-2.ensures c.in_ok-passed_ids.ensures
