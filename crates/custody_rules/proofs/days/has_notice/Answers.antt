use Rattle.std.specs.Prelude.{bytes_eq}
use Rattle.std.proofs.Common.{◌∙◌, rules, tests}
use Rattle.std.proofs.lemmas.Iterator.{YieldsList-from_slice}
use Rattle.std.proofs.lemmas.Iterator.Search.{any_from_yields_List}
use Rattle.std.proofs.lemmas.Bool.{and_parts}
use Rattle.custody_records.specs.MemoryRecords.{records_of}
use Rattle.custody_records.specs.TypedRecords.{notice_entry}
use Rattle.custody_machine.specs.State.{is_notice_of}
use Rattle.custody_rules.specs.inside.Sought.{is_sought}
use Rattle.custody_rules.proofs.Notices.{some_of_registry}
use Rattle.custody_rules.proofs.days.has_notice.Goals as goal

pub returns : goal.returns
returns c =
    let test = is_notice_of c.args.tld.now c.args.day (is_sought c.args.sought) in
    any_from_yields_List (λ n. test (notice_entry n)) _ _ _ c.any.ensures.ran (YieldsList-from_slice c.notices_of.result.now cc) (λ x b q k. search (rules, tests))
    ∙ some_of_registry (records_of c.args.records.now) c.args.tld.now c.notices_of.result.now c.notices_of.ensures test (λ e passed. (and_parts (bytes_eq e.0.tld c.args.tld.now) _ passed).0)
