use Rattle.std.proofs.Common.{◌∙◌, ap, rules, tests}
use Rattle.std.specs.Prelude.{option_map, bytes_eq}
use Rattle.std.proofs.lemmas.Iterator.{YieldsList-from_slice}
use Rattle.std.proofs.lemmas.Iterator.Search.{find_from_yields_List}
use Rattle.std.proofs.lemmas.Bool.{and_parts}
use Rattle.custody_records.specs.MemoryRecords.{records_of}
use Rattle.custody_records.specs.TypedRecords.{notice_entry}
use Rattle.custody_machine.specs.State.{is_notice_of}
use Rattle.custody_rules.specs.inside.Sought.{is_sought}
use Rattle.custody_rules.proofs.Notices.{first_notice, find_rows}
use Rattle.custody_rules.proofs.days.notice_of.Goals as goal

pub returns : goal.returns
returns c =
    let test = is_notice_of c.args.tld.now c.args.day (is_sought c.args.sought) in
    ap (option_map notice_entry) (find_from_yields_List (λ n. test (notice_entry n)) _ _ _ c.find.ensures.ran (YieldsList-from_slice c.notices_of.result.now cc) (λ x b q k. search (rules, tests)))
    ∙ find_rows test c.notices_of.result.now
    ∙ first_notice (records_of c.args.records.now) c.args.tld.now c.notices_of.result.now c.notices_of.ensures test (λ e passed. (and_parts (bytes_eq e.0.tld c.args.tld.now) _ passed).0)
