use Rattle.std.specs.Prelude.{bytes_eq}
use Rattle.std.proofs.Common.{◌∙◌, rules, tests}
use Rattle.std.proofs.lemmas.Iterator.{YieldsList-from_slice}
use Rattle.std.proofs.lemmas.Iterator.Search.{any_from_yields_List}
use Rattle.std.proofs.lemmas.Bool.{and_parts}
use Rattle.custody_records.specs.MemoryRecords.{records_of}
use Rattle.custody_records.specs.TypedRecords.{notice_entry}
use Rattle.custody_rules.specs.Judging.{is_later_receipt}
use Rattle.custody_rules.proofs.Notices.{some_of_registry}
use Rattle.custody_rules.proofs.statement_rules.has_later_receipt.Goals as goal

pub returns : goal.returns
returns c =
    any_from_yields_List (λ n. is_later_receipt c.args.statement.now (notice_entry n)) _ _ _ c.any.ensures.ran (YieldsList-from_slice c.notices_of.result.now cc) (λ x b q k. search (rules, tests))
    ∙ some_of_registry (records_of c.args.records.now) c.args.statement.now.tld c.notices_of.result.now c.notices_of.ensures (is_later_receipt c.args.statement.now)
    (λ e passed. (and_parts (bytes_eq e.0.tld c.args.statement.now.tld) _ passed).0)
