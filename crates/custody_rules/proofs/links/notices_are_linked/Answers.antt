use Rattle.std.proofs.Common.{refl, rules, tests}
use Rattle.std.proofs.lemmas.Iterator.Consumers.{YieldsList-from_first}
use Rattle.std.proofs.lemmas.Iterator.Search.{all_from_yields_List}
use Rattle.desk.specs.declared.notices.Notice.{Notice}
use Rattle.custody_records.specs.MemoryRecords.{records_of}
use Rattle.custody_records.specs.RegistryRows.{rows_left}
use Rattle.custody_records.specs.TypedRecords.{notice_key, notice_value}
use Rattle.custody_rules.specs.inside.Links.{is_notice_linked}
use Rattle.custody_rules.proofs.links.notices_are_linked.Goals as goal

pub returns : goal.returns
returns c =
    all_from_yields_List (λ (notice : Notice). is_notice_linked (records_of c.args.records.now) (notice_key notice) (notice_value notice)) c.all.new.self _ _ c.all.ensures.ran
    (YieldsList-from_first (λ x. x.now) rows_left {s = c.args.notices} (rows_left c.args.notices) refl) (λ x b q k. search (rules, tests))
