use Rattle.std.proofs.Common.{refl, rules, tests}
use Rattle.std.specs.BTreeSet.{contains}
use Rattle.std.proofs.lemmas.Iterator.Consumers.{YieldsList-from_first}
use Rattle.std.proofs.lemmas.Iterator.Search.{all_from_yields_List}
use Rattle.custody_records.specs.MemoryRecords.{records_of}
use Rattle.custody_records.specs.RegistryRows.{rows_left}
use Rattle.custody_records.specs.TypedRecords.{key_of_part, part_value}
use Rattle.custody_records.specs.declared.parts.Part.{Part}
use Rattle.custody_rules.specs.inside.Links.{is_part_linked}
use Rattle.custody_rules.specs.inside.Orders.{failed_revision_cmp}
use Rattle.custody_rules.proofs.links.parts_are_linked.Goals as goal

pub returns : goal.returns
returns c =
    all_from_yields_List (λ (part : Part). is_part_linked (records_of c.args.records.now) (contains failed_revision_cmp c.args.failed.now) (key_of_part part) (part_value part)) c.all.new.self _ _ c.all.ensures.ran
    (YieldsList-from_first (λ x. x.now) rows_left {s = c.args.parts} (rows_left c.args.parts) refl) (λ x b q k. search (rules, tests))
