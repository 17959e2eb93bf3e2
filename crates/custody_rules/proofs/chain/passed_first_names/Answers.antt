use Rattle.std.proofs.Common.{rules, tests, ◌∙◌, ◌==◌, ◌&&◌}
use Rattle.std.specs.BTreeSet.{contains}
use Rattle.std.proofs.lemmas.Result.{IfOk-weaker}
use Rattle.std.proofs.lemmas.Iterator.{YieldsList-from_map, YieldsList-from_slice, items_from_collect}
use Rattle.std.proofs.lemmas.Iterator.Consumers.{YieldsList-at, YieldsList-from_filter}
use Rattle.custody_records.specs.declared.parts.Part.{Part}
use Rattle.custody_records.specs.MemoryRecords.{records_of}
use Rattle.custody_machine.specs.Explaining.{with_notices}
use Rattle.custody_rules.specs.inside.Chains.{revision_of_name}
use Rattle.custody_rules.specs.inside.Orders.{passed_revision_cmp}
use Rattle.custody_rules.proofs.Chains.{passed_in_state}
use Rattle.custody_rules.proofs.chain.passed_first_names.Goals as goal

pub returns : goal.returns
returns c =
    let records = records_of c.args.records.now in
    let tld = c.args.tld.now in
    let notices = c.args.notices.now in
    let has_passed = contains passed_revision_cmp c.in_ok-passed.passed in
    IfOk-weaker c.collect.result _ _ (λ names is told image noted. is ∙ passed_in_state (with_notices records told) tld image notices noted has_passed c.in_ok-passed.ensures c.parts_of.result.now c.parts_of.ensures)
    (items_from_collect c.collect.result c.collect.ensures.ran (YieldsList-from_map _ (λ (p : Part). p.name) (YieldsList-at c.map.ensures.source
    (YieldsList-from_filter _ (λ (p : Part). p.name.part == 1 && has_passed (revision_of_name p.name)) (YieldsList-at c.filter.ensures.source (YieldsList-from_slice c.parts_of.result.now cc)) c.filter.ensures.closure (λ x b q k. search (rules, tests))))
    c.map.ensures.closure (λ x r q k. search rules)))
