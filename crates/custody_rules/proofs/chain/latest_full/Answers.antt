use Rattle.std.proofs.Common.{rules, tests, ◌∙◌, sym, ap}
use Rattle.std.specs.Prelude.{None}
use Rattle.std.specs.List.{last_or}
use Rattle.std.proofs.lemmas.List.{map-id}
use Rattle.std.proofs.lemmas.Iterator.{YieldsList-from_slice, items_from_drains}
use Rattle.std.proofs.lemmas.Iterator.Consumers.{YieldsList-at, YieldsList-from_copied, YieldsList-from_filter}
use Rattle.deposit_name.specs.declared.kinds.Kind.TheVariants.{Full}
use Rattle.deposit_name.specs.Name.{Name, is_same_kind}
use Rattle.custody_rules.proofs.chain.latest_full.Goals as goal

pub returns : goal.returns
returns c =
    let ran = c.last.ensures.ran in
    ran.2 ∙ ap (last_or None) (sym (map-id ran.0) ∙ items_from_drains ran.0 (ran.1.1.0, ran.1.1.1, λ _. (ran.1.0, ran.1.1.2))
    (YieldsList-from_copied (YieldsList-at c.copied.ensures.source (YieldsList-from_filter _ (λ (n : Name). is_same_kind n.kind Full)
    (YieldsList-at c.filter.ensures.source (YieldsList-from_slice c.args.passed.now cc)) c.filter.ensures.closure (λ x b q k. search (rules, tests))))))
