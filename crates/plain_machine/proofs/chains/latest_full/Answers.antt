use Rattle.std.proofs.Common.{Option, Some, cond, sym, ap, ◌∙◌, arith}
use Rattle.deposit_name.specs.Name.{Name, is_same_kind}
use Rattle.deposit_name.specs.declared.kinds.Kind.TheVariants.{Full}
use Rattle.plain_machine.proofs.PlainChains.{latest_more}
use Rattle.plain_machine.proofs.chains.latest_full.Goals as goal

pub loop-name-preserved : goal.loop-name-preserved
loop-name-preserved c =
    let name = c.name-item.result in
    c.full_or-latest.ensures ∙ ap (λ (latest : Option Name). cond (is_same_kind name.kind Full) (Some name) latest) c.loop-name.invariant
    ∙ sym (latest_more c.args.passed.now c.loop-name.name-index name (omega arith) c.name-item.is)
