use Rattle.std.proofs.Common.{◌<◌, ◌∙◌, [], ap, arith, length}
use Rattle.std.proofs.lemmas.List.{get_or_default}
use Rattle.deposit_verify.specs.References.{column}
use Rattle.deposit_verify.proofs.Lifted.{if_ok}
use Rattle.deposit_verify.proofs.named_keys.contained_keys.Goals as goal

pub returns-in-Some : goal.returns-in-Some
returns-in-Some c =
    let tables = c.args.tables.now in
    let within : c.in-Some.i < length tables = omega (arith, c.in-Some.ensures.inside, c.requires.count) in
    if_ok c.first_fields.result _ _ c.first_fields.ensures (λ keys e. e ∙ ap (column 0) (c.index-tables-i.is ∙ get_or_default tables c.in-Some.i c.index-tables-i.result [] within
    ∙ c.in-Some.ensures.found tables c.requires.count))

pub returns-in-None : goal.returns-in-None
returns-in-None c = rw c.new.ensures.items (c.in-None.ensures.none c.args.tables.now c.requires.count)
