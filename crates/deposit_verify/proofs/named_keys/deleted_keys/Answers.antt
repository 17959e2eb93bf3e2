use Rattle.std.proofs.Common.{◌<◌, ◌∙◌, [], ap, arith, length, map, sym}
use Rattle.std.proofs.lemmas.List.{get_or-map, length-map}
use Rattle.dnrd_csv.specs.Text.{key_rows}
use Rattle.deposit_verify.specs.References.{column}
use Rattle.deposit_verify.proofs.Lifted.{if_ok}
use Rattle.deposit_verify.proofs.NamedRows.{column-key_rows}
use Rattle.deposit_verify.proofs.named_keys.deleted_keys.Goals as goal

pub returns-in-Some : goal.returns-in-Some
returns-in-Some c =
    let deleted = c.args.deleted.now in
    let within : c.in-Some.i < length deleted = omega (arith, c.in-Some.ensures.inside, c.requires) in
    if_ok c.key_texts.result _ _ c.key_texts.ensures (λ keys e. e ∙ sym (column-key_rows c.index-deleted-i.result)
    ∙ ap (column 0) (ap key_rows c.index-deleted-i.is ∙ sym (get_or-map key_rows deleted c.in-Some.i c.index-deleted-i.result [] within)
    ∙ c.in-Some.ensures.found (map key_rows deleted) (length-map deleted key_rows ∙ c.requires)))

pub returns-in-None : goal.returns-in-None
returns-in-None c = rw c.new.ensures.items (c.in-None.ensures.none (map key_rows c.args.deleted.now) (length-map c.args.deleted.now key_rows ∙ c.requires))
