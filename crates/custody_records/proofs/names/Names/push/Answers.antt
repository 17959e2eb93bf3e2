use Rattle.std.proofs.Common.{◌≡◌, ◌∙◌, ◌++◌, ◌∷◌, [], ap, rules}
use Rattle.deposit_name.specs.Name.{name_text}
use Rattle.custody_records.proofs.LineLemmas.{name_is_line, pushed}
use Rattle.custody_records.proofs.names.Names.push.Goals as goal

pub invariant_of-self-2 : goal.invariant_of-self-2
invariant_of-self-2 c =
    let line = name_text c.args.name.now in
    let items : c.extend_from_slice.new.self.items ≡ c.self.inside.text.items ++ (line ++ 10 ∷ []) = search rules in
    (pushed c.self.inside.text.items line c.extend_from_slice.new.self.items c.self.invariant (name_is_line c.args.name.now c.write_name-line.ensures.in_form) items).1

pub returns-clause-added : goal.returns-clause-added
returns-clause-added c =
    let line = name_text c.args.name.now in
    let items : c.extend_from_slice.new.self.items ≡ c.self.inside.text.items ++ (line ++ 10 ∷ []) = search rules in
    (pushed c.self.inside.text.items line c.extend_from_slice.new.self.items c.self.invariant (name_is_line c.args.name.now c.write_name-line.ensures.in_form) items).0
    ∙ ap (λ l. l ++ line ∷ []) c.self.view_is
