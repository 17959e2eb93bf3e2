use Rattle.std.proofs.Common.{◌≡◌, ap, arith, length, rules}
use Rattle.std.proofs.lemmas.Grind.{common_steps}
use Rattle.deposit_name.specs.Name.{IsName, name_text}
use Rattle.deposit_name.proofs.NameTextLemmas.{length-name_text}
use Rattle.deposit_name.proofs.writing.write_name.Goals as goal

pub returns-clause-most : goal.returns-clause-most
returns-clause-most c =
    let in_form : IsName c.args.n.now = search rules in
    let text : c.append-8.new.line.items ≡ name_text c.args.n.now = grind (arith, common_steps) in
    omega (arith, ap length text, length-name_text c.args.n.now in_form)
