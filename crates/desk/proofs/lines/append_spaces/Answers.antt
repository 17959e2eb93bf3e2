use Rattle.std.proofs.Common.{◌++◌, ◌∙◌, List, ℕ, ap}
use Rattle.std.proofs.lemmas.List.{take-replicate}
use Rattle.desk.proofs.lines.append_spaces.Goals as goal

pub returns-clause-text : goal.returns-clause-text
returns-clause-text c = c.append.ensures.text ∙ ap (λ (t : List ℕ). c.args.line.now.items ++ t) (take-replicate c.args.count 13 32 c.requires.few)
