use Rattle.std.proofs.Common.{◌≡◌, ◌∙◌, ◌+◌, ◌∷◌, [], sym, ap, rules, take}
use Rattle.std.proofs.lemmas.List.{take_rest}
use Rattle.custody_records.specs.Names.{lines_of}
use Rattle.custody_records.proofs.LineLemmas.{lines_of-found, lines_of-none}
use Rattle.custody_records.proofs.lines.split_line.Goals as goal

pub returns-in_err-end : goal.returns-in_err-end
returns-in_err-end c =
    let none : lines_of c.args.text.now ≡ [] = lines_of-none c.args.text.now (sym c.in_err-end.ensures.place) in
    search rules

pub returns : goal.returns
returns c =
    lines_of-found c.args.text.now c.in_ok-end.end (sym c.in_ok-end.ensures.place)
    ∙ ap (λ l. take c.in_ok-end.end c.args.text.now ∷ lines_of l) (sym (take_rest c.args.text.now (c.in_ok-end.end + 1)))
