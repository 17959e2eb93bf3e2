use Rattle.std.proofs.Common.{◌≡◌, ◌∙◌, ◌++◌, ◌∷◌, [], ◌==◌, Some, false, ap, sym, arith}
use Rattle.std.proofs.lemmas.Bool.Decides.{nat_tests}
use Rattle.custody_records.specs.Form.{lines_in}
use Rattle.custody_records.specs.Names.{lines_of}
use Rattle.custody_records.specs.RowsOfRecords.{text_of_lines}
use Rattle.custody_records.proofs.LineLemmas.{lines_in-cut, lines_in-ended, text_of-lines_of}
use Rattle.custody_records.proofs.names.Names.parse.Goals as goal

pub returns-then-last-ne10 : goal.returns-then-last-ne10
returns-then-last-ne10 c = λ _.
    let other : (c.in-Some.last.now == 10) ≡ false = grind (arith, nat_tests) in
    ap lines_in c.in-Some.ensures.cases.0 ∙ lines_in-cut c.in-Some.field-0-1.now c.in-Some.last.now other

pub invariant_of-result : goal.invariant_of-result
invariant_of-result c =
    let front = c.in-Some.field-0-1.now in
    let items : c.in_ok-from_slice.field-0.items ≡ front ++ 10 ∷ [] = c.in_ok-from_slice.ensures.items ∙ c.in-Some.ensures.cases.0 ∙ ap (λ b. front ++ b ∷ []) c.if-last-ne10.false in
    items ∙ sym (text_of-lines_of front) ∙ ap (λ l. text_of_lines (lines_of l)) (sym items)

pub returns : goal.returns
returns c =
    let front = c.in-Some.field-0-1.now in
    let text : c.args.text.now ≡ front ++ 10 ∷ [] = c.in-Some.ensures.cases.0 ∙ ap (λ b. front ++ b ∷ []) c.if-last-ne10.false in
    ap lines_in text ∙ lines_in-ended front ∙ ap (λ l. Some (lines_of l)) (sym text ∙ sym c.in_ok-from_slice.ensures.items)
