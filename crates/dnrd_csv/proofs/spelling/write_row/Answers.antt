use Rattle.std.specs.Prelude.{◌==◌, if◌then◌else◌}
use Rattle.std.proofs.Common.{◌≡◌, ◌<◌, ◌+◌, ◌-◌, ◌++◌, ◌∷◌, ◌∙◌, [], List, ℕ, ap, append_assoc, arith, drop, get_or, length, map, sym, take}
use Rattle.std.specs.List.{join_with_byte}
use Rattle.std.proofs.lemmas.List.{get_or-drop, get_or-take, length-drop, length-take}
use Rattle.csv.specs.Records.{fields_of}
use Rattle.dnrd_csv.specs.Text.{field_text}
use Rattle.dnrd_csv.proofs.WritingLemmas.{row_more}
use Rattle.dnrd_csv.proofs.spelling.write_row.Goals as goal

pub loop-i-preserved : goal.loop-i-preserved
loop-i-preserved c =
    let before = c.args.out.now.items in
    let fields = fields_of c.args.fields.now in
    let from = c.args.from in
    let count = c.args.end - from in
    let i = c.loop-i.i - from in
    let row = take count (drop from fields) in
    let within : i < count = omega arith in
    let inside : i < length row = omega (arith, length-take count (drop from fields), length-drop from fields, c.requires.within) in
    let joined : List ℕ = join_with_byte 44 (map field_text (take i row)) in
    let comma : List ℕ = if i == 0 then [] else 44 ∷ [] in
    let here : from + i ≡ c.loop-i.i = omega arith in
    let next : i + 1 ≡ c.loop-i.i + 1 - from = omega arith in
    let field = c.field_at.ensures ∙ ap (λ (k : ℕ). get_or fields k []) (sym here) ∙ sym (get_or-take count (drop from fields) i [] within ∙ get_or-drop from fields i []) in
    c.in_ok-write_field.ensures
    ∙ ap (λ (t : List ℕ). t ++ field_text c.field_at.result.now) c.in_ok-write_comma.ensures
    ∙ ap (λ (t : List ℕ). (t ++ comma) ++ field_text c.field_at.result.now) c.loop-i.invariant
    ∙ ap (λ (t : List ℕ). ((before ++ joined) ++ comma) ++ field_text t) field
    ∙ ap (λ (t : List ℕ). t ++ field_text (get_or row i [])) (append_assoc before joined comma)
    ∙ append_assoc before (joined ++ comma) (field_text (get_or row i []))
    ∙ ap (λ (t : List ℕ). before ++ t) (sym (row_more row i inside))
    ∙ ap (λ (k : ℕ). before ++ join_with_byte 44 (map field_text (take k row))) next
