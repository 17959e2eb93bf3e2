use Rattle.std.proofs.Common.{◌≡◌, ◌∙◌, ℕ, List, ◌+◌, ◌-◌, ◌≤◌, length, get_or, drop, ap, arith, get_or-take, get_or-drop, length-drop}
use Rattle.std.proofs.lemmas.List.{length-take-le}
use Rattle.vault_volume.proofs.ImageLemmas.{get_or-put_in}
use Rattle.vault_volume.proofs.memory.fill_range.Goals as goal

pub returns-clause-filled : goal.returns-clause-filled
returns-clause-filled c = λ i above below.
    let at = c.args.at in
    let fill = c.args.fill.now in
    let n = c.args.at + c.args.count - c.args.at in
    let range = c.requires.range in
    let size = c.requires.size in
    let inside : at ≤ length c.args.image.now = omega arith in
    let long : length c.copy_from_slice.new.self ≡ n = ap length c.copy_from_slice.ensures.after ∙ length-take-le n (drop at fill) (omega (arith, length-drop at fill)) in
    get_or-put_in c.args.image.now c.copy_from_slice.new.self at n i inside long above (omega arith)
    ∙ ap (λ (l : List ℕ). get_or l (i - at) 0) c.copy_from_slice.ensures.after
    ∙ get_or-take n (drop at fill) (i - at) 0 (omega arith)
    ∙ get_or-drop at fill (i - at) 0
    ∙ ap (λ (k : ℕ). get_or fill k 0) (omega arith)
