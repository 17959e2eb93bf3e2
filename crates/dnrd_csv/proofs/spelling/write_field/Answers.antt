use Rattle.std.proofs.Common.{◌++◌, ◌∷◌, ◌∙◌, [], List, ℕ, ap, append_assoc, get_or, sym, take}
use Rattle.dnrd_csv.specs.Text.{escaped_field}
use Rattle.dnrd_csv.proofs.WritingLemmas.{doubled_more}
use Rattle.dnrd_csv.proofs.spelling.write_field.Goals as goal

pub loop-byte-init : goal.loop-byte-init
unfolding escaped_field
loop-byte-init c = c.in_ok-push.ensures.items

pub loop-byte-preserved : goal.loop-byte-preserved
loop-byte-preserved c =
    let before = c.args.out.now.items in
    let field = c.args.field.now in
    let i = c.loop-byte.byte-index in
    let more = doubled_more field i 0 c.loop-byte-test.true in
    let last = escaped_field (get_or field i 0 ∷ []) in
    c.in_ok-write_escaped.ensures
    ∙ ap (λ (t : List ℕ). t ++ last) c.loop-byte.invariant
    ∙ append_assoc before (34 ∷ escaped_field (take i field)) last
    ∙ ap (λ (t : List ℕ). before ++ 34 ∷ t) (sym more)
