use Rattle.std.proofs.Common.{◌<◌, ◌++◌, ◌∷◌, ◌∙◌, [], List, ℕ, ap, arith, get_or, length, map, sym, take}
use Rattle.std.proofs.lemmas.List.{map_push, take_all}
use Rattle.dnrd_csv.specs.inside.RowKeys.{keys_of, padded_key, borrowed_texts}
use Rattle.dnrd_csv.proofs.KeyLemmas.{keys_more, length-keys_of}
use Rattle.dnrd_csv.proofs.row_checks.keys_of.Goals as goal

pub loop-i-preserved : goal.loop-i-preserved
loop-i-preserved c =
    let rows = c.args.rows.now in
    let inside : c.loop-i.i < length rows = omega (arith, c.loop-i-test.true, c.len-i-end.ensures) in
    rw c.in_ok-push.ensures.items (map_push borrowed_texts c.loop-i.keys.items c.key_of.result
    ∙ ap (λ (t : List (List ℕ)). map borrowed_texts c.loop-i.keys.items ++ t ∷ []) c.key_of.ensures
    ∙ ap (λ (ts : List (List (List ℕ))). ts ++ padded_key (take c.args.key (get_or rows c.loop-i.i [])) ∷ []) c.loop-i.invariant
    ∙ sym (keys_more c.args.key rows c.loop-i.i inside))

pub returns : goal.returns
returns c =
    let rows = c.args.rows.now in
    c.loop-i.invariant ∙ take_all c.loop-i.i (keys_of c.args.key rows) (omega (arith, length-keys_of c.args.key rows, c.loop-i-test.false, c.len-i-end.ensures))
