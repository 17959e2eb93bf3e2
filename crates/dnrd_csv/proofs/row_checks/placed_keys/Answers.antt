use Rattle.std.proofs.Common.{List, ℕ, ◌<◌, ◌+◌, ◌++◌, ◌∷◌, ◌∙◌, [], ap, arith, get_or, length, map, sym, take}
use Rattle.std.proofs.lemmas.List.{length-append, map_push, take_all}
use Rattle.dnrd_csv.specs.inside.RowKeys.{key_texts, keys_of, padded_key}
use Rattle.dnrd_csv.proofs.KeyLemmas.{keys_more, length-keys_of}
use Rattle.dnrd_csv.proofs.RepeatLemmas.{Placed, places_push}
use Rattle.dnrd_csv.proofs.row_checks.placed_keys.Goals as goal

pub loop-i-preserved : goal.loop-i-preserved
loop-i-preserved c =
    let rows = c.args.rows.now in
    let items = c.loop-i.placed.items in
    let before = c.loop-i.invariant in
    let last : Placed = (c.key_of.result, c.loop-i.i) in
    let inside : c.loop-i.i < length rows = omega (arith, c.loop-i-test.true, c.len-i-end.ensures) in
    record {
      keys = rw c.in_ok-push.ensures.items (map_push key_texts items last
          ∙ ap (λ (t : List (List ℕ)). map key_texts items ++ t ∷ []) c.key_of.ensures
          ∙ ap (λ (ts : List (List (List ℕ))). ts ++ padded_key (take c.args.key (get_or rows c.loop-i.i [])) ∷ []) before.keys
          ∙ sym (keys_more c.args.key rows c.loop-i.i inside));
      places = rw c.in_ok-push.ensures.items (places_push items last before.places (sym before.count));
      count = ap length c.in_ok-push.ensures.items ∙ length-append items (last ∷ []) ∙ ap (λ (n : ℕ). n + 1) before.count;
    }

pub returns-clause-keys : goal.returns-clause-keys
returns-clause-keys c =
    let rows = c.args.rows.now in
    c.loop-i.invariant.keys ∙ take_all c.loop-i.i (keys_of c.args.key rows) (omega (arith, length-keys_of c.args.key rows, c.loop-i-test.false, c.len-i-end.ensures))
