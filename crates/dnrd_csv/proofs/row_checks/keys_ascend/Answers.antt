use Rattle.std.proofs.Common.{List, ℕ, Less, ◌≡◌, ◌<◌, ◌+◌, ◌-◌, ◌∙◌, [], ap, arith, get_or, length, sym, take}
use Rattle.std.proofs.lemmas.List.{get_or-take, length-take, take_all}
use Rattle.dnrd_csv.specs.inside.RowKeys.{key_cmp, keys_of, padded_key, borrowed_texts}
use Rattle.dnrd_csv.proofs.KeyLemmas.{ascend_differ, ascend_more, by_texts, is_less, key_at, keys_more, length-keys_of, plain_differ}
use Rattle.dnrd_csv.proofs.row_checks.keys_ascend.Goals as goal

pub loop-i-preserved : goal.loop-i-preserved
loop-i-preserved c =
    let key = c.args.key in
    let rows = c.args.rows.now in
    let keys = keys_of key rows in
    let i = c.loop-i.i in
    let started = c.loop-i.invariant.0 in
    let inside : i < length rows = omega (arith, c.loop-i-test.true, c.len-i-end.ensures) in
    let before : i - 1 < length rows = omega (arith, inside) in
    let last = padded_key (take key (get_or rows (i - 1) [])) in
    let next = padded_key (take key (get_or rows i [])) in
    let less : key_cmp last next ≡ Less =
    ap (λ (k : List (List ℕ)). key_cmp k next) (sym c.key_of-last.ensures)
    ∙ ap (key_cmp (borrowed_texts c.key_of-last.result)) (sym c.key_of-next.ensures)
    ∙ sym (by_texts c.key_of-last.result c.key_of-next.result)
    ∙ sym c.cmp.ensures
    ∙ is_less c.cmp.result (sym c.is_lt.ensures ∙ c.if-not-is_lt.false) in
    let len : length (take i keys) ≡ (i - 1) + 1 = omega (arith, length-take i keys, length-keys_of key rows, inside, started) in
    let at = get_or-take i keys (i - 1) [] (omega (arith, started)) ∙ key_at key rows (i - 1) [] before in
    (omega (arith, started), rw (keys_more key rows i inside) (ascend_more (take i keys) last next (i - 1) len at less c.loop-i.invariant.1))

pub returns : goal.returns
returns c = λ _.
    let keys = keys_of c.args.key c.args.rows.now in
    let all = take_all c.loop-i.i keys (omega (arith, length-keys_of c.args.key c.args.rows.now, c.loop-i-test.false, c.len-i-end.ensures)) in
    plain_differ c.args.key c.args.rows.now (ascend_differ keys (rw all at c.loop-i.invariant.1))
