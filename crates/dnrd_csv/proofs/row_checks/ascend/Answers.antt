use Rattle.std.proofs.Common.{Less, ◌≡◌, ◌<◌, ◌+◌, ◌-◌, ◌∙◌, [], ap, arith, get_or, length, map, refl, sym, take}
use Rattle.std.specs.Ordering.{is_lt}
use Rattle.std.proofs.lemmas.List.{get_or-take, length-map, length-take, take_all, take_more}
use Rattle.dnrd_csv.specs.inside.RowKeys.{key_cmp, borrowed_texts}
use Rattle.dnrd_csv.proofs.KeyLemmas.{ascend_more, is_less, places_compare}
use Rattle.dnrd_csv.proofs.row_checks.ascend.Goals as goal

pub returns-then-not-is_lt : goal.returns-then-not-is_lt
returns-then-not-is_lt c = (
  λ e. cc e,
  λ all.
      let keys = c.args.keys.now in
      let i = c.loop-i.i in
      let started = c.loop-i.invariant.0 in
      let inside : i < length keys = c.loop-i-test.true in
      let before : i - 1 < length keys = omega (arith, inside) in
      let placed : i < length (map borrowed_texts keys) = omega (arith, inside, length-map keys borrowed_texts) in
      let less = places_compare keys (i - 1) i _ _ c.cmp.result before inside c.cmp.ensures ∙ all (i - 1) i [] (omega (arith, started)) placed in
      sym c.if-not-is_lt.true ∙ c.is_lt.ensures ∙ ap is_lt less,
)

pub loop-i-preserved : goal.loop-i-preserved
loop-i-preserved c =
    let keys = c.args.keys.now in
    let texts = map borrowed_texts keys in
    let i = c.loop-i.i in
    let started = c.loop-i.invariant.0 in
    let inside : i < length keys = c.loop-i-test.true in
    let before : i - 1 < length keys = omega (arith, inside) in
    let placed : i < length texts = omega (arith, inside, length-map keys borrowed_texts) in
    let last = get_or texts (i - 1) [] in
    let next = get_or texts i [] in
    let less : key_cmp last next ≡ Less =
    sym (places_compare keys (i - 1) i _ _ c.cmp.result before inside c.cmp.ensures) ∙ is_less c.cmp.result (sym c.is_lt.ensures ∙ c.if-not-is_lt.false) in
    let len : length (take i texts) ≡ (i - 1) + 1 = omega (arith, length-take i texts, placed, started) in
    let at = get_or-take i texts (i - 1) [] (omega (arith, started)) in
    (omega (arith, started), rw (take_more texts i [] placed) (ascend_more (take i texts) last next (i - 1) len at less c.loop-i.invariant.1))

pub returns : goal.returns
returns c = (
  λ _.
      let texts = map borrowed_texts c.args.keys.now in
      rw (take_all c.loop-i.i texts (omega (arith, length-map c.args.keys.now borrowed_texts, c.loop-i-test.false))) at c.loop-i.invariant.1,
  λ _. refl,
)
