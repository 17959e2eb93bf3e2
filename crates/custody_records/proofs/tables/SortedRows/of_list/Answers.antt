use Rattle.std.proofs.Common.{sym, subst, rules, arith}
use Rattle.std.specs.Ordering.{is_lt}
use Rattle.std.proofs.lemmas.Fn.{always_returns_same}
use Rattle.std.proofs.lemmas.Grind.{common_steps}
use Rattle.std.proofs.lemmas.List.Sorted.{ranks_by}
use Rattle.custody_records.proofs.KeyedLemmas.{IsRisingAnswer, rising_by_answer, keyed_in_order, keyed_by_answer}
use Rattle.custody_records.proofs.tables.SortedRows.of_list.Goals as goal

pub invariant_of-result : goal.invariant_of-result
invariant_of-result g c =
    let order = g.T.Keyed.order in
    let key = g.T.Keyed.key_of in
    let answer = c.is_sorted_by.ensures.cases (λ x y. is_lt (order (key x) (key y)))
    (always_returns_same _ _ _ (λ a r s called. (first_of (search rules, grind (arith, common_steps)), first_of (search rules, cc, grind (arith, common_steps))))) in
    record { rising = rising_by_answer order key g.met.T.Keyed.total _ _ (subst (λ rows. IsRisingAnswer order key rows c.is_sorted_by.result) c.deref.ensures.value answer) c.if-is_sorted_by.true }

pub returns-then-is_sorted_by : goal.returns-then-is_sorted_by
returns-then-is_sorted_by g c =
    let order = g.T.Keyed.order in
    let key = g.T.Keyed.key_of in
    let answer = c.is_sorted_by.ensures.cases (λ x y. is_lt (order (key x) (key y)))
    (always_returns_same _ _ _ (λ a r s called. (first_of (search rules, grind (arith, common_steps)), first_of (search rules, cc, grind (arith, common_steps))))) in
    sym (keyed_in_order order key g.T.Keyed.value_of g.met.T.Keyed.total g.met.T.Keyed.exact c.args.rows.items _ c.sort_unstable_by.ensures.permutation (rising_by_answer order key g.met.T.Keyed.total _ _ (subst (λ rows. IsRisingAnswer order key rows c.is_sorted_by.result) c.deref.ensures.value answer) c.if-is_sorted_by.true))

pub returns-else-is_sorted_by : goal.returns-else-is_sorted_by
returns-else-is_sorted_by g c =
    let order = g.T.Keyed.order in
    let key = g.T.Keyed.key_of in
    let lt = λ (x y : g.row.T.Denot). is_lt (order (key x) (key y)) in
    let sorted = c.sort_unstable_by.ensures.sorted lt (ranks_by g.met.T.Keyed.total key)
    (always_returns_same _ _ _ (λ a r s called. (first_of (search rules, grind (arith, common_steps)), first_of (search rules, cc, grind (arith, common_steps))))) in
    let answer = c.is_sorted_by.ensures.cases lt (always_returns_same _ _ _ (λ a r s called. (first_of (search rules, grind (arith, common_steps)), first_of (search rules, cc, grind (arith, common_steps))))) in
    sym (keyed_by_answer order key g.T.Keyed.value_of g.met.T.Keyed.total g.met.T.Keyed.exact c.args.rows.items _ c.sort_unstable_by.ensures.permutation c.is_sorted_by.result sorted
    (subst (λ rows. IsRisingAnswer order key rows c.is_sorted_by.result) c.deref.ensures.value answer) c.if-is_sorted_by.false)
