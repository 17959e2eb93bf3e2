use Rattle.std.proofs.Common.{[], ℕ, arith, get_or, rules}
use Rattle.std.proofs.lemmas.Fn.{always_returns_same}
use Rattle.std.proofs.lemmas.Grind.{common_steps}
use Rattle.std.proofs.lemmas.List.Sorted.{ranks_by}
use Rattle.dnrd_csv.proofs.KeyLemmas.{key_order}
use Rattle.deposit_tables.specs.inside.Places.{is_below, six_fields}
use Rattle.deposit_tables.proofs.RowsOrdered.{places_moved}
use Rattle.deposit_tables.proofs.order.sorted_places.Goals as goal

pub returns-clause-places : goal.returns-clause-places
returns-clause-places c = places_moved _ _ _ c.in_ok-places.ensures c.sort_unstable_by.ensures.permutation

pub returns-clause-sorted : goal.returns-clause-sorted
returns-clause-sorted c =
    c.sort_unstable_by.ensures.sorted (is_below c.args.rows.now) (ranks_by key_order (λ (place : ℕ). six_fields (get_or c.args.rows.now place [])))
    (always_returns_same _ _ _ (λ a r s called. (first_of (search rules, grind (arith, common_steps)), first_of (search rules, cc, grind (arith, common_steps)))))
