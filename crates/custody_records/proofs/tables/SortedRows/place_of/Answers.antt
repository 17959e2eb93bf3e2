use Rattle.std.proofs.Common.{List, subst, rules, arith}
use Rattle.std.specs.List.Sorted.{IsBinarySearchResult}
use Rattle.std.proofs.lemmas.Fn.{always_returns_same}
use Rattle.std.proofs.lemmas.Grind.{common_steps}
use Rattle.custody_records.proofs.tables.SortedRows.place_of.Goals as goal

pub returns-clause-place : goal.returns-clause-place
returns-clause-place g c =
    subst (λ (rows : List g.row.T.Denot). IsBinarySearchResult (λ row. g.T.Keyed.order (g.T.Keyed.key_of row) c.args.sought.now) rows c.binary_search_by.result) c.deref.ensures.value
    (c.binary_search_by.ensures.position (λ row. g.T.Keyed.order (g.T.Keyed.key_of row) c.args.sought.now) (always_returns_same _ _ _ (λ a r s called.
    (first_of (search rules, grind (arith, common_steps)), first_of (search rules, cc, grind (arith, common_steps))))))
