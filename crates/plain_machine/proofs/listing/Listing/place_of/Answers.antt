use Rattle.std.proofs.Common.{List, subst, rules, arith}
use Rattle.std.specs.List.Sorted.{IsBinarySearchResult}
use Rattle.std.proofs.lemmas.Fn.{always_returns_same}
use Rattle.std.proofs.lemmas.Grind.{common_steps}
use Rattle.custody_records.specs.Keys.{part_cmp}
use Rattle.plain_machine.specs.declared.listing.ListedPart.{ListedPart}
use Rattle.plain_machine.specs.inside.Listing.{listed_key}
use Rattle.plain_machine.proofs.listing.Listing.place_of.Goals as goal

pub returns-clause-place : goal.returns-clause-place
returns-clause-place c =
    subst (λ (rows : List ListedPart). IsBinarySearchResult (λ row. part_cmp (listed_key row) c.args.sought.now) rows c.binary_search_by.result) c.deref.ensures.value
    (c.binary_search_by.ensures.position (λ row. part_cmp (listed_key row) c.args.sought.now) (always_returns_same _ _ _ (λ a r s called.
    (first_of (search rules, grind (arith, common_steps)), first_of (search rules, cc, grind (arith, common_steps))))))
