use Rattle.std.proofs.Common.{List, subst, rules, arith}
use Rattle.std.specs.List.Sorted.{IsBinarySearchResult}
use Rattle.std.proofs.lemmas.Fn.{always_returns_same}
use Rattle.std.proofs.lemmas.Grind.{common_steps}
use Rattle.custody_records.specs.declared.holds.Hold.{Hold}
use Rattle.custody_records.specs.Keys.{text_cmp}
use Rattle.custody_records.specs.TypedRecords.{hold_key}
use Rattle.plain_machine.proofs.holds.PlainHolds.place_of.Goals as goal

pub returns-clause-place : goal.returns-clause-place
returns-clause-place c =
    subst (λ (rows : List Hold). IsBinarySearchResult (λ row. text_cmp (hold_key row) c.args.sought.now) rows c.binary_search_by.result) c.deref.ensures.value
    (c.binary_search_by.ensures.position (λ row. text_cmp (hold_key row) c.args.sought.now) (always_returns_same _ _ _ (λ a r s called.
    (first_of (search rules, grind (arith, common_steps)), first_of (search rules, cc, grind (arith, common_steps))))))
