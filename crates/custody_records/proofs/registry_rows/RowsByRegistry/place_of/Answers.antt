use Rattle.std.proofs.Common.{List, subst, rules, arith}
use Rattle.std.specs.List.Sorted.{IsBinarySearchResult}
use Rattle.std.proofs.lemmas.Fn.{always_returns_same}
use Rattle.std.proofs.lemmas.Grind.{common_steps}
use Rattle.custody_records.specs.declared.registry_rows.RegistryRows.{RegistryRows}
use Rattle.custody_records.specs.Keys.{text_cmp}
use Rattle.custody_records.proofs.registry_rows.RowsByRegistry.place_of.Goals as goal

pub returns-clause-place : goal.returns-clause-place
returns-clause-place g c =
    subst (λ (registries : List (RegistryRows g.row.T.Denot g.row.T-Key.Denot g.T.OfRegistry g.T.Keyed)). IsBinarySearchResult (λ r. text_cmp r.tld c.args.tld.now) registries c.binary_search_by.result) c.deref.ensures.value
    (c.binary_search_by.ensures.position (λ r. text_cmp r.tld c.args.tld.now) (always_returns_same _ _ _ (λ a r s called.
    (first_of (search rules, grind (arith, common_steps)), first_of (search rules, cc, grind (arith, common_steps))))))
