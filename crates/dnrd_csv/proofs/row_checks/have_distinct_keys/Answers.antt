use Rattle.std.proofs.Common.{AllPairs, Bor, List, ℕ, ◌≢◌, map, subst, sym}
use Rattle.std.proofs.lemmas.List.Sorted.{IsPermutation-sym}
use Rattle.dnrd_csv.specs.inside.RowKeys.{Ascend, borrowed_texts}
use Rattle.dnrd_csv.proofs.KeyLemmas.{ascend_differ, padded_differ, permuted_differ, plain_differ, rises}
use Rattle.dnrd_csv.proofs.row_checks.have_distinct_keys.Goals as goal

abbrev Differ : List (List (List ℕ)) → Type 0
Differ keys = AllPairs (λ one other. one ≢ other) keys

abbrev TextsAscend : List (List (Bor (List ℕ))) → Type 0
TextsAscend keys = Ascend (map borrowed_texts keys)

pub returns : goal.returns
returns c =
    let key = c.args.key in
    let rows = c.args.rows.now in
    let keys = c.in_ok-keys.keys.items in
    let moved = c.sort_unstable.new.self.items in
    let there = c.sort_unstable.ensures.permutation in (
      λ yes.
          let ascending = subst TextsAscend c.deref.ensures.value (c.ascend.ensures.0 yes) in
          let differ = permuted_differ moved keys (IsPermutation-sym keys moved there) (ascend_differ (map borrowed_texts moved) ascending) in
          plain_differ key rows (subst Differ c.in_ok-keys.ensures differ),
      λ have.
          let differ = subst Differ (sym c.in_ok-keys.ensures) (padded_differ key rows c.requires.most c.requires.within have) in
          c.ascend.ensures.1 (subst TextsAscend (sym c.deref.ensures.value) (rises moved c.sort_unstable.ensures.sorted (permuted_differ keys moved there differ))),
    )
