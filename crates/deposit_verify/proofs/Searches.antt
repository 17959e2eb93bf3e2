-- Keys that are looked for among keys in order.
use Rattle.std.proofs.Common.{◌≡◌, ◌<◌, ◌∙◌, Bor, Contains, List, ℕ, ap, arith, get_or, length, sym, inl, inr, Result, Ok, Err, IsTrue, ◌↔◌, rules}
use Rattle.std.specs.declared.cmp.Ordering.TheVariants.{Less, Equal, Greater}
use Rattle.std.specs.Cmp.Lexicographic.{slice_cmp}
use Rattle.std.specs.List.Sorted.{IsSorted, IsBinarySearchResult, IsSearchInRange, IsPermutation}
use Rattle.std.specs.Ordering.{is_eq, nat_cmp}
use Rattle.std.specs.Prelude.{is_ok}
use Rattle.std.proofs.lemmas.Bool.Decides.{leb_tells}
use Rattle.std.proofs.lemmas.Cmp.{nat_list_cmp_total}
use Rattle.std.proofs.lemmas.List.{get_or-map, length-map}
use Rattle.std.proofs.lemmas.List.Sorted.{Contains-permutation, IsPermutation-map, IsPermutation-sym, searchable_from_sorted}
use Rattle.std.proofs.lemmas.Map.Text.{is_eq-slice_cmp}
use Rattle.std.proofs.lemmas.Slice.Eq.{bytes_eq-Decides}
use Rattle.dnrd_csv.specs.inside.RowKeys.{borrowed_texts}
use Rattle.deposit_verify.specs.inside.SortedKeys.{borrowed_text_cmp}

pub same_text : (one other : List ℕ) → slice_cmp nat_cmp one other ≡ Equal → one ≡ other
same_text one other equal = (bytes_eq-Decides one other).0 (sym (is_eq-slice_cmp one other) ∙ ap is_eq equal)

equal_to_itself : (one other : List ℕ) → one ≡ other → slice_cmp nat_cmp one other ≡ Less → ⊥
equal_to_itself one other same less = cc (is_eq-slice_cmp one other, (bytes_eq-Decides one other).1 same, ap is_eq less)

equal_not_above : (one other : List ℕ) → one ≡ other → slice_cmp nat_cmp one other ≡ Greater → ⊥
equal_not_above one other same greater = cc (is_eq-slice_cmp one other, (bytes_eq-Decides one other).1 same, ap is_eq greater)

-- what is found is a key
pub found_is_key : (keys : List (Bor (List ℕ))) (text : Bor (List ℕ)) (i : ℕ) → i < length keys → borrowed_text_cmp (get_or keys i text) text ≡ Equal → Contains (borrowed_texts keys) text.now
found_is_key keys text i inside equal =
    let placed : i < length (borrowed_texts keys) = omega (arith, length-map keys (λ (k : Bor (List ℕ)). k.now)) in
    (i, placed, get_or-map (λ k. k.now) keys i text text.now inside ∙ same_text _ _ equal)

-- a key that stands at a place
pub key_at : (keys : List (Bor (List ℕ))) (text : Bor (List ℕ)) (h : Contains (borrowed_texts keys) text.now) → (h.0 < length keys) × ((get_or keys h.0 text).now ≡ text.now)
key_at keys text h =
    let inside : h.0 < length keys = omega (arith, length-map keys (λ (k : Bor (List ℕ)). k.now), h.1) in
    (inside, sym (get_or-map (λ k. k.now) keys h.0 text text.now inside) ∙ h.2)

-- a search among keys in order finds a key exactly if it is there
pub search_decides : (keys : List (Bor (List ℕ))) (text : Bor (List ℕ)) (r : Result ℕ ℕ) → IsSorted borrowed_text_cmp keys → IsSearchInRange r (length keys)
    → IsBinarySearchResult (λ y. borrowed_text_cmp y text) keys r → IsTrue (is_ok r) ↔ Contains (borrowed_texts keys) text.now
search_decides keys text (Ok i) sorted inside at = (λ _. found_is_key keys text i inside (at text), λ _. search rules)
search_decides keys text (Err i) sorted inside at = (
  λ e. search rules,
  λ h.
      let placed = key_at keys text h in
      let part = at (searchable_from_sorted nat_list_cmp_total (λ (k : Bor (List ℕ)). k.now) keys text.now sorted) in
      absurd (elim (leb_tells i h.0) [
        | inl above ↦ equal_not_above _ _ placed.1 (part.1 h.0 text above.1 placed.0)
        | inr below ↦ equal_to_itself _ _ placed.1 (part.0 h.0 text (omega arith) below.1)
      ]),
)

-- keys in another order have the same texts
pub permuted_texts : (keys sorted : List (Bor (List ℕ))) → IsPermutation keys sorted → (text : List ℕ) → Contains (borrowed_texts sorted) text ↔ Contains (borrowed_texts keys) text
permuted_texts keys sorted moved text =
    let there = IsPermutation-map (λ (k : Bor (List ℕ)). k.now) keys sorted moved in
    (Contains-permutation _ _ text (IsPermutation-sym _ _ there), Contains-permutation _ _ text there)
