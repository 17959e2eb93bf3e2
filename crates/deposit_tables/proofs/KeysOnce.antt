-- Keys in ascending order, each once.
use Rattle.std.proofs.Common.{◌≡◌, ◌↔◌, ◌<◌, ◌∷◌, ◌∙◌, [], ℕ, AllPairs, Bool, Bor, Contains, List, ap, arith, get_or, length, sym}
use Rattle.std.specs.Cmp.Lexicographic.{on_texts, on_texts_equal, pointwise, slice_cmp, texts_ties}
use Rattle.std.specs.List.{dedup}
use Rattle.std.specs.List.Sorted.{IsSorted, IsStrictlySortedBy}
use Rattle.std.specs.Ordering.{nat_cmp}
use Rattle.std.specs.Prelude.{nat_eq}
use Rattle.std.specs.declared.cmp.Ordering.TheVariants.{Less}
use Rattle.std.proofs.lemmas.List.{get_or-map, get_or_default, length-map}
use Rattle.std.proofs.lemmas.List.Elements.{All-from_recursion}
use Rattle.std.proofs.lemmas.List.Kept.{AllPairs-cons, Any-dedup, Contains-from_dedup, IsStrictlySortedBy-dedup}
use Rattle.std.proofs.lemmas.Slice.Eq.{bytes_eq-Decides}
use Rattle.dnrd_csv.specs.inside.RowKeys.{borrowed_texts}
use Rattle.deposit_verify.specs.inside.SortedKeys.{borrowed_text_cmp}
use Rattle.deposit_tables.specs.inside.Changing.{KeysAscend}

abbrev pub Keys : Type 0
Keys = List (Bor (List ℕ))

-- whether two borrowed keys are the same texts
abbrev pub same_text : Bor (List ℕ) → Bor (List ℕ) → Bool
same_text one other = pointwise nat_eq one.now other.now

pairs_of : (keys : Keys) → IsStrictlySortedBy borrowed_text_cmp keys → AllPairs (λ one other. borrowed_text_cmp one other ≡ Less) keys
unfolding IsStrictlySortedBy
pairs_of [] up = λ i j d below inside. absurd (omega (arith, inside))
pairs_of (key ∷ keys) up =
    AllPairs-cons (λ one other. borrowed_text_cmp one other ≡ Less) key keys (All-from_recursion (λ other. borrowed_text_cmp key other ≡ Less) keys up.0) (pairs_of keys up.1)

pub texts_ascend : (keys : Keys) → AllPairs (λ one other. borrowed_text_cmp one other ≡ Less) keys → KeysAscend (borrowed_texts keys)
texts_ascend keys pairs i j d below inside =
    let size = length-map keys (λ (k : Bor (List ℕ)). k.now) in
    let in_j : j < length keys = omega (arith, inside, size) in
    let in_i : i < length keys = omega (arith, below, in_j) in
    let e = get_or keys i (record { ref_ptr = (0, 0); now = d }) in
    ap (λ (key : List ℕ). slice_cmp nat_cmp key (get_or (borrowed_texts keys) j d)) (get_or-map (λ (k : Bor (List ℕ)). k.now) keys i e d in_i)
    ∙ ap (slice_cmp nat_cmp (get_or keys i e).now) (get_or-map (λ (k : Bor (List ℕ)). k.now) keys j e d in_j) ∙ pairs i j e below in_j

-- of keys in order, each once: they ascend
pub once_ascend : (keys : Keys) → IsSorted borrowed_text_cmp keys → KeysAscend (borrowed_texts (dedup same_text keys))
once_ascend keys sorted = texts_ascend (dedup same_text keys) (pairs_of (dedup same_text keys) (IsStrictlySortedBy-dedup (on_texts (λ (k : Bor (List ℕ)). k.now)) (λ one other. texts_ties one.now other.now) keys sorted))

-- and are the same
pub once_same : (keys : Keys) (text : List ℕ) → Contains (borrowed_texts (dedup same_text keys)) text ↔ Contains (borrowed_texts keys) text
once_same keys text = (there, back)
  where
    now : Bor (List ℕ) → List ℕ
    now k = k.now

    there : Contains (borrowed_texts (dedup same_text keys)) text → Contains (borrowed_texts keys) text
    there has =
        let size = length-map (dedup same_text keys) now in
        let inside : has.0 < length (dedup same_text keys) = let h = has.1 in omega (arith, h, size) in
        let key = get_or (dedup same_text keys) has.0 (record { ref_ptr = (0, 0); now = text }) in
        let is : key.now ≡ text = sym (get_or-map now (dedup same_text keys) has.0 (record { ref_ptr = (0, 0); now = text }) text inside) ∙ has.2 in
        let found = Contains-from_dedup same_text keys key (has.0, inside, get_or_default (dedup same_text keys) has.0 key (record { ref_ptr = (0, 0); now = text }) inside) in
        (found.0, (let h = found.1 in let n = length-map keys now in omega (arith, h, n)), get_or-map now keys found.0 key text found.1 ∙ ap now found.2 ∙ is)

    back : Contains (borrowed_texts keys) text → Contains (borrowed_texts (dedup same_text keys)) text
    back has =
        let size = length-map keys now in
        let inside : has.0 < length keys = let h = has.1 in omega (arith, h, size) in
        let key = get_or keys has.0 (record { ref_ptr = (0, 0); now = text }) in
        let is : key.now ≡ text = sym (get_or-map now keys has.0 (record { ref_ptr = (0, 0); now = text }) text inside) ∙ has.2 in
        let any = Any-dedup (on_texts_equal now) keys key (has.0, inside, get_or_default keys has.0 key (record { ref_ptr = (0, 0); now = text }) inside) in
        let same : key.now ≡ any.1.now = (bytes_eq-Decides key.now any.1.now).0 any.4 in
        (any.0, (let h = any.2 in let n = length-map (dedup same_text keys) now in omega (arith, h, n)), get_or-map now (dedup same_text keys) any.0 any.1 text any.2 ∙ ap now any.3 ∙ sym same ∙ is)
