-- Keys as lists of texts, and their order.
use Rattle.std.proofs.Common.{All, AllPairs, Bool, Bor, List, Ordering, ℕ, ◌≡◌, ◌≢◌, ◌≤◌, ◌<◌, ◌+◌, ◌++◌, ◌∷◌, ◌∙◌, [], ap, inl, inr, arith, false, get_or, length, map, refl, sym, take, true}
use Rattle.std.specs.Prelude.{◌&&◌}
use Rattle.std.specs.Bool.{Decides}
use Rattle.std.specs.Cmp.{IsEquivalence, IsTotalOrder}
use Rattle.std.specs.Cmp.Lexicographic.{pointwise, slice_cmp}
use Rattle.std.specs.Ordering.{is_eq, is_lt, nat_cmp, ordering_reverse, ordering_then}
use Rattle.std.specs.declared.cmp.Ordering.TheVariants.{Less, Equal, Greater}
use Rattle.std.specs.List.{IsDistinct}
use Rattle.std.specs.List.Sorted.{IsPermutation, IsSorted, IsSortedBy}
use Rattle.std.specs.Str.{bytes_eq}
use Rattle.std.proofs.lemmas.Cmp.{lists_equiv, lists_total, nat_list_cmp_total, nat_list_eq_equiv}
use Rattle.std.proofs.lemmas.List.{get_or_default, get_or-map, length-map, length-take, take-take, take_more}
use Rattle.std.proofs.lemmas.Bool.{false_from_ne_true}
use Rattle.std.proofs.lemmas.Bool.Decides.{eqb_tells}
use Rattle.std.proofs.lemmas.List.Sorted.{IsPermutation-map, ranks_by, sorted_far}
use Rattle.std.proofs.lemmas.Map.Keys.{IsDistinct-IsPermutation, IsDistinct-from_apart}
use Rattle.std.proofs.lemmas.Map.Made.{AllPairs-from_IsDistinct}
use Rattle.std.proofs.lemmas.List.Quantifiers.{all_pairs_push}
use Rattle.std.proofs.lemmas.Map.Text.{is_eq-slice_cmp}
use Rattle.std.proofs.lemmas.Slice.Eq.{bytes_eq-Decides, slice_eq-Decides}
use Rattle.std.proofs.Math.Seq.{take-append_seam}
use Rattle.dnrd_csv.specs.inside.RowKeys.{Ascend, key_cmp, keys_of, padded_key, borrowed_texts}

-- whether two keys are the same texts
abbrev pub same_key : List (List ℕ) → List (List ℕ) → Bool
same_key = pointwise bytes_eq

pub same_key-Decides : (one other : List (List ℕ)) → Decides (same_key one other) (one ≡ other)
same_key-Decides one other = slice_eq-Decides bytes_eq-Decides one other (same_key one other) refl

pub same_key-laws : IsEquivalence same_key
same_key-laws = lists_equiv nat_list_eq_equiv

-- the order of fields that are borrowed
abbrev pub field_cmp : Bor (List ℕ) → Bor (List ℕ) → Ordering
field_cmp one other = slice_cmp nat_cmp one.now other.now

pub key_order : IsTotalOrder key_cmp
key_order = lists_total nat_list_cmp_total

-- borrowed keys compare as their texts
pub by_texts : (xs ys : List (Bor (List ℕ))) → slice_cmp field_cmp xs ys ≡ key_cmp (borrowed_texts xs) (borrowed_texts ys)
by_texts [] [] = refl
by_texts [] (y ∷ ys) = refl
by_texts (x ∷ xs) [] = refl
by_texts (x ∷ xs) (y ∷ ys) = ap (ordering_then (slice_cmp nat_cmp x.now y.now)) (by_texts xs ys)

is_eq-then : (first next : Ordering) → is_eq (ordering_then first next) ≡ (is_eq first && is_eq next)
is_eq-then Less next = refl
is_eq-then Equal next = refl
is_eq-then Greater next = refl

-- keys compare `Equal` exactly if they are the same texts
pub same_texts : (xs ys : List (List ℕ)) → is_eq (key_cmp xs ys) ≡ same_key xs ys
same_texts [] [] = refl
same_texts [] (y ∷ ys) = refl
same_texts (x ∷ xs) [] = refl
same_texts (x ∷ xs) (y ∷ ys) = is_eq-then (slice_cmp nat_cmp x y) (key_cmp xs ys)
    ∙ ap (λ (b : Bool). b && is_eq (key_cmp xs ys)) (is_eq-slice_cmp x y)
    ∙ ap (λ (b : Bool). bytes_eq x y && b) (same_texts xs ys)

-- the keys of rows as they stand
abbrev pub plain_keys : ℕ → List (List (List ℕ)) → List (List (List ℕ))
plain_keys key rows = map (take key) rows

pub unpadded : (key : ℕ) (one : List (List ℕ)) → length one ≡ key → key ≤ 3 → take key (padded_key one) ≡ one
unpadded key one len most =
    take-take key 3 (one ++ [] ∷ [] ∷ []) most
    ∙ ap (λ (n : ℕ). take n (one ++ [] ∷ [] ∷ [])) (sym len)
    ∙ take-append_seam one ([] ∷ [] ∷ [])

pub length-keys_of : (key : ℕ) (rows : List (List (List ℕ))) → length (keys_of key rows) ≡ length rows
length-keys_of key rows = length-map (plain_keys key rows) padded_key ∙ length-map rows (take key)

pub key_at : (key : ℕ) (rows : List (List (List ℕ))) (i : ℕ) (d : List (List ℕ)) → i < length rows → get_or (keys_of key rows) i d ≡ padded_key (take key (get_or rows i []))
key_at key rows i d inside =
    let mapped : i < length (plain_keys key rows) = omega (arith, length-map rows (take key)) in
    get_or-map padded_key (plain_keys key rows) i [] d mapped ∙ ap padded_key (get_or-map (take key) rows i [] [] inside)

-- one more key
pub keys_more : (key : ℕ) (rows : List (List (List ℕ))) (i : ℕ) → i < length rows → take (i + 1) (keys_of key rows) ≡ take i (keys_of key rows) ++ padded_key (take key (get_or rows i [])) ∷ []
keys_more key rows i inside =
    let mapped : i < length (keys_of key rows) = omega (arith, length-keys_of key rows) in
    take_more (keys_of key rows) i [] mapped
    ∙ ap (λ (k : List (List ℕ)). take i (keys_of key rows) ++ k ∷ []) (key_at key rows i [] inside)

-- keys that differ when padded differ
pub plain_differ : (key : ℕ) (rows : List (List (List ℕ))) → AllPairs (λ one other. one ≢ other) (keys_of key rows) → AllPairs (λ one other. one ≢ other) (plain_keys key rows)
plain_differ key rows differ i j d below inside same =
    let later : j < length (keys_of key rows) = omega (arith, length-map (plain_keys key rows) padded_key) in
    let first : i < length (plain_keys key rows) = omega arith in
    let at_i = get_or-map padded_key (plain_keys key rows) i d (padded_key d) first in
    let at_j = get_or-map padded_key (plain_keys key rows) j d (padded_key d) inside in
    differ i j (padded_key d) below later (at_i ∙ ap padded_key same ∙ sym at_j)

pub plain_len : (key : ℕ) (rows : List (List (List ℕ))) (i : ℕ) → All (λ row. key ≤ length row) rows → i < length rows → length (get_or (plain_keys key rows) i []) ≡ key
plain_len key rows i within inside =
    ap length (get_or-map (take key) rows i [] [] inside) ∙ length-take key (get_or rows i []) ∙ omega (arith, within i [] inside)

-- and the other way round
pub padded_differ : (key : ℕ) (rows : List (List (List ℕ))) → key ≤ 3 → All (λ row. key ≤ length row) rows → AllPairs (λ one other. one ≢ other) (plain_keys key rows)
    → AllPairs (λ one other. one ≢ other) (keys_of key rows)
padded_differ key rows most within differ i j d below inside same =
    let later : j < length rows = omega (arith, length-keys_of key rows) in
    let first : i < length rows = omega arith in
    let plain_i : i < length (plain_keys key rows) = omega (arith, length-map rows (take key)) in
    let plain_j : j < length (plain_keys key rows) = omega (arith, length-map rows (take key)) in
    let at_i = get_or-map padded_key (plain_keys key rows) i [] d plain_i in
    let at_j = get_or-map padded_key (plain_keys key rows) j [] d plain_j in
    let one = unpadded key (get_or (plain_keys key rows) i []) (plain_len key rows i within first) most in
    let other = unpadded key (get_or (plain_keys key rows) j []) (plain_len key rows j within later) most in
    differ i j [] below plain_j (sym one ∙ ap (take key) (sym at_i ∙ same ∙ at_j) ∙ other)

below_itself : (key : List (List ℕ)) → key_cmp key key ≡ Less → ⊥
below_itself key less = cc (less, same_texts key key, (same_key-Decides key key).1 refl)

-- keys that ascend differ
pub ascend_differ : (keys : List (List (List ℕ))) → Ascend keys → AllPairs (λ one other. one ≢ other) keys
ascend_differ keys ascend i j d below inside same =
    let less = ascend i j d below inside in
    below_itself (get_or keys i d) (ap (key_cmp (get_or keys i d)) same ∙ less)

above : (keys : List (List (List ℕ))) (last key : List (List ℕ)) (i : ℕ) → length keys ≡ i + 1 → get_or keys i [] ≡ last → key_cmp last key ≡ Less → Ascend keys
    → (k : ℕ) (d : List (List ℕ)) → k < length keys → key_cmp (get_or keys k d) key ≡ Less
above keys last key i len is less ascend k d inside = elim (eqb_tells k i) [
  | inl here ↦
      let at : get_or keys k d ≡ last = get_or_default keys k d [] inside ∙ ap (λ (n : ℕ). get_or keys n []) here.1 ∙ is in
      ap (λ (x : List (List ℕ)). key_cmp x key) at ∙ less
  | inr before ↦
      let earlier : k < i = omega (arith, len, inside, before.1) in
      let at_i : get_or keys i d ≡ last = get_or_default keys i d [] (omega (arith, len)) ∙ is in
      key_order.trans (get_or keys k d) last key (ap (key_cmp (get_or keys k d)) (sym at_i) ∙ ascend k i d earlier (omega (arith, len))) less
]

-- one more key, above the last one
pub ascend_more : (keys : List (List (List ℕ))) (last key : List (List ℕ)) (i : ℕ) → length keys ≡ i + 1 → get_or keys i [] ≡ last → key_cmp last key ≡ Less
    → Ascend keys → Ascend (keys ++ key ∷ [])
ascend_more keys last key i len is less ascend =
    all_pairs_push (λ one other. key_cmp one other ≡ Less) keys key ascend (above keys last key i len is less ascend)

pub is_less : (o : Ordering) → is_lt o ≡ true → o ≡ Less
is_less Less e = refl
is_less Equal e = cc e
is_less Greater e = cc e

-- of two keys that differ, the one that is not above is below
below_if : (order back : Ordering) → back ≡ ordering_reverse order → is_lt back ≡ false → (order ≡ Equal → ⊥) → order ≡ Less
below_if Less back turned up apart = refl
below_if Equal back turned up apart = absurd (apart refl)
below_if Greater back turned up apart = cc (ap is_lt turned, up)

pub same_if : (one other : List (List ℕ)) → key_cmp one other ≡ Equal → one ≡ other
same_if one other equal = (same_key-Decides one other).0 (sym (same_texts one other) ∙ ap is_eq equal)

-- keys in order that differ ascend
pub rises : (keys : List (List (Bor (List ℕ)))) → IsSorted (slice_cmp field_cmp) keys → AllPairs (λ one other. one ≢ other) (map borrowed_texts keys) → Ascend (map borrowed_texts keys)
rises keys sorted apart i j d below inside =
    let later : j < length keys = omega (arith, length-map keys borrowed_texts) in
    let first : i < length keys = omega (arith, below) in
    let up : IsSortedBy (λ x y. is_lt (key_cmp (borrowed_texts x) (borrowed_texts y))) keys =
    λ k e low high. ap is_lt (sym (by_texts (get_or keys (k + 1) e) (get_or keys k e))) ∙ sorted k e low high in
    let one = borrowed_texts (get_or keys i []) in
    let other = borrowed_texts (get_or keys j []) in
    let at_one : get_or (map borrowed_texts keys) i d ≡ one = get_or-map borrowed_texts keys i [] d first in
    let at_other : get_or (map borrowed_texts keys) j d ≡ other = get_or-map borrowed_texts keys j [] d later in
    let not_above = sorted_far (λ x y. is_lt (key_cmp (borrowed_texts x) (borrowed_texts y))) (ranks_by key_order borrowed_texts) keys up i j [] (omega (arith, below)) later in
    let less = below_if (key_cmp one other) (key_cmp other one) (key_order.antisymm other one) not_above (λ equal. apart i j d below inside (at_one ∙ same_if one other equal ∙ sym at_other)) in
    ap (λ (k : List (List ℕ)). key_cmp k (get_or (map borrowed_texts keys) j d)) at_one ∙ ap (key_cmp one) at_other ∙ less

-- keys that differ do so in each order
pub permuted_differ : (keys moved : List (List (Bor (List ℕ)))) → IsPermutation keys moved → AllPairs (λ one other. one ≢ other) (map borrowed_texts keys) → AllPairs (λ one other. one ≢ other) (map borrowed_texts moved)
permuted_differ keys moved there apart =
    let texts = map borrowed_texts keys in
    let distinct : IsDistinct same_key texts =
    IsDistinct-from_apart same_key texts (λ i j d below inside. false_from_ne_true _ (λ same. apart i j d below inside ((same_key-Decides (get_or texts i d) (get_or texts j d)).0 same))) in
    AllPairs-from_IsDistinct same_key-Decides (map borrowed_texts moved)
    (IsDistinct-IsPermutation same_key same_key-laws.symm texts (map borrowed_texts moved) (IsPermutation-map borrowed_texts keys moved there) distinct)

-- two borrowed keys compare as the texts at their places
pub places_compare : (keys : List (List (Bor (List ℕ)))) (i j : ℕ) (d e : List (Bor (List ℕ))) (order : Ordering) → i < length keys → j < length keys
    → order ≡ slice_cmp field_cmp (get_or keys i d) (get_or keys j e) → order ≡ key_cmp (get_or (map borrowed_texts keys) i []) (get_or (map borrowed_texts keys) j [])
places_compare keys i j d e order first later compared =
    let at_i : get_or (map borrowed_texts keys) i [] ≡ borrowed_texts (get_or keys i d) = get_or-map borrowed_texts keys i d [] first in
    let at_j : get_or (map borrowed_texts keys) j [] ≡ borrowed_texts (get_or keys j e) = get_or-map borrowed_texts keys j e [] later in
    compared ∙ by_texts (get_or keys i d) (get_or keys j e)
    ∙ ap (λ (k : List (List ℕ)). key_cmp k (borrowed_texts (get_or keys j e))) (sym at_i)
    ∙ ap (key_cmp (get_or (map borrowed_texts keys) i [])) (sym at_j)
