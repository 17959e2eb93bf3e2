-- The first row with the key of an earlier one, from keys that are sorted with the places of their rows.
use Rattle.std.proofs.Common.{All, AllPairs, Bool, Bor, List, Option, None, Some, Ordering, ℕ, ◌≡◌, ◌≢◌, ◌≤◌, ◌<◌, ◌+◌, ◌-◌, ◌++◌, ◌∷◌, ◌∙◌, [], ap, arith, cond, false, get_or, inl, inr, length, map, refl, subst, sym, take, true}
use Rattle.std.specs.Prelude.{◌&&◌, IfSome, IsSomeAnd, MatchOption, nat_eq, nat_lt}
use Rattle.std.specs.Cmp.{IsTotalOrder}
use Rattle.std.specs.Cmp.Lexicographic.{pointwise, slice_cmp}
use Rattle.std.specs.List.{AllAdjacentBelow}
use Rattle.std.specs.List.Sorted.{IsPermutation, IsSorted, IsSortedBy}
use Rattle.std.specs.Ordering.{is_eq, is_lt, nat_cmp, ordering_reverse, ordering_then}
use Rattle.std.specs.Str.{bytes_eq}
use Rattle.std.specs.declared.cmp.Ordering.TheVariants.{Less, Equal, Greater}
use Rattle.std.proofs.lemmas.Bool.{cases_Bool, false_from_ne_true, ltb-false}
use Rattle.std.proofs.lemmas.Bool.Decides.{Decides-eqb, Decides-ltb, eqb_tells}
use Rattle.std.proofs.lemmas.Cmp.{nat_cmp_total, nat_eq_equiv, on_total, then_total}
use Rattle.std.proofs.lemmas.List.{get_or_append_left, get_or_default, get_or-map, get_or-take, length-append, length-map, length-take, take_all}
use Rattle.std.proofs.lemmas.List.Sorted.{All-permutation, Contains-permutation, IsPermutation-map, all_adjacent_more, ranks_by, sorted_far}
use Rattle.std.proofs.lemmas.Map.Keys.{IsDistinct-IsPermutation, IsDistinct-from_apart}
use Rattle.std.proofs.lemmas.Map.Made.{AllPairs-from_IsDistinct}
use Rattle.std.proofs.lemmas.Option.{slice_get-get_or}
use Rattle.std.proofs.Math.Seq.{get_or-append_seam}
use Rattle.dnrd_csv.specs.inside.RowKeys.{AreAtTheirPlaces, AreNeighbours, borrowed_texts, key_cmp, key_texts, keys_of, padded_key}
use Rattle.dnrd_csv.specs.Table.{HaveDistinctKeys, IsFirstRepeat}
use Rattle.dnrd_csv.proofs.KeyLemmas.{by_texts, field_cmp, key_at, key_order, length-keys_of, plain_differ, plain_keys, plain_len, same_if, same_key, same_key-Decides, same_texts, unpadded}

-- a key with the place of its row
abbrev pub Placed : Type 0
Placed = List (Bor (List ℕ)) × ℕ

abbrev pub unplaced : Placed
unplaced = ([], 0)

-- the order in which they are sorted
abbrev pub place_cmp : Placed → Placed → Ordering
place_cmp one other = ordering_then (slice_cmp field_cmp one.0 other.0) (nat_cmp one.1 other.1)

-- keys of rows stand at the places of the rows
pub record ArePlaced (key : ℕ) (rows : List (List (List ℕ))) (items : List Placed) : Type 0 where
  pub keys : map key_texts items ≡ keys_of key rows
  pub places : AreAtTheirPlaces items

-- of two neighbours with one key, the later one is not before the first that was found
abbrev pub IsLeast : Option (ℕ × ℕ) → Placed → Placed → Type 0
IsLeast first one other = key_texts one ≡ key_texts other → IsSomeAnd first (λ place. place.0 ≤ other.1)

-- ---- the order

abbrev as_text : Placed → List (List ℕ) × ℕ
as_text placed = (key_texts placed, placed.1)

abbrev text_cmp : List (List ℕ) × ℕ → List (List ℕ) × ℕ → Ordering
text_cmp one other = ordering_then (key_cmp one.0 other.0) (nat_cmp one.1 other.1)

text_order : IsTotalOrder text_cmp
text_order = then_total (on_total (λ (p : List (List ℕ) × ℕ). p.0) key_order) (on_total (λ (p : List (List ℕ) × ℕ). p.1) nat_cmp_total)

not_below : (moved : List Placed) → IsSorted place_cmp moved → (i j : ℕ) → i ≤ j → j < length moved → is_lt (text_cmp (as_text (get_or moved j unplaced)) (as_text (get_or moved i unplaced))) ≡ false
not_below moved sorted i j up inside =
    let by_text : IsSortedBy (λ x y. is_lt (text_cmp (as_text x) (as_text y))) moved =
    λ k d low high. ap (λ (o : Ordering). is_lt (ordering_then o (nat_cmp (get_or moved (k + 1) d).1 (get_or moved k d).1))) (sym (by_texts (get_or moved (k + 1) d).0 (get_or moved k d).0)) ∙ sorted k d low high in
    sorted_far (λ x y. is_lt (text_cmp (as_text x) (as_text y))) (ranks_by text_order as_text) moved by_text i j unplaced up inside

equal_if : (order back x y : Ordering) → back ≡ ordering_reverse order → is_lt (ordering_then order x) ≡ false → is_lt (ordering_then back y) ≡ false → order ≡ Equal
equal_if Less back x y turned low high = cc low
equal_if Equal back x y turned low high = refl
equal_if Greater back x y turned low high = cc (turned, high)

-- a key between two that are the same is the same
between : (one other : List (List ℕ)) (a b c : ℕ) → is_lt (text_cmp (other, b) (one, a)) ≡ false → is_lt (text_cmp (one, c) (other, b)) ≡ false → other ≡ one
between one other a b c low high =
    same_if other one (equal_if (key_cmp other one) (key_cmp one other) (nat_cmp b a) (nat_cmp c b) (key_order.antisymm one other) low high)

is_equal : (o : Ordering) → is_eq o ≡ true → o ≡ Equal
is_equal Less e = cc e
is_equal Equal e = refl
is_equal Greater e = cc e

key_same : (key : List (List ℕ)) → key_cmp key key ≡ Equal
key_same key = is_equal (key_cmp key key) (same_texts key key ∙ (same_key-Decides key key).1 refl)

below_is : (a b : ℕ) → a < b → nat_cmp a b ≡ Less
below_is a b below = ap (λ t. cond t Less (cond (nat_eq a b) Equal Greater)) ((Decides-ltb a b).1 below)

not_above : (a b : ℕ) → is_lt (nat_cmp a b) ≡ false → b ≤ a
not_above a b low = elim (cases_Bool (nat_lt a b)) [
  | inl below ↦ cc (ap is_lt (below_is a b ((Decides-ltb a b).0 below)), low)
  | inr other ↦ ltb-false a b other
]

-- ---- the places

text_at : (key : ℕ) (rows : List (List (List ℕ))) (items : List Placed) → ArePlaced key rows items → (i : ℕ) → i < length rows
    → key_texts (get_or items i unplaced) ≡ padded_key (take key (get_or rows i []))
text_at key rows items placed i inside =
    let many : i < length items = omega (arith, inside, length-map items key_texts, ap length placed.keys, length-keys_of key rows) in
    sym (get_or-map key_texts items i unplaced [] many) ∙ ap (λ (t : List (List (List ℕ))). get_or t i []) placed.keys ∙ key_at key rows i [] inside

placed_len : (key : ℕ) (rows : List (List (List ℕ))) (items : List Placed) → ArePlaced key rows items → length items ≡ length rows
placed_len key rows items placed = omega (arith, length-map items key_texts, ap length placed.keys, length-keys_of key rows)

found_at : (items moved : List Placed) → IsPermutation items moved → (j : ℕ) → j < length items → (p : ℕ) × (p < length moved) × (get_or moved p unplaced ≡ get_or items j unplaced)
found_at items moved there j inside =
    let x = get_or items j unplaced in
    let (p, within, is) = Contains-permutation items moved x there (j, inside, get_or_default items j x unplaced inside) in
    (p, within, get_or_default moved p unplaced x within ∙ is)

rises : (one other x y : Placed) (i j : ℕ) → one ≡ x → other ≡ y → key_texts x ≡ key_texts y → x.1 ≡ i → y.1 ≡ j → i < j → text_cmp (as_text one) (as_text other) ≡ Less
rises one other x y i j is_x is_y same at_i at_j below =
    ap (λ (p : Placed). text_cmp (as_text p) (as_text other)) is_x
    ∙ ap (λ (p : Placed). text_cmp (as_text x) (as_text p)) is_y
    ∙ ap (λ (k : List (List ℕ)). ordering_then (key_cmp k (key_texts y)) (nat_cmp x.1 y.1)) same
    ∙ ap (λ (o : Ordering). ordering_then o (nat_cmp x.1 y.1)) (key_same (key_texts y))
    ∙ below_is x.1 y.1 (omega (arith, at_i, at_j, below))

-- of two rows with one key, the later one is not before the first that was found
least : (items moved : List Placed) (first : Option (ℕ × ℕ)) → IsPermutation items moved → IsSorted place_cmp moved → AreAtTheirPlaces items → AllAdjacentBelow (IsLeast first) moved (length moved)
    → (i j : ℕ) → i < j → j < length items → key_texts (get_or items i unplaced) ≡ key_texts (get_or items j unplaced) → IsSomeAnd first (λ place. place.0 ≤ j)
least items moved first there sorted places lowest i j below inside same =
    let (q, q_in, q_is) = found_at items moved there i (omega (arith, below, inside)) in
    let (p, p_in, p_is) = found_at items moved there j inside in
    let at_i = places i unplaced (omega (arith, below, inside)) in
    let at_j = places j unplaced inside in
    let one = get_or moved q unplaced in
    let other = get_or moved p unplaced in
    let less = rises one other (get_or items i unplaced) (get_or items j unplaced) i j q_is p_is same at_i at_j below in
    elim (cases_Bool (nat_lt q p)) [
      | inl after ↦
          let later : q < p = (Decides-ltb q p).0 after in
          let next : (p - 1) + 1 ≡ p = omega (arith, later) in
          let middle = get_or moved (p - 1) unplaced in
          let low = not_below moved sorted q (p - 1) (omega (arith, later)) (omega (arith, p_in)) in
          let high = not_below moved sorted (p - 1) p (omega arith) p_in in
          let one_key : key_texts other ≡ key_texts one = ap key_texts p_is ∙ sym same ∙ sym (ap key_texts q_is) in
          let here = between (key_texts one) (key_texts middle) one.1 middle.1 other.1 low
          (ap (λ (k : List (List ℕ)). is_lt (text_cmp (k, other.1) (as_text middle))) (sym one_key) ∙ high) in
          let at_next : get_or moved ((p - 1) + 1) unplaced ≡ other = ap (λ (n : ℕ). get_or moved n unplaced) next in
          let found = lowest (p - 1) unplaced (omega (arith, next, p_in)) (here ∙ sym one_key ∙ sym (ap key_texts at_next)) in
          subst (λ (n : ℕ). IsSomeAnd first (λ place. place.0 ≤ n)) (ap (λ (x : Placed). x.1) (at_next ∙ p_is) ∙ at_j) found
      | inr before ↦
          let up = not_below moved sorted p q (ltb-false q p before) q_in in
          absurd (cc (up, ap is_lt less))
    ]

-- the rows up to a place have distinct keys, if no two that are the same stand there
differ_until : (key : ℕ) (rows : List (List (List ℕ))) (items : List Placed) (limit : ℕ) → ArePlaced key rows items
    → ((i j : ℕ) → i < j → j < limit → j < length rows → key_texts (get_or items i unplaced) ≡ key_texts (get_or items j unplaced) → ⊥)
    → HaveDistinctKeys key (take limit rows)
differ_until key rows items limit placed never = plain_differ key (take limit rows) (λ i j d below inside same.
    let later : j < length (take limit rows) = omega (arith, inside, length-keys_of key (take limit rows)) in
    let within : j < limit = omega (arith, later, length-take limit rows) in
    let j_in : j < length rows = omega (arith, later, length-take limit rows) in
    let i_in : i < length rows = omega (arith, j_in, below) in
    let at_i = key_at key (take limit rows) i d (omega (arith, later, below)) ∙ ap (λ (r : List (List ℕ)). padded_key (take key r)) (get_or-take limit rows i [] (omega (arith, within, below))) in
    let at_j = key_at key (take limit rows) j d later ∙ ap (λ (r : List (List ℕ)). padded_key (take key r)) (get_or-take limit rows j [] within) in
    never i j below within j_in (text_at key rows items placed i i_in ∙ sym at_i ∙ same ∙ at_j ∙ sym (text_at key rows items placed j j_in)))

-- no neighbours have one key: the keys are distinct
none_repeats : (key : ℕ) (rows : List (List (List ℕ))) (items moved : List Placed) → ArePlaced key rows items → IsPermutation items moved → IsSorted place_cmp moved
    → AllAdjacentBelow (IsLeast None) moved (length moved) → HaveDistinctKeys key rows
none_repeats key rows items moved placed there sorted lowest =
    let all = differ_until key rows items (length rows) placed
    (λ i j below within inside same. least items moved None there sorted placed.places lowest i j below (omega (arith, inside, placed_len key rows items placed)) same) in
    subst (HaveDistinctKeys key) (take_all (length rows) rows (omega arith)) all

-- each stands for the row at its place
stand_for : (items moved : List Placed) → IsPermutation items moved → AreAtTheirPlaces items → All (λ p. (p.1 < length items) × (get_or items p.1 unplaced ≡ p)) moved
stand_for items moved there places =
    All-permutation (λ p. (p.1 < length items) × (get_or items p.1 unplaced ≡ p)) items moved there
    (λ i d inside. subst (λ (n : ℕ). (n < length items) × (get_or items n unplaced ≡ get_or items i d)) (sym (places i d inside)) (inside, get_or_default items i unplaced d inside))

-- no two stand for one row
apart : (items moved : List Placed) → IsPermutation items moved → AreAtTheirPlaces items → AllPairs (λ one other. one ≢ other) (map (λ (p : Placed). p.1) moved)
apart items moved there places =
    let numbers = map (λ (p : Placed). p.1) items in
    AllPairs-from_IsDistinct Decides-eqb (map (λ (p : Placed). p.1) moved)
    (IsDistinct-IsPermutation nat_eq nat_eq_equiv.symm numbers (map (λ (p : Placed). p.1) moved) (IsPermutation-map (λ (p : Placed). p.1) items moved there)
    (IsDistinct-from_apart nat_eq numbers (λ i j d below inside.
    let j_in : j < length items = omega (arith, inside, length-map items (λ (p : Placed). p.1)) in
    let i_in : i < length items = omega (arith, j_in, below) in
    let at_i = get_or-map (λ (p : Placed). p.1) items i unplaced d i_in ∙ places i unplaced i_in in
    let at_j = get_or-map (λ (p : Placed). p.1) items j unplaced d j_in ∙ places j unplaced j_in in
    false_from_ne_true _ (λ same. let e : get_or numbers i d ≡ get_or numbers j d = (Decides-eqb _ _).0 same in absurd (omega (arith, at_i, e, at_j, below))))))

-- of neighbours with one key the earlier row comes first
earlier_first : (items moved : List Placed) → IsPermutation items moved → IsSorted place_cmp moved → AreAtTheirPlaces items → (k : ℕ) → k + 1 < length moved
    → key_texts (get_or moved k unplaced) ≡ key_texts (get_or moved (k + 1) unplaced) → (get_or moved k unplaced).1 < (get_or moved (k + 1) unplaced).1
earlier_first items moved there sorted places k inside same =
    let one = get_or moved k unplaced in
    let other = get_or moved (k + 1) unplaced in
    let up = not_below moved sorted k (k + 1) (omega arith) inside in
    let equal : key_cmp (key_texts other) (key_texts one) ≡ Equal = ap (key_cmp (key_texts other)) same ∙ key_same (key_texts other) in
    let not_after = not_above other.1 one.1 (ap (λ (o : Ordering). is_lt (ordering_then o (nat_cmp other.1 one.1))) (sym equal) ∙ up) in
    let mapped : k + 1 < length (map (λ (p : Placed). p.1) moved) = omega (arith, inside, length-map moved (λ (p : Placed). p.1)) in
    let differ : one.1 ≢ other.1 = λ e. apart items moved there places k (k + 1) 0 (omega arith) mapped
    (get_or-map (λ (p : Placed). p.1) moved k unplaced 0 (omega (arith, inside)) ∙ e ∙ sym (get_or-map (λ (p : Placed). p.1) moved (k + 1) unplaced 0 inside)) in
    omega (arith, not_after, differ)

plain_same : (key : ℕ) (rows : List (List (List ℕ))) (items : List Placed) → ArePlaced key rows items → key ≤ 3 → All (λ row. key ≤ length row) rows
    → (i j : ℕ) → i < length rows → j < length rows → key_texts (get_or items i unplaced) ≡ key_texts (get_or items j unplaced) → get_or (plain_keys key rows) i [] ≡ get_or (plain_keys key rows) j []
plain_same key rows items placed most within i j i_in j_in same =
    let at_i = get_or-map (take key) rows i [] [] i_in in
    let at_j = get_or-map (take key) rows j [] [] j_in in
    let padded : padded_key (get_or (plain_keys key rows) i []) ≡ padded_key (get_or (plain_keys key rows) j []) =
    ap padded_key at_i ∙ sym (text_at key rows items placed i i_in) ∙ same ∙ text_at key rows items placed j j_in ∙ sym (ap padded_key at_j) in
    sym (unpadded key (get_or (plain_keys key rows) i []) (plain_len key rows i within i_in) most) ∙ ap (take key) padded
    ∙ unpadded key (get_or (plain_keys key rows) j []) (plain_len key rows j within j_in) most

-- the first that was found is the first with the key of an earlier row
first_repeats : (key : ℕ) (rows : List (List (List ℕ))) (items moved : List Placed) (first : ℕ × ℕ) → key ≤ 3 → All (λ row. key ≤ length row) rows
    → ArePlaced key rows items → IsPermutation items moved → IsSorted place_cmp moved
    → AllAdjacentBelow (IsLeast (Some first)) moved (length moved) → AreNeighbours moved first.0 first.1 → IsFirstRepeat key rows first.0 first.1
first_repeats key rows items moved first most within placed there sorted lowest (k, inside, beside) =
    let (same, at_one, at_other) = beside unplaced in
    let one = stand_for items moved there placed.places k unplaced (omega (arith, inside)) in
    let other = stand_for items moved there placed.places (k + 1) unplaced inside in
    let len = placed_len key rows items placed in
    let earlier_in : first.1 < length rows = omega (arith, one.0, at_one, len) in
    let row_in : first.0 < length rows = omega (arith, other.0, at_other, len) in
    let ahead = earlier_first items moved there sorted placed.places k inside same in
    let is_one = ap (λ (n : ℕ). get_or items n unplaced) (sym at_one) ∙ one.1 in
    let is_other = ap (λ (n : ℕ). get_or items n unplaced) (sym at_other) ∙ other.1 in
    let keys = plain_same key rows items placed most within first.1 first.0 earlier_in row_in (ap key_texts is_one ∙ same ∙ sym (ap key_texts is_other)) in
    record {
      repeated = get_or (plain_keys key rows) first.0 [];
      is_earlier = omega (arith, ahead, at_one, at_other);
      there = slice_get-get_or (plain_keys key rows) first.0 [] (omega (arith, row_in, length-map rows (take key)));
      earlier_there = slice_get-get_or (plain_keys key rows) first.1 [] (omega (arith, earlier_in, length-map rows (take key))) ∙ ap Some keys;
      rows_before = differ_until key rows items first.0 placed (λ i j below before j_in repeats.
          let low = least items moved (Some first) there sorted placed.places lowest i j below (omega (arith, j_in, len)) repeats in
          absurd (omega (arith, low, before)));
    }

-- what the neighbours say of the rows
pub repeats : (key : ℕ) (rows : List (List (List ℕ))) (items moved : List Placed) (first : Option (ℕ × ℕ)) → key ≤ 3 → All (λ row. key ≤ length row) rows
    → ArePlaced key rows items → IsPermutation items moved → IsSorted place_cmp moved
    → AllAdjacentBelow (IsLeast first) moved (length moved) → MatchOption first (Unit {0}) (λ place. AreNeighbours moved place.0 place.1)
    → MatchOption first (HaveDistinctKeys key rows) (λ place. IsFirstRepeat key rows place.0 place.1)
repeats key rows items moved None most within placed there sorted lowest found = none_repeats key rows items moved placed there sorted lowest
repeats key rows items moved (Some first) most within placed there sorted lowest found = first_repeats key rows items moved first most within placed there sorted lowest found

-- one more at its place
pub places_push : (items : List Placed) (x : Placed) → AreAtTheirPlaces items → x.1 ≡ length items → AreAtTheirPlaces (items ++ x ∷ [])
places_push items x places here i d inside = elim (eqb_tells i (length items)) [
  | inl last ↦ ap (λ (p : Placed). p.1) (ap (λ (n : ℕ). get_or (items ++ x ∷ []) n d) last.1 ∙ get_or-append_seam items x [] d) ∙ here ∙ sym last.1
  | inr before ↦
      let earlier : i < length items = omega (arith, inside, before.1, length-append items (x ∷ [])) in
      ap (λ (p : Placed). p.1) (get_or_append_left items (x ∷ []) d i earlier) ∙ places i d earlier
]

-- ---- the search of the neighbours

by_fields : (xs ys : List (Bor (List ℕ))) → pointwise (λ x y. bytes_eq x.now y.now) xs ys ≡ same_key (borrowed_texts xs) (borrowed_texts ys)
by_fields [] [] = refl
by_fields [] (y ∷ ys) = refl
by_fields (x ∷ xs) [] = refl
by_fields (x ∷ xs) (y ∷ ys) = ap (λ (b : Bool). bytes_eq x.now y.now && b) (by_fields xs ys)

pub texts_same : (xs ys : List (Bor (List ℕ))) → pointwise (λ x y. bytes_eq x.now y.now) xs ys ≡ true → borrowed_texts xs ≡ borrowed_texts ys
texts_same xs ys e = (same_key-Decides (borrowed_texts xs) (borrowed_texts ys)).0 (sym (by_fields xs ys) ∙ e)

pub texts_differ : (xs ys : List (Bor (List ℕ))) → pointwise (λ x y. bytes_eq x.now y.now) xs ys ≡ false → borrowed_texts xs ≢ borrowed_texts ys
texts_differ xs ys e same = cc (e, by_fields xs ys, (same_key-Decides (borrowed_texts xs) (borrowed_texts ys)).1 same)

-- two neighbours with one key
pub neighbours : (placed : List Placed) (i : ℕ) → 1 ≤ i → i < length placed → key_texts (get_or placed (i - 1) unplaced) ≡ key_texts (get_or placed i unplaced)
    → AreNeighbours placed (get_or placed i unplaced).1 (get_or placed (i - 1) unplaced).1
neighbours placed i start inside same = (
  i - 1,
  omega (arith, start, inside),
  λ d.
      let back : (i - 1) + 1 ≡ i = omega (arith, start) in
      let at_last = get_or_default placed (i - 1) d unplaced (omega (arith, inside)) in
      let at_next : get_or placed ((i - 1) + 1) d ≡ get_or placed i unplaced = ap (λ (n : ℕ). get_or placed n d) back ∙ get_or_default placed i d unplaced inside in
      (ap key_texts at_last ∙ same ∙ sym (ap key_texts at_next), ap (λ (p : Placed). p.1) at_last, ap (λ (p : Placed). p.1) at_next),
)

sooner : (before : Option (ℕ × ℕ)) (row n : ℕ) → IfSome before (λ place. row < place.0) → IsSomeAnd before (λ place. place.0 ≤ n) → row ≤ n
sooner None row n low found = absurd found
sooner (Some place) row n low found = omega (arith, low, found)

not_later : (before : Option (ℕ × ℕ)) (row : ℕ) → ¬ IfSome before (λ place. row < place.0) → IsSomeAnd before (λ place. place.0 ≤ row)
not_later None row high = absurd (high tt)
not_later (Some place) row high = omega (arith, high)

-- an earlier one is found
pub least_new : (placed : List Placed) (i : ℕ) (before : Option (ℕ × ℕ)) (first : ℕ × ℕ) → 1 ≤ i → i < length placed → (get_or placed i unplaced).1 ≡ first.0
    → IfSome before (λ place. first.0 < place.0) → AllAdjacentBelow (IsLeast before) placed i → AllAdjacentBelow (IsLeast (Some first)) placed (i + 1)
least_new placed i before first start inside here low lowest =
    all_adjacent_more placed (IsLeast (Some first)) i (omega (arith, start))
    (λ k d below same. sooner before first.0 (get_or placed (k + 1) d).1 low (lowest k d below same))
    (λ d same. omega (arith, here, ap (λ (p : Placed). p.1) (get_or_default placed i d unplaced inside)))

-- a later one is found
pub least_later : (placed : List Placed) (i : ℕ) (first : Option (ℕ × ℕ)) → 1 ≤ i → i < length placed → ¬ IfSome first (λ place. (get_or placed i unplaced).1 < place.0)
    → AllAdjacentBelow (IsLeast first) placed i → AllAdjacentBelow (IsLeast first) placed (i + 1)
least_later placed i first start inside high lowest =
    all_adjacent_more placed (IsLeast first) i (omega (arith, start)) lowest
    (λ d same. subst (λ (n : ℕ). IsSomeAnd first (λ place. place.0 ≤ n)) (ap (λ (p : Placed). p.1) (get_or_default placed i unplaced d inside)) (not_later first (get_or placed i unplaced).1 high))

-- the neighbours differ
pub least_other : (placed : List Placed) (i : ℕ) (first : Option (ℕ × ℕ)) → 1 ≤ i → i < length placed → key_texts (get_or placed (i - 1) unplaced) ≢ key_texts (get_or placed i unplaced)
    → AllAdjacentBelow (IsLeast first) placed i → AllAdjacentBelow (IsLeast first) placed (i + 1)
least_other placed i first start inside differ lowest =
    all_adjacent_more placed (IsLeast first) i (omega (arith, start)) lowest
    (λ d same. absurd (differ (ap key_texts (get_or_default placed (i - 1) unplaced d (omega (arith, inside))) ∙ same ∙ sym (ap key_texts (get_or_default placed i unplaced d inside)))))
