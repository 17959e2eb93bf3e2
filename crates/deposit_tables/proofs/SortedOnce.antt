-- Rows that are copied in the order of sorted places, each once.
use Rattle.std.proofs.Common.{◌≡◌, ◌↔◌, ◌⊎◌, ◌≤◌, ◌<◌, ◌+◌, ◌-◌, ◌++◌, ◌∷◌, ◌∙◌, [], ℕ, Contains, List, Ordering, ap, arith, false, get_or, inl, inr, length, length-append, refl, suc, subst, sym, zero}
use Rattle.std.specs.Ordering.{is_eq, is_lt, nat_cmp, ordering_reverse, ordering_then}
use Rattle.std.specs.declared.cmp.Ordering.TheVariants.{Less, Equal, Greater}
use Rattle.std.specs.Cmp.Lexicographic.{slice_cmp}
use Rattle.std.specs.List.Sorted.{IsSortedBy}
use Rattle.std.proofs.lemmas.List.{append-nil, get_or-append_right, get_or_default}
use Rattle.std.proofs.lemmas.List.Concat.{flat_map-append}
use Rattle.std.proofs.lemmas.List.Elements.{All-append, Contains-append_cases, Contains-append_left, Contains-append_right}
use Rattle.dnrd_csv.specs.Table.{HaveWidth}
use Rattle.dnrd_csv.proofs.RowLemmas.{flat}
use Rattle.dnrd_csv.proofs.KeyLemmas.{ascend_more, key_order, same_key-Decides, same_texts}
use Rattle.deposit_tables.specs.Restored.{RowsAscend, row_cmp}
use Rattle.deposit_tables.specs.inside.Places.{ArePlaces, is_below, six_fields}
use Rattle.deposit_tables.proofs.Decisions.{Rows, contains_here}

-- ---- fields, and empty ones behind them

abbrev pad : ℕ → List (List ℕ) → List (List ℕ)
pad zero row = []
pad (suc m) [] = [] ∷ pad m []
pad (suc m) (field ∷ row) = field ∷ pad m row

six_is_pad : (row : List (List ℕ)) → six_fields row ≡ pad 6 row
six_is_pad [] = refl
six_is_pad (a ∷ []) = refl
six_is_pad (a ∷ b ∷ []) = refl
six_is_pad (a ∷ b ∷ c ∷ []) = refl
six_is_pad (a ∷ b ∷ c ∷ d ∷ []) = refl
six_is_pad (a ∷ b ∷ c ∷ d ∷ e ∷ []) = refl
six_is_pad (a ∷ b ∷ c ∷ d ∷ e ∷ f ∷ rest) = refl

pad_cmp : (m : ℕ) (one other : List (List ℕ)) → length one ≡ length other → length one ≤ m → row_cmp (pad m one) (pad m other) ≡ row_cmp one other
pad_cmp zero [] [] same most = refl
pad_cmp zero [] (y ∷ ys) same most = absurd (omega (arith, same))
pad_cmp zero (x ∷ xs) other same most = absurd (omega (arith, most))
pad_cmp (suc m) [] [] same most = pad_cmp m [] [] refl (omega arith)
pad_cmp (suc m) [] (y ∷ ys) same most = absurd (omega (arith, same))
pad_cmp (suc m) (x ∷ xs) [] same most = absurd (omega (arith, same))
pad_cmp (suc m) (x ∷ xs) (y ∷ ys) same most = ap (ordering_then (slice_cmp nat_cmp x y)) (pad_cmp m xs ys (omega (arith, same)) (omega (arith, most)))

-- rows of one width compare as their padded fields
pub six_cmp : (one other : List (List ℕ)) → length one ≡ length other → length one ≤ 6 → row_cmp (six_fields one) (six_fields other) ≡ row_cmp one other
six_cmp one other same most = (λ i. row_cmp (six_is_pad one i) (six_is_pad other i)) ∙ pad_cmp 6 one other same most

-- ---- one row and the next

pub same_row : (one other : List (List ℕ)) → row_cmp one other ≡ Equal → one ≡ other
same_row one other equal = (same_key-Decides one other).0 (sym (same_texts one other) ∙ ap is_eq equal)

below_by : (order : Ordering) → is_lt (ordering_reverse order) ≡ false → (order ≡ Equal → ⊥) → order ≡ Less
below_by Less falls apart = refl
below_by Equal falls apart = absurd (apart refl)
below_by Greater falls apart = cc falls

pub next_below : (one other : List (List ℕ)) → is_lt (row_cmp other one) ≡ false → (row_cmp one other ≡ Equal → ⊥) → row_cmp one other ≡ Less
next_below one other falls apart = below_by (row_cmp one other) (ap is_lt (sym (key_order.antisymm other one)) ∙ falls) apart

-- ---- the rows so far

abbrev pub row_at : Rows → List ℕ → ℕ → List (List ℕ)
row_at rows places i = get_or rows (get_or places i 0) []

pub record AreKept (rows : Rows) (places : List ℕ) (i : ℕ) (kept : Rows) : Type 0 where
  pub ascend : RowsAscend kept
  pub here : (row : List (List ℕ)) → Contains kept row → (k : ℕ) × (k < i) × (row_at rows places k ≡ row)
  pub there : (k : ℕ) → k < i → Contains kept (row_at rows places k)
  pub none : i ≡ 0 → kept ≡ []
  pub last : 0 < i → (n : ℕ) × (length kept ≡ n + 1) × (get_or kept n [] ≡ row_at rows places (i - 1))

pub none_kept : (rows : Rows) (places : List ℕ) → AreKept rows places 0 []
none_kept rows places = record {
  ascend = λ i j d below inside. absurd (omega (arith, inside));
  here = λ row has. let inside = has.1 in absurd (omega (arith, inside));
  there = λ k below. absurd (omega (arith, below));
  none = λ _. refl;
  last = λ some. absurd (omega (arith, some));
}

only_one : (row other : List (List ℕ)) → Contains (row ∷ []) other → row ≡ other
only_one row other has =
    let inside = has.1 in
    let first : has.0 ≡ 0 = omega (arith, inside) in
    ap (λ (k : ℕ). get_or (row ∷ []) k other) (sym first) ∙ has.2

tell : (m n : ℕ) → m < n + 1 → (m < n) ⊎ (m ≡ n)
tell m n = grind arith

module _ (rows : Rows) (places : List ℕ) (i : ℕ) (kept : Rows) (are : AreKept rows places i kept) where
  -- the next row is the same as the last one
  pub repeat_left_out : 0 < i → row_at rows places (i - 1) ≡ row_at rows places i → AreKept rows places (i + 1) kept
  repeat_left_out some same = record {
    ascend = are.ascend;
    here = λ row has. let found = are.here row has in let below = found.1 in (found.0, omega (arith, below), found.2);
    there = λ k below. by k (tell k i below);
    none = λ zeros. absurd (omega (arith, zeros));
    last = λ _. let was = are.last some in let back : i + 1 - 1 ≡ i = omega arith in (was.0, was.1, was.2 ∙ same ∙ ap (row_at rows places) (sym back));
  }
    where
      by : (k : ℕ) → (k < i) ⊎ (k ≡ i) → Contains kept (row_at rows places k)
      by k (inl before) = are.there k before
      by k (inr now) = subst (Contains kept) (same ∙ ap (row_at rows places) (sym now)) (are.there (i - 1) (omega (arith, some)))

  -- the next row is above the last one
  pub next_kept : (0 < i → row_cmp (row_at rows places (i - 1)) (row_at rows places i) ≡ Less) → AreKept rows places (i + 1) (kept ++ row_at rows places i ∷ [])
  next_kept above = record {
    ascend = rises (first i);
    here = λ row has. found row (Contains-append_cases kept (row_at rows places i ∷ []) row has);
    there = λ k below. by k (tell k i below);
    none = λ zeros. absurd (omega (arith, zeros));
    last = λ _. let back : i + 1 - 1 ≡ i = omega arith in (length kept, length-append kept (row_at rows places i ∷ []), at_end ∙ ap (row_at rows places) (sym back));
  }
    where
      first : (n : ℕ) → (n ≡ 0) ⊎ (0 < n)
      first n = grind arith

      rises : (i ≡ 0) ⊎ (0 < i) → RowsAscend (kept ++ row_at rows places i ∷ [])
      rises (inl zeros) = subst (λ (k : Rows). RowsAscend (k ++ row_at rows places i ∷ [])) (sym (are.none zeros)) (λ a b d below inside. absurd (omega (arith, below, inside)))
      rises (inr some) = let was = are.last some in ascend_more kept (row_at rows places (i - 1)) (row_at rows places i) was.0 was.1 was.2 (above some) are.ascend

      found : (row : List (List ℕ)) → Contains kept row ⊎ Contains (row_at rows places i ∷ []) row → (k : ℕ) × (k < i + 1) × (row_at rows places k ≡ row)
      found row (inl before) = let was = are.here row before in let below = was.1 in (was.0, omega (arith, below), was.2)
      found row (inr now) = (i, omega arith, only_one (row_at rows places i) row now)

      by : (k : ℕ) → (k < i) ⊎ (k ≡ i) → Contains (kept ++ row_at rows places i ∷ []) (row_at rows places k)
      by k (inl before) = Contains-append_left kept (row_at rows places i ∷ []) (row_at rows places k) (are.there k before)
      by k (inr now) = subst (Contains (kept ++ row_at rows places i ∷ [])) (ap (row_at rows places) (sym now)) (Contains-append_right kept (row_at rows places i ∷ []) (row_at rows places i) (contains_here (row_at rows places i) []))

      at_end : get_or (kept ++ row_at rows places i ∷ []) (length kept) [] ≡ row_at rows places i
      at_end =
          let none : length kept - length kept ≡ 0 = omega arith in
          get_or-append_right kept (row_at rows places i ∷ []) (length kept) (length kept) [] refl (omega arith) ∙ ap (λ (k : ℕ). get_or (row_at rows places i ∷ []) k []) none

-- at the end they are all rows
pub all_kept : (rows : Rows) (places : List ℕ) (i : ℕ) (kept : Rows) → ArePlaces (length rows) places → length places ≤ i → AreKept rows places i kept → i ≤ length places → (row : List (List ℕ)) → Contains kept row ↔ Contains rows row
all_kept rows places i kept are over all within row = (
  λ has.
      let found = all.here row has in
      let inside : found.0 < length places = let below = found.1 in omega (arith, below, within) in
      let place = get_or places found.0 0 in
      let there : place < length rows = (are place).0 (found.0, inside, get_or_default places found.0 place 0 inside) in
      (place, there, get_or_default rows place row [] there ∙ found.2),
  λ has.
      let at = (are has.0).1 has.1 in
      let below : at.0 < i = let inside = at.1 in omega (arith, inside, over) in
      let placed : get_or places at.0 0 ≡ has.0 = get_or_default places at.0 0 has.0 at.1 ∙ at.2 in
      let is : row_at rows places at.0 ≡ row = ap (λ (p : ℕ). get_or rows p []) placed ∙ get_or_default rows has.0 [] row has.1 ∙ has.2 in
      subst (Contains kept) is (all.there at.0 below),
)

-- one row more
pub flat_more : (kept : Rows) (row : List (List ℕ)) → flat kept ++ row ≡ flat (kept ++ row ∷ [])
flat_more kept row = ap (λ (t : List (List ℕ)). flat kept ++ t) (sym (append-nil row)) ∙ sym (flat_map-append (λ r. r) kept (row ∷ []))

pub wide_more : (width : ℕ) (kept : Rows) (row : List (List ℕ)) → HaveWidth width kept → length row ≡ width → HaveWidth width (kept ++ row ∷ [])
wide_more width kept row wide is = All-append (λ (r : List (List ℕ)). length r ≡ width) kept (row ∷ []) wide (λ k d inside. let first : k ≡ 0 = omega (arith, inside) in ap (λ (n : ℕ). length (get_or (row ∷ []) n d)) first ∙ is)

pub wide_at : (width : ℕ) (rows : Rows) (places : List ℕ) → HaveWidth width rows → ArePlaces (length rows) places → (k : ℕ) → k < length places → length (row_at rows places k) ≡ width
wide_at width rows places wide are k below =
    let there : get_or places k 0 < length rows = (are (get_or places k 0)).0 (k, below, get_or_default places k (get_or places k 0) 0 below) in
    wide (get_or places k 0) [] there

-- neighbours among sorted places: the same row, or the first is below
module _ (width : ℕ) (rows : Rows) (places : List ℕ) (i : ℕ) (most : width ≤ 6) (wide : HaveWidth width rows) (are : ArePlaces (length rows) places) (some : 0 < i) (inside : i < length places) where
  last_wide : length (row_at rows places (i - 1)) ≡ width
  last_wide = wide_at width rows places wide are (i - 1) (omega (arith, inside))

  same_width : length (row_at rows places (i - 1)) ≡ length (row_at rows places i)
  same_width = last_wide ∙ sym (wide_at width rows places wide are i inside)

  compared : row_cmp (six_fields (row_at rows places (i - 1))) (six_fields (row_at rows places i)) ≡ row_cmp (row_at rows places (i - 1)) (row_at rows places i)
  compared = let w = last_wide in six_cmp (row_at rows places (i - 1)) (row_at rows places i) same_width (omega (arith, w, most))

  pub rows_repeat : row_cmp (six_fields (row_at rows places (i - 1))) (six_fields (row_at rows places i)) ≡ Equal → row_at rows places (i - 1) ≡ row_at rows places i
  rows_repeat equal = same_row (row_at rows places (i - 1)) (row_at rows places i) (sym compared ∙ equal)

  pub rows_differ : IsSortedBy (is_below rows) places → (row_cmp (six_fields (row_at rows places (i - 1))) (six_fields (row_at rows places i)) ≡ Equal → ⊥) → row_cmp (row_at rows places (i - 1)) (row_at rows places i) ≡ Less
  rows_differ sorted apart =
      let next : i - 1 + 1 ≡ i = omega (arith, some) in
      let falls : is_below rows (get_or places i 0) (get_or places (i - 1) 0) ≡ false = ap (λ (k : ℕ). is_below rows (get_or places k 0) (get_or places (i - 1) 0)) (sym next) ∙ sorted (i - 1) 0 (omega arith) (omega (arith, next, inside)) in
      sym compared ∙ next_below (six_fields (row_at rows places (i - 1))) (six_fields (row_at rows places i)) falls apart
