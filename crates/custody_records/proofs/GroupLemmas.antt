-- The rows of a group stand together in a table.
use Rattle.std.proofs.Common.{◌≡◌, ◌⊎◌, inl, inr, ℕ, zero, suc, ◌<◌, ◌≤◌, Bool, true, false, cond, List, [], ◌∷◌, length, get_or, take, drop, refl, ap, ◌∙◌, arith}
use Rattle.std.specs.List.{filter}
use Rattle.std.specs.List.Sorted.{IsNonDecreasingBy, IsPartitionedBy}
use Rattle.std.specs.Ordering.{is_lt, is_le, is_eq, ordering_index}
use Rattle.std.specs.declared.cmp.Ordering.{Ordering}
use Rattle.std.specs.declared.cmp.Ordering.TheVariants.{Less}
use Rattle.std.proofs.lemmas.Bool.{and_parts, cases_lt}
use Rattle.custody_records.specs.Tables.{row_entries, is_below_all, is_rising}
use Rattle.custody_records.proofs.TableLemmas.{below_at}

not_eq_lt : (o : Ordering) → is_lt o ≡ true → is_eq o ≡ false
not_eq_lt o e = grind arith

not_eq_gt : (o : Ordering) → is_le o ≡ false → is_eq o ≡ false
not_eq_gt o e = grind arith

eq_between : (o : Ordering) → is_lt o ≡ false → is_le o ≡ true → is_eq o ≡ true
eq_between o e h = grind arith

lt_below : (a b : Ordering) → ordering_index a ≤ ordering_index b → is_lt b ≡ true → is_lt a ≡ true
lt_below a b le e = grind arith

le_below : (a b : Ordering) → ordering_index a ≤ ordering_index b → is_le b ≡ true → is_le a ≡ true
le_below a b le e = grind arith

-- ---- rows in an order, as a search sees them

module _ {Row : Type 0} (f : Row → Ordering) where
  pub parted_lt : (rows : List Row) → IsNonDecreasingBy (λ row. ordering_index (f row)) rows → IsPartitionedBy (λ row. is_lt (f row)) rows
  parted_lt rows rise i j d le lt e = lt_below (f (get_or rows i d)) (f (get_or rows j d)) (rise i j d le lt) e

  pub parted_le : (rows : List Row) → IsNonDecreasingBy (λ row. ordering_index (f row)) rows → IsPartitionedBy (λ row. is_le (f row)) rows
  parted_le rows rise i j d le lt e = le_below (f (get_or rows i d)) (f (get_or rows j d)) (rise i j d le lt) e

  abbrev among : List Row → List Row
  among = filter (λ row. is_eq (f row))

  -- rows before the first that ties
  pub among_behind : (rows : List Row) (start : ℕ) → ((i : ℕ) (d : Row) → i < start → i < length rows → is_lt (f (get_or rows i d)) ≡ true) → among rows ≡ among (drop start rows)
  among_behind [] zero below = refl
  among_behind [] (suc start) below = refl
  among_behind (row ∷ rows) zero below = refl
  among_behind (row ∷ rows) (suc start) below =
      ap (λ b. cond b (row ∷ among rows) (among rows)) (not_eq_lt (f row) (below 0 row (omega arith) (omega arith)))
      ∙ among_behind rows start (λ i d lt within. below (suc i) d (omega arith) (omega arith))

  -- the first of them tie, and no other
  pub among_first : (rows : List Row) (count : ℕ) → ((i : ℕ) (d : Row) → i < length rows → is_lt (f (get_or rows i d)) ≡ false)
      → ((i : ℕ) (d : Row) → i < count → i < length rows → is_le (f (get_or rows i d)) ≡ true) → ((i : ℕ) (d : Row) → count ≤ i → i < length rows → is_le (f (get_or rows i d)) ≡ false)
      → among rows ≡ take count rows
  among_first [] zero behind within past = refl
  among_first [] (suc count) behind within past = refl
  among_first (row ∷ rows) zero behind within past =
      ap (λ b. cond b (row ∷ among rows) (among rows)) (not_eq_gt (f row) (past 0 row (omega arith) (omega arith)))
      ∙ among_first rows zero (λ i d lt. behind (suc i) d (omega arith)) (λ i d lt in_it. absurd (omega arith)) (λ i d le in_it. past (suc i) d (omega arith) (omega arith))
  among_first (row ∷ rows) (suc count) behind within past =
      ap (λ b. cond b (row ∷ among rows) (among rows)) (eq_between (f row) (behind 0 row (omega arith)) (within 0 row (omega arith) (omega arith)))
      ∙ ap (λ (l : List Row). row ∷ l) (among_first rows count (λ i d lt. behind (suc i) d (omega arith)) (λ i d lt in_it. within (suc i) d (omega arith) (omega arith)) (λ i d le in_it. past (suc i) d (omega arith) (omega arith)))

-- a test of entries, on them and on the rows
pub filter_entries : {Row K X : Type 0} (key : Row → K) (value : Row → X) (test : K × X → Bool) (rows : List Row)
    → filter test (row_entries key value rows) ≡ row_entries key value (filter (λ row. test (key row, value row)) rows)
filter_entries key value test [] = refl
filter_entries {Row} {K} {X} key value test (row ∷ rows) = by (test (key row, value row)) (filter_entries key value test rows)
  where
    by : (b : Bool) → filter test (row_entries key value rows) ≡ row_entries key value (filter (λ r. test (key r, value r)) rows)
        → cond b ((key row, value row) ∷ filter test (row_entries key value rows)) (filter test (row_entries key value rows))
        ≡ row_entries key value (cond b (row ∷ filter (λ r. test (key r, value r)) rows) (filter (λ r. test (key r, value r)) rows))
    by b rest = grind arith

-- two tests in either order
pub filter_swap : {X : Type 0} (p q : X → Bool) (xs : List X) → filter p (filter q xs) ≡ filter q (filter p xs)
filter_swap p q [] = refl
filter_swap {X} p q (x ∷ xs) = by (p x) (q x) refl refl (filter_swap p q xs)
  where
    by : (a b : Bool) → p x ≡ a → q x ≡ b → filter p (filter q xs) ≡ filter q (filter p xs) → filter p (cond b (x ∷ filter q xs) (filter q xs)) ≡ filter q (cond a (x ∷ filter p xs) (filter p xs))
    by a b first second rest = grind arith

-- ---- a table, beside a group

module _ {Row K : Type 0} (order : K → K → Ordering) (key : Row → K) where
  -- of two rows, the one before has the smaller key
  pub rises_far : (rows : List Row) (i j : ℕ) (d : Row) → is_rising order key rows ≡ true → i < j → j < length rows → order (key (get_or rows i d)) (key (get_or rows j d)) ≡ Less
  rises_far [] i j d rising before within = absurd (omega arith)
  rises_far (row ∷ rows) i zero d rising before within = absurd (omega arith)
  rises_far (row ∷ rows) zero (suc j) d rising before within = below_at order key (key row) rows j d (and_parts _ _ rising).0 (omega arith)
  rises_far (row ∷ rows) (suc i) (suc j) d rising before within = rises_far rows i j d (and_parts (is_below_all order key (key row) rows) _ rising).1 (omega arith) (omega arith)

  -- along the rows, the group comes no further behind
  pub places_rise : (place : K → Ordering) → ((a b : K) → order a b ≡ Less → ordering_index (place a) ≤ ordering_index (place b)) → (rows : List Row) → is_rising order key rows ≡ true
      → IsNonDecreasingBy (λ row. ordering_index (place (key row))) rows
  places_rise place ascends rows rising i j d le within = by (cases_lt i j)
    where
      by : (i < j) ⊎ (j ≤ i) → ordering_index (place (key (get_or rows i d))) ≤ ordering_index (place (key (get_or rows j d)))
      by (inl before) = ascends _ _ (rises_far rows i j d rising before within)
      by (inr behind) = let same : i ≡ j = omega arith in rw same (omega arith)
