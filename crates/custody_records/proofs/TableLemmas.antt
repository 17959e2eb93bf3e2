-- A table in the order of its keys is a finite map: what is found in it, and what a row more adds.
use Rattle.std.proofs.Common.{◌≡◌, ◌⊎◌, inl, inr, ℕ, zero, suc, ◌<◌, ◌≤◌, List, [], ◌∷◌, length, get_or, set, Bool, true, false, ◌&&◌, ◌||◌, cond, Option, Some, None, Err, refl, sym, ◌∙◌, ap, subst, arith, add-one}
use Rattle.std.specs.Prelude.{T, option_map, is_some}
use Rattle.std.specs.List as list
use Rattle.std.specs.List.Sorted.{IsBinarySearchResult, IsNonDecreasingBy}
use Rattle.std.specs.Ordering.{is_lt, is_eq, ordering_reverse, ordering_index}
use Rattle.std.specs.declared.cmp.Ordering.{Ordering}
use Rattle.std.specs.declared.cmp.Ordering.TheVariants.{Less, Equal, Greater}
use Rattle.std.specs.Cmp.{IsTotalOrder}
use Rattle.std.specs.FinMap.{FinMap, IsAntisymmetric, get, insert, empty, entries, entries_sorted, entries-insert, entries-from_sorted, get-from_sorted, same_entries_map, empty_of_len, len-entries, from_sorted}
use Rattle.std.specs.FinMap.Entries.{find, put, is_sorted, below_all, by_order, is_sorted-put}
use Rattle.std.proofs.lemmas.Bool.{and_parts, cases_lt}
use Rattle.std.proofs.lemmas.Cmp.{alike_right}
use Rattle.std.proofs.lemmas.List.Sorted.{searchable_from_sorted}
use Rattle.custody_records.specs.Tables.{row_entries, is_below_all, is_rising, table_map}

-- the row of a key
abbrev pub row_at : {T K : Type 0} → (K → K → Ordering) → (T → K) → List T → K → Option T
row_at order key [] sought = None
row_at order key (row ∷ rows) sought = cond (is_eq (order sought (key row))) (Some row) (row_at order key rows sought)

-- a row more in its place: rows of smaller keys before it, and of greater keys after it
pub record IsAdded {T K : Type 0} (order : K → K → Ordering) (key : T → K) (old new : List T) (row : T) : Type 0 where
  pub place : ℕ
  pub is : new ≡ list.insert old place row
  pub below : (i : ℕ) (d : T) → i < place → i < length old → order (key (get_or old i d)) (key row) ≡ Less
  pub above : (i : ℕ) (d : T) → place ≤ i → i < length old → order (key (get_or old i d)) (key row) ≡ Greater

-- whether any entry passes a test is whether any row does
pub any_entries : {Row K X : Type 0} (key : Row → K) (value : Row → X) (test : K × X → Bool) (rows : List Row) → list.list_any test (row_entries key value rows) ≡ list.list_any (λ row. test (key row, value row)) rows
any_entries key value test [] = refl
any_entries key value test (row ∷ rows) = ap (λ b. test (key row, value row) || b) (any_entries key value test rows)

pub less_is : (o : Ordering) → is_lt o ≡ true → o ≡ Less
less_is o e = grind arith

T_true : (b : Bool) → T b → b ≡ true
T_true b h = grind arith

module _ {Row K : Type 0} (order : K → K → Ordering) (key : Row → K) where
  -- ---- the entries

  below_entries : {X : Type 0} (value : Row → X) (low : K) (rows : List Row) → below_all order low (row_entries key value rows) ≡ is_below_all order key low rows
  below_entries value low [] = refl
  below_entries value low (row ∷ rows) = ap (λ b. is_lt (order low (key row)) && b) (below_entries value low rows)

  pub rising_entries : {X : Type 0} (value : Row → X) (rows : List Row) → is_sorted order (row_entries key value rows) ≡ is_rising order key rows
  rising_entries value [] = refl
  rising_entries value (row ∷ rows) = λ i. below_entries value (key row) rows i && rising_entries value rows i

  sorted_entries : {X : Type 0} (value : Row → X) (rows : List Row) → is_rising order key rows ≡ true → T (is_sorted order (row_entries key value rows))
  sorted_entries value rows rising = subst T (sym (rising_entries value rows ∙ rising)) tt

  -- the entries of the map are those of the rows
  pub entries-table_map : {X : Type 0} (value : Row → X) (rows : List Row) → is_rising order key rows ≡ true → entries (table_map order key value rows) ≡ row_entries key value rows
  unfolding table_map
  entries-table_map value rows rising = entries-from_sorted order (row_entries key value rows) (sorted_entries value rows rising)

  find_entries : {X : Type 0} (value : Row → X) (rows : List Row) (sought : K) → find order sought (row_entries key value rows) ≡ option_map value (row_at order key rows sought)
  find_entries value [] sought = refl
  find_entries {X} value (row ∷ rows) sought = by (is_eq (order sought (key row))) (find_entries value rows sought)
    where
      by : (b : Bool) → find order sought (row_entries key value rows) ≡ option_map value (row_at order key rows sought)
          → cond b (Some (value row)) (find order sought (row_entries key value rows)) ≡ option_map value (cond b (Some row) (row_at order key rows sought))
      by b rest = grind arith

  -- what the map has is what the row has
  pub get_table : {X : Type 0} (value : Row → X) (rows : List Row) (sought : K) → is_rising order key rows ≡ true → get (table_map order key value rows) sought ≡ option_map value (row_at order key rows sought)
  unfolding table_map
  get_table value rows sought rising = get-from_sorted order (row_entries key value rows) sought (sorted_entries value rows rising) ∙ find_entries value rows sought

  pub empty_table : {X : Type 0} (value : Row → X) → table_map order key value [] ≡ empty
  unfolding table_map
  empty_table {X} value = empty_of_len (from_sorted {X = X} {R = order} []) (len-entries (from_sorted {X = X} {R = order} []) ∙ ap length (entries-from_sorted order [] tt))

  -- ---- what a search finds

  -- a key below all has below it that of each row
  pub below_at : (low : K) (rows : List Row) (i : ℕ) (d : Row) → is_below_all order key low rows ≡ true → i < length rows → order low (key (get_or rows i d)) ≡ Less
  below_at low [] i d below lt = absurd (omega arith)
  below_at low (row ∷ rows) zero d below lt = less_is _ (and_parts _ _ below).0
  below_at low (row ∷ rows) (suc i) d below lt = below_at low rows i d (and_parts (is_lt (order low (key row))) _ below).1 (omega arith)

  rises : (rows : List Row) (i : ℕ) (d : Row) → is_rising order key rows ≡ true → suc i < length rows → order (key (get_or rows i d)) (key (get_or rows (suc i) d)) ≡ Less
  rises [] i d rising lt = absurd (omega arith)
  rises (row ∷ rows) zero d rising lt = below_at (key row) rows 0 d (and_parts _ _ rising).0 (omega arith)
  rises (row ∷ rows) (suc i) d rising lt = rises rows i d (and_parts (is_below_all order key (key row) rows) _ rising).1 (omega arith)

  module _ (o : IsTotalOrder order) where
    turned : (x y : K) (r : Ordering) → order x y ≡ r → order y x ≡ ordering_reverse r
    turned x y r e = o.antisymm y x ∙ ap ordering_reverse e

    not_above : (rows : List Row) (i : ℕ) (d : Row) → is_rising order key rows ≡ true → suc i < length rows → is_lt (order (key (get_or rows (suc i) d)) (key (get_or rows i d))) ≡ false
    not_above rows i d rising lt = ap is_lt (turned _ _ Less (rises rows i d rising lt))

    answers_rise : (rows : List Row) (sought : K) → is_rising order key rows ≡ true → IsNonDecreasingBy (λ row. ordering_index (order (key row) sought)) rows
    answers_rise rows sought rising = searchable_from_sorted o key rows sought (λ k d low lt.
        rw add-one (not_above rows k d rising (omega arith)))

    pub found_at : (rows : List Row) (sought : K) (i : ℕ) (d : Row) → is_rising order key rows ≡ true → i < length rows → order (key (get_or rows i d)) sought ≡ Equal → row_at order key rows sought ≡ Some (get_or rows i d)
    found_at [] sought i d rising lt e = absurd (omega arith)
    found_at (row ∷ rows) sought zero d rising lt e = ap (λ r. cond (is_eq r) (Some row) (row_at order key rows sought)) (turned _ _ Equal e)
    found_at (row ∷ rows) sought (suc i) d rising lt e =
        let split = and_parts (is_below_all order key (key row) rows) (is_rising order key rows) rising in
        let less : order (key row) sought ≡ Less = sym (alike_right o (key (get_or rows i d)) sought (key row) e) ∙ below_at (key row) rows i d split.0 (omega arith) in
        ap (λ r. cond (is_eq r) (Some row) (row_at order key rows sought)) (turned _ _ Less less) ∙ found_at rows sought i d split.1 (omega arith) e

    -- no row's key ties with the one that is sought
    pub not_found : (rows : List Row) (sought : K) → ((i : ℕ) (d : Row) → i < length rows → is_eq (order (key (get_or rows i d)) sought) ≡ false) → row_at order key rows sought ≡ None
    not_found [] sought apart = refl
    not_found (row ∷ rows) sought apart =
        ap (λ b. cond b (Some row) (row_at order key rows sought)) (is_eq_turned (order (key row) sought) (order sought (key row)) (turned _ _ _ refl) ∙ apart 0 row (omega arith))
        ∙ not_found rows sought (λ i d lt. apart (suc i) d (omega arith))
      where
        is_eq_turned : (a b : Ordering) → b ≡ ordering_reverse a → is_eq b ≡ is_eq a
        is_eq_turned a b e = grind arith

    -- ---- an entry that is put among those of rows

    -- by how the first key compares with its own
    put_by : {X : Type 0} (value : Row → X) (row first : Row) (rows : List Row) (o : Ordering) → order (key first) (key row) ≡ o
        → put order (key row) (value row) (row_entries key value (first ∷ rows))
        ≡ by_order (ordering_reverse o) (row_entries key value (row ∷ first ∷ rows)) ((key first, value row) ∷ row_entries key value rows) ((key first, value first) ∷ put order (key row) (value row) (row_entries key value rows))
    put_by value row first rows o e =
        ap (λ x. by_order x (row_entries key value (row ∷ first ∷ rows)) ((key first, value row) ∷ row_entries key value rows) ((key first, value first) ∷ put order (key row) (value row) (row_entries key value rows))) (turned _ _ o e)

    -- rows that have it too
    module _ (old new : List Row) (row : Row) (is_put : (X : Type 0) (value : Row → X) → put order (key row) (value row) (row_entries key value old) ≡ row_entries key value new) (rising : is_rising order key old ≡ true) where
      -- their keys still rise
      rising_put : is_rising order key new ≡ true
      rising_put = sym (rising_entries (λ r. r) new) ∙ T_true _ (subst (λ es. T (is_sorted order es)) (is_put Row (λ r. r)) (is_sorted-put order o (key row) row (row_entries key (λ r. r) old) (sorted_entries (λ r. r) old rising)))

      -- and the map has the row's value at its key
      map_put : {X : Type 0} (value : Row → X) → table_map order key value new ≡ insert (table_map order key value old) (key row) (value row)
      unfolding table_map
      map_put {X} value = same_entries_map _ _ (
          entries-from_sorted order (row_entries key value new) (sorted_entries value new rising_put)
          ∙ sym (is_put X value)
          ∙ sym (entries-insert o (from_sorted (row_entries key value old)) (key row) (value row) ∙ ap (put order (key row) (value row)) (entries-from_sorted order (row_entries key value old) (sorted_entries value old rising))))

    -- ---- a row more

    put_added : {X : Type 0} (value : Row → X) (rows : List Row) (place : ℕ) (row : Row)
        → ((i : ℕ) (d : Row) → i < place → i < length rows → order (key (get_or rows i d)) (key row) ≡ Less)
        → ((i : ℕ) (d : Row) → place ≤ i → i < length rows → order (key (get_or rows i d)) (key row) ≡ Greater)
        → put order (key row) (value row) (row_entries key value rows) ≡ row_entries key value (list.insert rows place row)
    put_added value [] zero row below above = refl
    put_added value [] (suc place) row below above = refl
    put_added value (r ∷ rows) zero row below above =
        put_by value row r rows Greater (above 0 row (omega arith) (omega arith))
    put_added value (r ∷ rows) (suc place) row below above =
        put_by value row r rows Less (below 0 row (omega arith) (omega arith))
        ∙ ap (λ l. (key r, value r) ∷ l) (put_added value rows place row (λ i d lt within. below (suc i) d (omega arith) (omega arith)) (λ i d le within. above (suc i) d (omega arith) (omega arith)))

    module _ {old new : List Row} {row : Row} (added : IsAdded order key old new row) (rising : is_rising order key old ≡ true) where
      entries_added : (X : Type 0) (value : Row → X) → put order (key row) (value row) (row_entries key value old) ≡ row_entries key value new
      entries_added X value = put_added value old added.place row added.below added.above ∙ ap (row_entries key value) (sym added.is)

      pub rising_added : is_rising order key new ≡ true
      rising_added = rising_put old new row entries_added rising

      pub map_added : {X : Type 0} (value : Row → X) → table_map order key value new ≡ insert (table_map order key value old) (key row) (value row)
      map_added = map_put old new row entries_added rising

    -- ---- a row in the place of another

    put_replaced : {X : Type 0} (value : Row → X) (rows : List Row) (i : ℕ) (row : Row) → IsAntisymmetric order → is_rising order key rows ≡ true → i < length rows → ((d : Row) → order (key (get_or rows i d)) (key row) ≡ Equal)
        → put order (key row) (value row) (row_entries key value rows) ≡ row_entries key value (set rows i row)
    put_replaced value [] i row exact rising lt same = absurd (omega arith)
    put_replaced value (r ∷ rows) zero row exact rising lt same =
        put_by value row r rows Equal (same r)
        ∙ ap (λ k. (k, value row) ∷ row_entries key value rows) (exact (key r) (key row) (same r))
    put_replaced value (r ∷ rows) (suc i) row exact rising lt same =
        let split = and_parts (is_below_all order key (key r) rows) (is_rising order key rows) rising in
        let less : order (key r) (key row) ≡ Less = sym (alike_right o (key (get_or rows i r)) (key row) (key r) (same r)) ∙ below_at (key r) rows i r split.0 (omega arith) in
        put_by value row r rows Less less
        ∙ ap (λ l. (key r, value r) ∷ l) (put_replaced value rows i row exact split.1 (omega arith) same)

    module _ (exact : IsAntisymmetric order) (old new : List Row) (row : Row) (i : ℕ) (is : new ≡ set old i row) (lt : i < length old) (same : (d : Row) → order (key (get_or old i d)) (key row) ≡ Equal) (rising : is_rising order key old ≡ true) where
      entries_replaced : (X : Type 0) (value : Row → X) → put order (key row) (value row) (row_entries key value old) ≡ row_entries key value new
      entries_replaced X value = put_replaced value old i row exact rising lt same ∙ ap (row_entries key value) (sym is)

      pub rising_replaced : is_rising order key new ≡ true
      rising_replaced = rising_put old new row entries_replaced rising

      pub map_replaced : {X : Type 0} (value : Row → X) → table_map order key value new ≡ insert (table_map order key value old) (key row) (value row)
      map_replaced = map_put old new row entries_replaced rising

-- ---- a map, as the table of its entries

module _ {K X : Type 0} {R : K → K → Ordering} (m : FinMap R X) where
  own_entries : (es : List (K × X)) → row_entries (λ (e : K × X). e.0) (λ (e : K × X). e.1) es ≡ es
  own_entries [] = refl
  own_entries (e ∷ es) = ap (λ (l : List (K × X)). e ∷ l) (own_entries es)

  pub entries_rise : is_rising R (λ (e : K × X). e.0) (entries m) ≡ true
  entries_rise =
      sym (rising_entries R (λ (e : K × X). e.0) (λ (e : K × X). e.1) (entries m)) ∙ ap (is_sorted R) (own_entries (entries m)) ∙ T_true _ (entries_sorted m)

  pub table_map-entries : table_map R (λ (e : K × X). e.0) (λ (e : K × X). e.1) (entries m) ≡ m
  table_map-entries =
      same_entries_map _ _ (entries-table_map R (λ (e : K × X). e.0) (λ (e : K × X). e.1) (entries m) entries_rise ∙ own_entries (entries m))

-- ---- what a binary search answers

module _ {Row K : Type 0} (order : K → K → Ordering) (key : Row → K) (o : IsTotalOrder order) (rows : List Row) (rising : is_rising order key rows ≡ true) where
  -- where no row has the key, smaller keys stand before its place and greater ones after it
  pub gap : (sought : K) (place : ℕ) → IsBinarySearchResult (λ row. order (key row) sought) rows (Err place)
      → ((i : ℕ) (d : Row) → i < place → i < length rows → order (key (get_or rows i d)) sought ≡ Less) × ((i : ℕ) (d : Row) → place ≤ i → i < length rows → order (key (get_or rows i d)) sought ≡ Greater)
  gap sought place found = let split = found (answers_rise order key o rows sought rising) in (λ i d lt within. split.0 i d (omega arith) lt, λ i d le within. split.1 i d le within)

  pub absent_at : (sought : K) (place : ℕ) → IsBinarySearchResult (λ row. order (key row) sought) rows (Err place) → row_at order key rows sought ≡ None
  absent_at sought place found = not_found order key o rows sought (λ i d within. by i d within (cases_lt i place))
    where
      by : (i : ℕ) (d : Row) → i < length rows → (i < place) ⊎ (place ≤ i) → is_eq (order (key (get_or rows i d)) sought) ≡ false
      by i d within (inl lt) = ap is_eq ((gap sought place found).0 i d lt within)
      by i d within (inr le) = ap is_eq ((gap sought place found).1 i d le within)

  -- a row that is put there is added
  pub added_at : (row : Row) (sought : K) (place : ℕ) (new : List Row) → sought ≡ key row → IsBinarySearchResult (λ r. order (key r) sought) rows (Err place) → new ≡ list.insert rows place row → IsAdded order key rows new row
  added_at row sought place new same found is =
      let split = gap sought place found in
      record { place = place; is = is; below = λ i d lt within. ap (order (key (get_or rows i d))) (sym same) ∙ split.0 i d lt within; above = λ i d le within. ap (order (key (get_or rows i d))) (sym same) ∙ split.1 i d le within }

  -- whether the row was put there or not, the keys rise
  pub rising_tried : (row : Row) (sought : K) (place : ℕ) (new : List Row) (is_put : Bool) → sought ≡ key row → IsBinarySearchResult (λ r. order (key r) sought) rows (Err place)
      → new ≡ cond is_put (list.insert rows place row) rows → is_rising order key new ≡ true
  rising_tried row sought place new true same found is = rising_added order key o (added_at row sought place new same found is) rising
  rising_tried row sought place new false same found is = ap (is_rising order key) is ∙ rising

  -- a key that is not found is not in the map
  pub absent_key : {X : Type 0} (value : Row → X) (sought wanted : K) (place : ℕ) → sought ≡ wanted → IsBinarySearchResult (λ row. order (key row) sought) rows (Err place) → get (table_map order key value rows) wanted ≡ None
  absent_key value sought wanted place same found =
      get_table order key value rows wanted rising ∙ ap (option_map value) (ap (row_at order key rows) (sym same) ∙ absent_at sought place found)

  -- a key that the map does not have is that of no row
  pub absent_row : {X : Type 0} (value : Row → X) (sought : K) → get (table_map order key value rows) sought ≡ None → row_at order key rows sought ≡ None
  absent_row value sought none = by (row_at order key rows sought) (sym (get_table order key value rows sought rising) ∙ none)
    where
      by : (found : Option Row) → option_map value found ≡ None → found ≡ None
      by found e = grind arith

  pub present_row : {X : Type 0} (value : Row → X) (sought : K) → is_some (row_at order key rows sought) ≡ true → is_some (get (table_map order key value rows) sought) ≡ true
  present_row value sought some = ap is_some (get_table order key value rows sought rising) ∙ by (row_at order key rows sought) some
    where
      by : (found : Option Row) → is_some found ≡ true → is_some (option_map value found) ≡ true
      by found e = grind arith

pub not_both : {A : Type 0} (o : Option A) (x : A) → o ≡ Some x → o ≡ None → ⊥
not_both o x some none = let clash : Some x ≡ None = sym some ∙ none in cc

-- the row that is found has the key
pub key_found : {Row K : Type 0} (order : K → K → Ordering) (key : Row → K) → IsAntisymmetric order → (rows : List Row) (sought : K) (row : Row) → row_at order key rows sought ≡ Some row → key row ≡ sought
key_found order key exact [] sought row e = cc
key_found {Row} order key exact (r ∷ rows) sought row e = by (order sought (key r)) refl e (key_found order key exact rows sought row)
  where
    by : (o : Ordering) → order sought (key r) ≡ o → cond (is_eq o) (Some r) (row_at order key rows sought) ≡ Some row → (row_at order key rows sought ≡ Some row → key row ≡ sought) → key row ≡ sought
    by Less is e rest = rest e
    by Equal is e rest = let same : r ≡ row = cc e in sym (exact sought (key r) is ∙ ap key same)
    by Greater is e rest = rest e
