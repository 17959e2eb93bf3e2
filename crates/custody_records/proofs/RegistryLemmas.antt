-- Rows by registry: what is found among all rows is found in the table of its registry.
use Rattle.std.proofs.Common.{◌≡◌, ℕ, suc, ◌<◌, List, [], ◌∷◌, ◌++◌, length, get_or, Bool, true, false, cond, Option, Some, None, refl, sym, ◌∙◌, ap, subst, arith, append-nil}
use Rattle.std.specs.Prelude.{option_map, IsSome, flat_map}
use Rattle.std.specs.Option.{option_and_then}
use Rattle.std.specs.List.{AllByRecursion, filter}
use Rattle.std.specs.Ordering.{is_lt, is_eq, eq_by_cmp}
use Rattle.std.specs.declared.cmp.Ordering.{Ordering}
use Rattle.std.specs.declared.cmp.Ordering.TheVariants.{Less}
use Rattle.std.specs.Cmp.{Equal-is, IsTotalOrder}
use Rattle.std.specs.FinMap.{FinMap, IsAntisymmetric, entries, get, insert, empty, get-insert, get-empty, same_map}
use Rattle.std.proofs.lemmas.Bool.{and_from, and_parts}
use Rattle.std.proofs.lemmas.Cmp.{tied_itself}
use Rattle.std.proofs.lemmas.List.Elements.{filter-append}
use Rattle.custody_records.specs.Keys.{text_cmp}
use Rattle.custody_records.specs.Tables.{row_entries, is_below_all, is_rising, table_map}
use Rattle.custody_records.specs.inside.Orders.{text_total, text_exact}
use Rattle.custody_records.proofs.TableLemmas.{row_at, get_table, found_at, entries-table_map, less_is}

less_not_equal : (o : Ordering) → o ≡ Less → is_eq o ≡ false
less_not_equal o e = grind arith

abbrev pub value_in : {K X : Type 0} {order : K → K → Ordering} → K → Option (FinMap order X) → Option X
value_in k None = None
value_in k (Some m) = get m k

abbrev pub entries_in : {K X : Type 0} {order : K → K → Ordering} → (K × X → Bool) → Option (FinMap order X) → List (K × X)
entries_in test None = []
entries_in test (Some m) = filter test (entries m)

-- ---- rows behind others

module _ {T K : Type 0} (order : K → K → Ordering) (key : T → K) where
  below_append : (low : K) (xs ys : List T) → is_below_all order key low xs ≡ true → is_below_all order key low ys ≡ true → is_below_all order key low (xs ++ ys) ≡ true
  below_append low [] ys first second = second
  below_append low (x ∷ xs) ys first second =
      let split = and_parts (is_lt (order low (key x))) (is_below_all order key low xs) first in
      and_from _ _ split.0 (below_append low xs ys split.1 second)

  rising_append : (xs ys : List T) → is_rising order key xs ≡ true → is_rising order key ys ≡ true → AllByRecursion (λ x. is_below_all order key (key x) ys ≡ true) xs → is_rising order key (xs ++ ys) ≡ true
  rising_append [] ys first second below = second
  rising_append (x ∷ xs) ys first second below =
      let split = and_parts (is_below_all order key (key x) xs) (is_rising order key xs) first in
      and_from _ _ (below_append (key x) xs ys split.0 below.0) (rising_append xs ys split.1 second below.1)

  abbrev or_else : Option T → Option T → Option T
  or_else (Some row) other = Some row
  or_else None other = other

  row_at_append : (xs ys : List T) (k : K) → row_at order key (xs ++ ys) k ≡ or_else (row_at order key xs k) (row_at order key ys k)
  row_at_append [] ys k = refl
  row_at_append (x ∷ xs) ys k = by (is_eq (order k (key x))) (row_at_append xs ys k)
    where
      by : (b : Bool) → row_at order key (xs ++ ys) k ≡ or_else (row_at order key xs k) (row_at order key ys k)
          → cond b (Some x) (row_at order key (xs ++ ys) k) ≡ or_else (cond b (Some x) (row_at order key xs k)) (row_at order key ys k)
      by true rest = refl
      by false rest = rest

  row_entries_append : {X : Type 0} (value : T → X) (xs ys : List T) → row_entries key value (xs ++ ys) ≡ row_entries key value xs ++ row_entries key value ys
  row_entries_append value [] ys = refl
  row_entries_append {X} value (x ∷ xs) ys = ap (λ (l : List (K × X)). (key x, value x) ∷ l) (row_entries_append value xs ys)

-- ---- the rows of registries

module _ {G T K X : Type 0} (order : K → K → Ordering) (key : T → K) (value : T → X) (o : IsTotalOrder order) (exact : IsAntisymmetric order) (tld_of : G → List ℕ) (rows_of : G → List T) (registry_of : K → List ℕ)
    (rises : (g : G) → is_rising order key (rows_of g) ≡ true)
    (own : (g : G) (k : K) → IsSome (get (table_map order key value (rows_of g)) k) → registry_of k ≡ tld_of g)
    (by_registry : (a b : K) → text_cmp (registry_of a) (registry_of b) ≡ Less → order a b ≡ Less) where
  abbrev Owned : List ℕ → List T → Type 0
  Owned tld rows = AllByRecursion (λ row. registry_of (key row) ≡ tld) rows

  abbrev pub map_of : G → FinMap order X
  map_of g = table_map order key value (rows_of g)

  abbrev pub outer_map : List G → FinMap text_cmp (FinMap order X)
  outer_map gs = table_map text_cmp tld_of map_of gs

  abbrev pub whole_map : List G → FinMap order X
  whole_map gs = table_map order key value (flat_map rows_of gs)

  owned : (g : G) → Owned (tld_of g) (rows_of g)
  owned g = each (rows_of g) (λ i d lt. own g (key (get_or (rows_of g) i d)) (subst IsSome (sym (
      get_table order key value (rows_of g) (key (get_or (rows_of g) i d)) (rises g)
      ∙ ap (option_map value) (found_at order key o (rows_of g) (key (get_or (rows_of g) i d)) i d (rises g) lt (tied_itself o (key (get_or (rows_of g) i d)))))) refl))
    where
      each : (rows : List T) → ((i : ℕ) (d : T) → i < length rows → registry_of (key (get_or rows i d)) ≡ tld_of g) → Owned (tld_of g) rows
      each [] all = tt
      each (row ∷ rows) all = (all 0 row (omega arith), each rows (λ i d lt. all (suc i) d (omega arith)))

  -- ---- their keys rise

  below_rows : (k : K) (tld : List ℕ) (rows : List T) → Owned tld rows → text_cmp (registry_of k) tld ≡ Less → is_below_all order key k rows ≡ true
  below_rows k tld [] all less = refl
  below_rows k tld (row ∷ rows) all less =
      and_from _ _ (ap is_lt (by_registry k (key row) (ap (text_cmp (registry_of k)) all.0 ∙ less))) (below_rows k tld rows all.1 less)

  below_flat : (k : K) (gs : List G) → is_below_all text_cmp tld_of (registry_of k) gs ≡ true → is_below_all order key k (flat_map rows_of gs) ≡ true
  below_flat k [] below = refl
  below_flat k (g ∷ gs) below =
      let split = and_parts (is_lt (text_cmp (registry_of k) (tld_of g))) (is_below_all text_cmp tld_of (registry_of k) gs) below in
      below_append order key k (rows_of g) (flat_map rows_of gs) (below_rows k (tld_of g) (rows_of g) (owned g) (less_is _ split.0)) (below_flat k gs split.1)

  pub flat_rising : (gs : List G) → is_rising text_cmp tld_of gs ≡ true → is_rising order key (flat_map rows_of gs) ≡ true
  flat_rising [] rising = refl
  flat_rising (g ∷ gs) rising =
      let split = and_parts (is_below_all text_cmp tld_of (tld_of g) gs) (is_rising text_cmp tld_of gs) rising in
      rising_append order key (rows_of g) (flat_map rows_of gs) (rises g) (flat_rising gs split.1) (each (rows_of g) (owned g) split.0)
    where
      each : (rows : List T) → Owned (tld_of g) rows → is_below_all text_cmp tld_of (tld_of g) gs ≡ true → AllByRecursion (λ x. is_below_all order key (key x) (flat_map rows_of gs) ≡ true) rows
      each [] all below = tt
      each (row ∷ rows) all below = (below_flat (key row) gs (ap (λ tld. is_below_all text_cmp tld_of tld gs) all.0 ∙ below), each rows all.1 below)

  -- ---- what is found

  none_behind : (tld : List ℕ) (gs : List G) → is_below_all text_cmp tld_of tld gs ≡ true → row_at text_cmp tld_of gs tld ≡ None
  none_behind tld [] below = refl
  none_behind tld (g ∷ gs) below =
      let split = and_parts (is_lt (text_cmp tld (tld_of g))) (is_below_all text_cmp tld_of tld gs) below in
      ap (λ b. cond b (Some g) (row_at text_cmp tld_of gs tld)) (less_not_equal (text_cmp tld (tld_of g)) (less_is _ split.0)) ∙ none_behind tld gs split.1

  same_registry : (k : K) (tld : List ℕ) → is_eq (text_cmp (registry_of k) tld) ≡ true → registry_of k ≡ tld
  same_registry k tld e = text_exact (registry_of k) tld ((Equal-is (text_cmp (registry_of k) tld)).0 e)

  -- no row of another registry has the key
  apart_rows : (k : K) (tld : List ℕ) (rows : List T) → Owned tld rows → is_eq (text_cmp (registry_of k) tld) ≡ false → row_at order key rows k ≡ None
  apart_rows k tld [] all apart = refl
  apart_rows k tld (row ∷ rows) all apart = by (is_eq (order k (key row))) refl (apart_rows k tld rows all.1 apart)
    where
      by : (b : Bool) → is_eq (order k (key row)) ≡ b → row_at order key rows k ≡ None → cond b (Some row) (row_at order key rows k) ≡ None
      by false is rest = rest
      by true is rest =
          let same : k ≡ key row = exact k (key row) ((Equal-is (order k (key row))).0 is) in
          let tied : is_eq (text_cmp (registry_of k) tld) ≡ true = ap (λ t. is_eq (text_cmp t tld)) (ap registry_of same ∙ all.0) ∙ ap is_eq (tied_itself text_total tld) in
          let clash : false ≡ true = sym apart ∙ tied in cc

  abbrev row_in : K → Option G → Option T
  row_in k found = option_and_then (λ g. row_at order key (rows_of g) k) found

  row_at_flat : (gs : List G) (k : K) → is_rising text_cmp tld_of gs ≡ true → row_at order key (flat_map rows_of gs) k ≡ row_in k (row_at text_cmp tld_of gs (registry_of k))
  row_at_flat [] k rising = refl
  row_at_flat (g ∷ gs) k rising =
      let split = and_parts (is_below_all text_cmp tld_of (tld_of g) gs) (is_rising text_cmp tld_of gs) rising in
      row_at_append order key (rows_of g) (flat_map rows_of gs) k ∙ by (is_eq (text_cmp (registry_of k) (tld_of g))) refl split.0 (row_at_flat gs k split.1)
    where
      alone : (found : Option T) → or_else order key found None ≡ found
      alone (Some row) = refl
      alone None = refl

      by : (b : Bool) → is_eq (text_cmp (registry_of k) (tld_of g)) ≡ b → is_below_all text_cmp tld_of (tld_of g) gs ≡ true → row_at order key (flat_map rows_of gs) k ≡ row_in k (row_at text_cmp tld_of gs (registry_of k))
          → or_else order key (row_at order key (rows_of g) k) (row_at order key (flat_map rows_of gs) k) ≡ row_in k (cond b (Some g) (row_at text_cmp tld_of gs (registry_of k)))
      by true is below rest =
          let same = same_registry k (tld_of g) is in
          let none : row_at order key (flat_map rows_of gs) k ≡ None = rest ∙ ap (row_in k) (ap (row_at text_cmp tld_of gs) same ∙ none_behind (tld_of g) gs below) in
          ap (or_else order key (row_at order key (rows_of g) k)) none ∙ alone (row_at order key (rows_of g) k)
      by false is below rest =
          ap (λ found. or_else order key found (row_at order key (flat_map rows_of gs) k)) (apart_rows k (tld_of g) (rows_of g) (owned g) is) ∙ rest

  pub get_whole : (gs : List G) (k : K) → is_rising text_cmp tld_of gs ≡ true → get (whole_map gs) k ≡ value_in k (get (outer_map gs) (registry_of k))
  get_whole gs k rising =
      get_table order key value (flat_map rows_of gs) k (flat_rising gs rising) ∙ ap (option_map value) (row_at_flat gs k rising) ∙ by (row_at text_cmp tld_of gs (registry_of k))
      ∙ sym (ap (value_in k) (get_table text_cmp tld_of map_of gs (registry_of k) rising))
    where
      by : (found : Option G) → option_map value (row_in k found) ≡ value_in k (option_map map_of found)
      by None = refl
      by (Some g) = sym (get_table order key value (rows_of g) k (rises g))

  -- ---- a group of rows

  module _ (test : K × X → Bool) (tld : List ℕ) (of_one : (e : K × X) → test e ≡ true → registry_of e.0 ≡ tld) where
    abbrev rows_in : Option G → List (K × X)
    rows_in None = []
    rows_in (Some g) = filter test (row_entries key value (rows_of g))

    apart_entries : (other : List ℕ) (rows : List T) → Owned other rows → is_eq (text_cmp tld other) ≡ false → filter test (row_entries key value rows) ≡ []
    apart_entries other [] all apart = refl
    apart_entries other (row ∷ rows) all apart = by (test (key row, value row)) refl (apart_entries other rows all.1 apart)
      where
        by : (b : Bool) → test (key row, value row) ≡ b → filter test (row_entries key value rows) ≡ [] → cond b ((key row, value row) ∷ filter test (row_entries key value rows)) (filter test (row_entries key value rows)) ≡ []
        by false is rest = rest
        by true is rest =
            let same : tld ≡ other = sym (of_one (key row, value row) is) ∙ all.0 in
            let clash : false ≡ true = sym apart ∙ ap (λ t. is_eq (text_cmp t other)) same ∙ ap is_eq (tied_itself text_total other) in cc

    group_rows : (gs : List G) → is_rising text_cmp tld_of gs ≡ true → filter test (row_entries key value (flat_map rows_of gs)) ≡ rows_in (row_at text_cmp tld_of gs tld)
    group_rows [] rising = refl
    group_rows (g ∷ gs) rising =
        let split = and_parts (is_below_all text_cmp tld_of (tld_of g) gs) (is_rising text_cmp tld_of gs) rising in
        ap (filter test) (row_entries_append order key value (rows_of g) (flat_map rows_of gs))
        ∙ filter-append test (row_entries key value (rows_of g)) (row_entries key value (flat_map rows_of gs)) ∙ by (is_eq (text_cmp tld (tld_of g))) refl split.0 (group_rows gs split.1)
      where
        by : (b : Bool) → is_eq (text_cmp tld (tld_of g)) ≡ b → is_below_all text_cmp tld_of (tld_of g) gs ≡ true → filter test (row_entries key value (flat_map rows_of gs)) ≡ rows_in (row_at text_cmp tld_of gs tld)
            → filter test (row_entries key value (rows_of g)) ++ filter test (row_entries key value (flat_map rows_of gs)) ≡ rows_in (cond b (Some g) (row_at text_cmp tld_of gs tld))
        by true is below rest =
            let same : tld ≡ tld_of g = text_exact tld (tld_of g) ((Equal-is (text_cmp tld (tld_of g))).0 is) in
            let none : filter test (row_entries key value (flat_map rows_of gs)) ≡ [] = rest ∙ ap rows_in (ap (row_at text_cmp tld_of gs) same ∙ none_behind (tld_of g) gs below) in
            ap (λ (l : List (K × X)). filter test (row_entries key value (rows_of g)) ++ l) none ∙ append-nil (filter test (row_entries key value (rows_of g)))
        by false is below rest =
            ap (λ (l : List (K × X)). l ++ filter test (row_entries key value (flat_map rows_of gs))) (apart_entries (tld_of g) (rows_of g) (owned g) is) ∙ rest

    pub group_whole : (gs : List G) → is_rising text_cmp tld_of gs ≡ true → filter test (entries (whole_map gs)) ≡ entries_in test (get (outer_map gs) tld)
    group_whole gs rising =
        ap (filter test) (entries-table_map order key value (flat_map rows_of gs) (flat_rising gs rising)) ∙ group_rows gs rising ∙ by (row_at text_cmp tld_of gs tld)
        ∙ sym (ap (entries_in test) (get_table text_cmp tld_of map_of gs tld rising))
      where
        by : (found : Option G) → rows_in found ≡ entries_in test (option_map map_of found)
        by None = refl
        by (Some g) = ap (filter test) (sym (entries-table_map order key value (rows_of g) (rises g)))

  -- ---- the table of one registry is another

  module _ (old new : List G) (was : is_rising text_cmp tld_of old ≡ true) (is : is_rising text_cmp tld_of new ≡ true) where
    -- a row more, or a row in the place of another
    pub whole_inserted : (tld : List ℕ) (m : FinMap order X) (k : K) (v : X) → registry_of k ≡ tld → get (outer_map old) tld ≡ Some m → outer_map new ≡ insert (outer_map old) tld (insert m k v)
        → whole_map new ≡ insert (whole_map old) k v
    whole_inserted tld m k v of_it there changed = same_map o exact (whole_map new) (insert (whole_map old) k v) (λ q.
        get_whole new q is ∙ ap (λ (all : FinMap text_cmp (FinMap order X)). value_in q (get all (registry_of q))) changed
        ∙ ap (value_in q) (get-insert text_total (outer_map old) tld (insert m k v) (registry_of q)) ∙ by q (eq_by_cmp text_cmp (registry_of q) tld) refl
        ∙ sym (get-insert o (whole_map old) k v q ∙ ap (cond (eq_by_cmp order q k) (Some v)) (get_whole old q was)))
      where
        by : (q : K) (b : Bool) → eq_by_cmp text_cmp (registry_of q) tld ≡ b
            → value_in q (cond b (Some (insert m k v)) (get (outer_map old) (registry_of q))) ≡ cond (eq_by_cmp order q k) (Some v) (value_in q (get (outer_map old) (registry_of q)))
        by q true same =
            get-insert o m k v q ∙ ap (cond (eq_by_cmp order q k) (Some v)) (sym (ap (value_in q) (ap (get (outer_map old)) (same_registry q tld same) ∙ there)))
        by q false apart = sym (other (eq_by_cmp order q k) refl)
          where
            other : (b : Bool) → eq_by_cmp order q k ≡ b → cond b (Some v) (value_in q (get (outer_map old) (registry_of q))) ≡ value_in q (get (outer_map old) (registry_of q))
            other false differ = refl
            other true tied =
                let same : q ≡ k = exact q k ((Equal-is (order q k)).0 tied) in
                let clash : false ≡ true = sym apart ∙ ap (λ t. eq_by_cmp text_cmp t tld) (ap registry_of same ∙ of_it) ∙ ap is_eq (tied_itself text_total tld) in cc

    -- the same rows
    pub whole_kept : (tld : List ℕ) (m : FinMap order X) → get (outer_map old) tld ≡ Some m → outer_map new ≡ insert (outer_map old) tld m → whole_map new ≡ whole_map old
    whole_kept tld m there changed = same_map o exact (whole_map new) (whole_map old) (λ q.
        get_whole new q is ∙ ap (λ (all : FinMap text_cmp (FinMap order X)). value_in q (get all (registry_of q))) changed
        ∙ ap (value_in q) (get-insert text_total (outer_map old) tld m (registry_of q)) ∙ by q (eq_by_cmp text_cmp (registry_of q) tld) refl ∙ sym (get_whole old q was))
      where
        by : (q : K) (b : Bool) → eq_by_cmp text_cmp (registry_of q) tld ≡ b → value_in q (cond b (Some m) (get (outer_map old) (registry_of q))) ≡ value_in q (get (outer_map old) (registry_of q))
        by q true same = ap (value_in q) (sym (ap (get (outer_map old)) (same_registry q tld same) ∙ there))
        by q false apart = refl

    -- a registry more, without rows
    pub whole_widened : (tld : List ℕ) → get (outer_map old) tld ≡ None → outer_map new ≡ insert (outer_map old) tld empty → whole_map new ≡ whole_map old
    whole_widened tld absent changed = same_map o exact (whole_map new) (whole_map old) (λ q.
        get_whole new q is ∙ ap (λ (all : FinMap text_cmp (FinMap order X)). value_in q (get all (registry_of q))) changed
        ∙ ap (value_in q) (get-insert text_total (outer_map old) tld empty (registry_of q)) ∙ by q (eq_by_cmp text_cmp (registry_of q) tld) refl ∙ sym (get_whole old q was))
      where
        by : (q : K) (b : Bool) → eq_by_cmp text_cmp (registry_of q) tld ≡ b → value_in q (cond b (Some empty) (get (outer_map old) (registry_of q))) ≡ value_in q (get (outer_map old) (registry_of q))
        by q true same = get-empty order q ∙ sym (ap (value_in q) (ap (get (outer_map old)) (same_registry q tld same) ∙ absent))
        by q false apart = refl
