-- Records in any order, of which no two have one key, make the map that they make in the order of their keys.
use Rattle.std.proofs.Common.{◌≡◌, ℕ, zero, suc, ◌+◌, ◌<◌, List, [], ◌∷◌, length, get_or, map, Bool, true, false, cond, Option, Some, None, refl, sym, ◌∙◌, ap, subst, arith, IsPermutation}
use Rattle.std.specs.Prelude.{option_map, is_some}
use Rattle.std.specs.List.{AllByRecursion, Contains, IsAllAdjacentAnswer, IsDistinct}
use Rattle.std.specs.List.Sorted.{IsSortedBy}
use Rattle.std.specs.Ordering.{is_lt, is_eq, eq_by_cmp, ordering_reverse}
use Rattle.std.specs.declared.cmp.Ordering.{Ordering}
use Rattle.std.specs.declared.cmp.Ordering.TheVariants.{Less}
use Rattle.std.specs.Cmp.{Equal-is, IsTotalOrder, eq_by_cmp_equiv}
use Rattle.std.specs.FinMap.{FinMap, IsAntisymmetric, get, insert, empty, get-insert, get-empty, same_map}
use Rattle.std.proofs.lemmas.Bool.{and_from, and_parts, false≢true}
use Rattle.std.proofs.lemmas.List.Sorted.{Contains-permutation, IsPermutation-map, IsPermutation-sym}
use Rattle.std.proofs.lemmas.Map.Keys.{IsDistinct-IsPermutation}
use Rattle.custody_records.specs.Form.{gather, keyed_map}
use Rattle.custody_records.specs.Tables.{is_below_all, is_rising, table_map}
use Rattle.custody_records.proofs.TableLemmas.{row_at, get_table, less_is}

-- ---- neighbours that rise

module _ {Row K : Type 0} (order : K → K → Ordering) (key : Row → K) where
  -- the answer of a test of neighbours
  abbrev pub IsRisingAnswer : List Row → Bool → Type 0
  IsRisingAnswer = IsAllAdjacentAnswer (λ one other b. b ≡ is_lt (order (key one) (key other)))

  module _ (o : IsTotalOrder order) where
    -- each is below the next: the keys rise
    rising_if_adjacent : (rows : List Row) → ((k : ℕ) (d : Row) → k + 1 < length rows → is_lt (order (key (get_or rows k d)) (key (get_or rows (k + 1) d))) ≡ true) → is_rising order key rows ≡ true
    rising_if_adjacent [] each = refl
    rising_if_adjacent (row ∷ []) each = refl
    rising_if_adjacent (row ∷ (next ∷ rows)) each =
        let rest = rising_if_adjacent (next ∷ rows) (λ k d lt. subst (λ n. is_lt (order (key (get_or (next ∷ rows) k d)) (key (get_or (row ∷ (next ∷ rows)) n d))) ≡ true) {x = suc k + 1} {y = suc (k + 1)} (omega arith) (each (suc k) d (omega arith))) in
        let low = less_is (order (key row) (key next)) (each 0 row (omega arith)) in
        let split = and_parts (is_below_all order key (key next) rows) (is_rising order key rows) rest in
        and_from _ _ (and_from _ _ (each 0 row (omega arith)) (above rows low split.0)) rest
      where
        above : (others : List Row) → order (key row) (key next) ≡ Less → is_below_all order key (key next) others ≡ true → is_below_all order key (key row) others ≡ true
        above [] low below = refl
        above (other ∷ others) low below =
            let split = and_parts (is_lt (order (key next) (key other))) (is_below_all order key (key next) others) below in
            and_from _ _ (ap is_lt (o.trans (key row) (key next) (key other) low (less_is (order (key next) (key other)) split.0))) (above others low split.1)

    pub rising_by_answer : (rows : List Row) (answer : Bool) → IsRisingAnswer rows answer → answer ≡ true → is_rising order key rows ≡ true
    rising_by_answer rows true all is = rising_if_adjacent rows (λ k d lt. sym (all k d lt))
    rising_by_answer rows false some is = cc

-- ---- records in any order

module _ {Row K X : Type 0} (order : K → K → Ordering) (key : Row → K) (value : Row → X) (o : IsTotalOrder order) (exact : IsAntisymmetric order) where
  abbrev gathered : FinMap order X → List Row → Option (FinMap order X)
  gathered = gather {order = order} (λ it. Some (key it, value it))

  abbrev differ : List Row → Type 0
  differ rows = IsDistinct (eq_by_cmp order) (map key rows)

  -- the first of these has a key that those before and those after it do not have
  first_of : (m : FinMap order X) (row : Row) (rows : List Row) (all : FinMap order X) → gathered m (row ∷ rows) ≡ Some all
      → (get m (key row) ≡ None) × (gathered (insert m (key row) (value row)) rows ≡ Some all)
  first_of m row rows all e = by (get m (key row)) refl e
    where
      by : (found : Option X) → get m (key row) ≡ found → cond (is_some found) None (gathered (insert m (key row) (value row)) rows) ≡ Some all
          → (get m (key row) ≡ None) × (gathered (insert m (key row) (value row)) rows ≡ Some all)
      by None is e = (is, e)
      by (Some v) is e = cc

  absent_before : (m : FinMap order X) (row other : Row) → get (insert m (key row) (value row)) (key other) ≡ None → (get m (key other) ≡ None) × (eq_by_cmp order (key row) (key other) ≡ false)
  absent_before m row other none = by (eq_by_cmp order (key other) (key row)) refl (sym (get-insert o m (key row) (value row) (key other)) ∙ none)
    where
      by : (b : Bool) → eq_by_cmp order (key other) (key row) ≡ b → cond b (Some (value row)) (get m (key other)) ≡ None → (get m (key other) ≡ None) × (eq_by_cmp order (key row) (key other) ≡ false)
      by true is e = cc
      by false is e = (e, (eq_by_cmp_equiv o).symm (key row) (key other) ∙ is)

  -- where all are gathered, their keys differ from each other and from those before
  apart_if_gathered : (m : FinMap order X) (rows : List Row) (all : FinMap order X) → gathered m rows ≡ Some all → AllByRecursion (λ row. get m (key row) ≡ None) rows × differ rows
  unfolding IsDistinct
  apart_if_gathered m [] all e = (tt, tt)
  apart_if_gathered m (row ∷ rows) all e =
      let first = first_of m row rows all e in
      let rest = apart_if_gathered (insert m (key row) (value row)) rows all first.1 in
      let both = each rows rest.0 in
      ((first.0, both.0), (both.1, rest.1))
    where
      each : (others : List Row) → AllByRecursion (λ other. get (insert m (key row) (value row)) (key other) ≡ None) others
          → AllByRecursion (λ other. get m (key other) ≡ None) others × AllByRecursion (λ k. eq_by_cmp order (key row) k ≡ false) (map key others)
      each [] all = (tt, tt)
      each (other ∷ others) all =
          let one = absent_before m row other all.0 in
          let rest = each others all.1 in
          ((one.0, rest.0), (one.1, rest.1))

  -- where their keys differ, all are gathered
  gathered_if_apart : (m : FinMap order X) (rows : List Row) → AllByRecursion (λ row. get m (key row) ≡ None) rows → differ rows → (all : FinMap order X) × (gathered m rows ≡ Some all)
  unfolding IsDistinct
  gathered_if_apart m [] absent apart = (m, refl)
  gathered_if_apart m (row ∷ rows) absent apart =
      let rest = gathered_if_apart (insert m (key row) (value row)) rows (each rows absent.1 apart.0) apart.1 in
      (rest.0, ap (λ (found : Option X). cond (is_some found) None (gathered (insert m (key row) (value row)) rows)) absent.0 ∙ rest.1)
    where
      each : (others : List Row) → AllByRecursion (λ other. get m (key other) ≡ None) others → AllByRecursion (λ k. eq_by_cmp order (key row) k ≡ false) (map key others)
          → AllByRecursion (λ other. get (insert m (key row) (value row)) (key other) ≡ None) others
      each [] absent apart = tt
      each (other ∷ others) absent apart = (
        get-insert o m (key row) (value row) (key other) ∙ ap (λ b. cond b (Some (value row)) (get m (key other))) ((eq_by_cmp_equiv o).symm (key other) (key row) ∙ apart.0) ∙ absent.0,
        each others absent.1 apart.1,
      )

  -- ---- what is found of a key

  abbrev or_else : Option X → Option X → Option X
  or_else (Some v) other = Some v
  or_else None other = other

  get_gathered : (m : FinMap order X) (rows : List Row) (all : FinMap order X) (k : K) → gathered m rows ≡ Some all → get all k ≡ or_else (option_map value (row_at order key rows k)) (get m k)
  get_gathered m [] all k e = let same : m ≡ all = cc in ap (λ (n : FinMap order X). get n k) (sym same)
  get_gathered m (row ∷ rows) all k e =
      let first = first_of m row rows all e in
      let rest = get_gathered (insert m (key row) (value row)) rows all k first.1 in
      let absent = (apart_if_gathered (insert m (key row) (value row)) rows all first.1).0 in
      rest ∙ by (eq_by_cmp order k (key row)) refl (none_tied rows absent)
    where
      next : FinMap order X
      next = insert m (key row) (value row)

      none_tied : (others : List Row) → AllByRecursion (λ other. get next (key other) ≡ None) others → eq_by_cmp order k (key row) ≡ true → row_at order key others k ≡ None
      none_tied [] absent tied = refl
      none_tied (other ∷ others) absent tied =
          let same : k ≡ key row = exact k (key row) ((Equal-is (order k (key row))).0 tied) in
          ap (λ b. cond b (Some other) (row_at order key others k)) (ap (λ x. eq_by_cmp order x (key other)) same ∙ (absent_before m row other absent.0).1) ∙ none_tied others absent.1 tied

      by : (b : Bool) → eq_by_cmp order k (key row) ≡ b → (eq_by_cmp order k (key row) ≡ true → row_at order key rows k ≡ None)
          → or_else (option_map value (row_at order key rows k)) (get next k) ≡ or_else (option_map value (cond (eq_by_cmp order k (key row)) (Some row) (row_at order key rows k))) (get m k)
      by true is none =
          ap (λ (r : Option Row). or_else (option_map value r) (get next k)) (none is) ∙ get-insert o m (key row) (value row) k ∙ ap (λ b. cond b (Some (value row)) (get m k)) is
          ∙ sym (ap (λ b. or_else (option_map value (cond b (Some row) (row_at order key rows k))) (get m k)) is)
      by false is none =
          ap (or_else (option_map value (row_at order key rows k))) (get-insert o m (key row) (value row) k ∙ ap (λ b. cond b (Some (value row)) (get m k)) is)
          ∙ sym (ap (λ b. or_else (option_map value (cond b (Some row) (row_at order key rows k))) (get m k)) is)

  -- ---- the same rows in another order

  found_in : (rows : List Row) (k : K) (row : Row) → row_at order key rows k ≡ Some row → Contains rows row × (eq_by_cmp order k (key row) ≡ true)
  found_in [] k row e = cc
  found_in (first ∷ rows) k row e = by (eq_by_cmp order k (key first)) refl e (found_in rows k row)
    where
      by : (b : Bool) → eq_by_cmp order k (key first) ≡ b → cond b (Some first) (row_at order key rows k) ≡ Some row → (row_at order key rows k ≡ Some row → Contains rows row × (eq_by_cmp order k (key row) ≡ true))
          → Contains (first ∷ rows) row × (eq_by_cmp order k (key row) ≡ true)
      by true is e later = let same : first ≡ row = cc in ((0, omega arith, same), ap (λ r. eq_by_cmp order k (key r)) (sym same) ∙ is)
      by false is e later = let ((j, within, at), tied) = later e in ((suc j, omega arith, at), tied)

  at_own_place : (rows : List Row) (k : K) (row : Row) → differ rows → Contains rows row → eq_by_cmp order k (key row) ≡ true → row_at order key rows k ≡ Some row
  unfolding IsDistinct
  at_own_place [] k row apart there tied = absurd (omega arith)
  at_own_place (first ∷ rows) k row apart (zero, within, is) tied =
      ap (λ b. cond b (Some first) (row_at order key rows k)) (ap (λ r. eq_by_cmp order k (key r)) is ∙ tied) ∙ ap Some is
  at_own_place (first ∷ rows) k row apart (suc j, within, is) tied =
      let same : k ≡ key row = exact k (key row) ((Equal-is (order k (key row))).0 tied) in
      let other : eq_by_cmp order k (key first) ≡ false = ap (λ x. eq_by_cmp order x (key first)) same ∙ (eq_by_cmp_equiv o).symm (key row) (key first) ∙ at rows j (omega arith) is apart.0 in
      ap (λ b. cond b (Some first) (row_at order key rows k)) other ∙ at_own_place rows k row apart.1 (j, omega arith, is) tied
    where
      at : (others : List Row) (j : ℕ) → j < length others → get_or others j row ≡ row → AllByRecursion (λ x. eq_by_cmp order (key first) x ≡ false) (map key others) → eq_by_cmp order (key first) (key row) ≡ false
      at [] j lt is all = absurd (omega arith)
      at (other ∷ others) zero lt is all = ap (λ r. eq_by_cmp order (key first) (key r)) (sym is) ∙ all.0
      at (other ∷ others) (suc j) lt is all = at others j (omega arith) is all.1

  differ_moved : (rows moved : List Row) → IsPermutation rows moved → differ rows → differ moved
  differ_moved rows moved there = IsDistinct-IsPermutation (eq_by_cmp order) (eq_by_cmp_equiv o).symm (map key rows) (map key moved) (IsPermutation-map key rows moved there)

  same_row : (rows moved : List Row) (k : K) → IsPermutation rows moved → differ rows → row_at order key rows k ≡ row_at order key moved k
  same_row rows moved k there apart = by (row_at order key rows k) (row_at order key moved k) refl refl
    where
      by : (a b : Option Row) → row_at order key rows k ≡ a → row_at order key moved k ≡ b → row_at order key rows k ≡ row_at order key moved k
      by (Some row) b is_a is_b =
          let found = found_in rows k row is_a in is_a ∙ sym (at_own_place moved k row (differ_moved rows moved there apart) (Contains-permutation rows moved row there found.0) found.1)
      by None (Some row) is_a is_b =
          let found = found_in moved k row is_b in
          let also = at_own_place rows k row apart (Contains-permutation moved rows row (IsPermutation-sym rows moved there) found.0) found.1 in
          absurd (let clash : None ≡ Some row = sym is_a ∙ also in cc)
      by None None is_a is_b = is_a ∙ sym is_b

  -- ---- rows that rise

  differ_if_rising : (rows : List Row) → is_rising order key rows ≡ true → differ rows
  unfolding IsDistinct
  differ_if_rising [] rising = tt
  differ_if_rising (row ∷ rows) rising =
      let split = and_parts (is_below_all order key (key row) rows) (is_rising order key rows) rising in
      (above rows split.0, differ_if_rising rows split.1)
    where
      apart : (r : Ordering) → is_lt r ≡ true → is_eq r ≡ false
      apart r e = grind arith

      above : (others : List Row) → is_below_all order key (key row) others ≡ true → AllByRecursion (λ k. eq_by_cmp order (key row) k ≡ false) (map key others)
      above [] below = tt
      above (other ∷ others) below =
          let split = and_parts (is_lt (order (key row) (key other))) (is_below_all order key (key row) others) below in
          (apart (order (key row) (key other)) split.0, above others split.1)

  -- ---- a list that was sorted

  module _ (rows moved : List Row) (there : IsPermutation rows moved) where
    pub keyed_in_order : is_rising order key moved ≡ true → keyed_map order key value rows ≡ Some (table_map order key value moved)
    keyed_in_order rising =
        let apart = differ_moved moved rows (IsPermutation-sym rows moved there) (differ_if_rising moved rising) in
        let all = gathered_if_apart empty rows (none rows) apart in
        all.1 ∙ ap Some (same_map o exact all.0 (table_map order key value moved) (λ k.
        get_gathered empty rows all.0 k all.1 ∙ ap (or_else (option_map value (row_at order key rows k))) (get-empty order k) ∙ alone (option_map value (row_at order key rows k))
        ∙ ap (option_map value) (same_row rows moved k there apart) ∙ sym (get_table order key value moved k rising)))
      where
        none : (others : List Row) → AllByRecursion (λ row. get (empty {X = X} {R = order}) (key row) ≡ None) others
        none [] = tt
        none (other ∷ others) = (get-empty order (key other), none others)

        alone : (found : Option X) → or_else found None ≡ found
        alone (Some v) = refl
        alone None = refl

    -- two neighbours of one key
    keyed_twice : IsSortedBy (λ x y. is_lt (order (key x) (key y))) moved → (k : ℕ) → k + 1 < length moved → ((d : Row) → is_lt (order (key (get_or moved k d)) (key (get_or moved (k + 1) d))) ≡ false) → keyed_map order key value rows ≡ None
    unfolding IsDistinct
    keyed_twice sorted k within no_rise = by (keyed_map order key value rows) refl
      where
        ties : (d : Row) → eq_by_cmp order (key (get_or moved k d)) (key (get_or moved (k + 1) d)) ≡ true
        ties d = neither _ _ (no_rise d) (o.antisymm (key (get_or moved (k + 1) d)) (key (get_or moved k d))) (sorted k d (omega arith) within)
          where
            neither : (a b : Ordering) → is_lt a ≡ false → b ≡ ordering_reverse a → is_lt b ≡ false → is_eq a ≡ true
            neither a b e f g = grind arith

        by : (all : Option (FinMap order X)) → keyed_map order key value rows ≡ all → keyed_map order key value rows ≡ None
        by None is = is
        by (Some all) is =
            let apart = differ_moved rows moved there (apart_if_gathered empty rows all is).1 in
            absurd (clash moved k apart within ties)
          where
            clash : (l : List Row) (k : ℕ) → differ l → k + 1 < length l → ((d : Row) → eq_by_cmp order (key (get_or l k d)) (key (get_or l (k + 1) d)) ≡ true) → ⊥
            clash [] k apart within tied = omega arith
            clash (row ∷ []) k apart within tied = omega arith
            clash (row ∷ (next ∷ l)) zero apart within tied = false≢true (sym apart.0.0 ∙ tied row)
            clash (row ∷ (next ∷ l)) (suc k) apart within tied = clash (next ∷ l) k apart.1 (omega arith) (λ d. subst (λ n. eq_by_cmp order (key (get_or (next ∷ l) k d)) (key (get_or (row ∷ (next ∷ l)) n d)) ≡ true) {x = suc k + 1} {y = suc (k + 1)} (omega arith) (tied d))

    pub keyed_by_answer : (answer : Bool) → IsSortedBy (λ x y. is_lt (order (key x) (key y))) moved → IsRisingAnswer order key moved answer → answer ≡ false → keyed_map order key value rows ≡ None
    keyed_by_answer true sorted all is = cc
    keyed_by_answer false sorted some is = (let (k, within, apart) = some in keyed_twice sorted k within (λ d. sym (apart d)))
