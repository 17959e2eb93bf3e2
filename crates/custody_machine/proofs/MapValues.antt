-- What a map has after a function is applied to each value.
use Rattle.std.proofs.Common.{◌≡◌, List, [], ◌∷◌, Bool, true, false, ◌&&◌, cond, Some, refl, sym, ◌∙◌, ap, subst}
use Rattle.std.specs.Prelude.{T}
use Rattle.std.specs.Option.{option_map}
use Rattle.std.specs.Ordering.{eq_by_cmp}
use Rattle.std.specs.Cmp.{Equal-is, IsTotalOrder}
use Rattle.std.specs.declared.cmp.Ordering.{Ordering}
use Rattle.std.specs.Ordering.{is_lt}
use Rattle.std.specs.FinMap.Entries.{below_all}
use Rattle.std.specs.FinMap.{FinMap, IsAntisymmetric, empty, entries, entries_sorted, entries-from_sorted, get, get-empty, insert, find, is_sorted, get-entries, get-from_sorted, get-insert, same_map}
use Rattle.custody_machine.specs.MapValues.{map_entries, map_values, map_keyed_entries, map_keyed}

-- ---- a function of key and value, which takes keys that are tied alike

module _ {K X Y : Type 0} (R : K → K → Ordering) (f : K → X → Y) (alike : (q k : K) → eq_by_cmp R q k ≡ true → (x : X) → f k x ≡ f q x) where
  find-mapped : (q : K) (es : List (K × X)) → find R q (map_keyed_entries f es) ≡ option_map (f q) (find R q es)
  find-mapped q [] = refl
  find-mapped q (e ∷ es) = by (eq_by_cmp R q e.0) refl (find-mapped q es)
    where
      by : (b : Bool) → eq_by_cmp R q e.0 ≡ b → find R q (map_keyed_entries f es) ≡ option_map (f q) (find R q es) → cond b (Some (f e.0 e.1)) (find R q (map_keyed_entries f es)) ≡ option_map (f q) (cond b (Some e.1) (find R q es))
      by true t rest = ap Some (alike q e.0 t e.1)
      by false t rest = rest

  below-mapped : (x : K) (es : List (K × X)) → below_all R x (map_keyed_entries f es) ≡ below_all R x es
  below-mapped x [] = refl
  below-mapped x (e ∷ es) = ap (λ b. is_lt (R x e.0) && b) (below-mapped x es)

  sorted-mapped : (es : List (K × X)) → is_sorted R (map_keyed_entries f es) ≡ is_sorted R es
  sorted-mapped [] = refl
  sorted-mapped (e ∷ es) = λ i. below-mapped e.0 es i && sorted-mapped es i

  still_sorted : (m : FinMap R X) → T (is_sorted R (map_keyed_entries f (entries m)))
  still_sorted m = subst T (sym (sorted-mapped (entries m))) (entries_sorted m)

  get-mapped : (m : FinMap R X) (q : K) → get (map_keyed f m) q ≡ option_map (f q) (get m q)
  unfolding map_keyed
  get-mapped m q = get-from_sorted R (map_keyed_entries f (entries m)) q (still_sorted m) ∙ find-mapped q (entries m) ∙ ap (option_map (f q)) (sym (get-entries m q))

  entries-mapped : (m : FinMap R X) → entries (map_keyed f m) ≡ map_keyed_entries f (entries m)
  unfolding map_keyed
  entries-mapped m = entries-from_sorted R (map_keyed_entries f (entries m)) (still_sorted m)

  module _ (o : IsTotalOrder R) (exact : IsAntisymmetric R) where
    empty-mapped : map_keyed f (empty {R = R}) ≡ empty
    empty-mapped = same_map o exact _ _ (λ q. get-mapped empty q ∙ ap (option_map (f q)) (get-empty R q) ∙ sym (get-empty R q))

    -- to apply it after an insertion is to insert what it gives
    insert-mapped : (m : FinMap R X) (k : K) (v : X) → map_keyed f (insert m k v) ≡ insert (map_keyed f m) k (f k v)
    insert-mapped m k v = same_map o exact _ _ (λ q.
        get-mapped (insert m k v) q ∙ ap (option_map (f q)) (get-insert o m k v q) ∙ by q (eq_by_cmp R q k) refl (get-mapped m q) ∙ sym (get-insert o (map_keyed f m) k (f k v) q))
      where
        by : (q : K) (b : Bool) → eq_by_cmp R q k ≡ b → get (map_keyed f m) q ≡ option_map (f q) (get m q) → option_map (f q) (cond b (Some v) (get m q)) ≡ cond b (Some (f k v)) (get (map_keyed f m) q)
        by q true t e = ap Some (sym (alike q k t v))
        by q false t e = sym e

-- ---- of key and value, where keys that are tied are the same

module _ {K X Y : Type 0} (R : K → K → Ordering) (exact : IsAntisymmetric R) (f : K → X → Y) where
  alike : (q k : K) → eq_by_cmp R q k ≡ true → (x : X) → f k x ≡ f q x
  alike q k t x = ap (λ (n : K). f n x) (sym (exact q k ((Equal-is (R q k)).0 t)))

  pub get-map_keyed : (m : FinMap R X) (q : K) → get (map_keyed f m) q ≡ option_map (f q) (get m q)
  get-map_keyed = get-mapped R f alike

  pub entries-map_keyed : (m : FinMap R X) → entries (map_keyed f m) ≡ map_keyed_entries f (entries m)
  entries-map_keyed = entries-mapped R f alike

  pub map_keyed-empty : IsTotalOrder R → map_keyed f (empty {R = R}) ≡ empty
  map_keyed-empty o = empty-mapped R f alike o exact

  pub map_keyed-insert : IsTotalOrder R → (m : FinMap R X) (k : K) (v : X) → map_keyed f (insert m k v) ≡ insert (map_keyed f m) k (f k v)
  map_keyed-insert o = insert-mapped R f alike o exact

-- ---- of the value alone

module _ {K X Y : Type 0} (R : K → K → Ordering) (f : X → Y) where
  is_keyed : (m : FinMap R X) → map_values f m ≡ map_keyed (λ _ x. f x) m
  unfolding map_values map_keyed
  is_keyed m = refl

  pub get-map_values : (m : FinMap R X) (q : K) → get (map_values f m) q ≡ option_map f (get m q)
  get-map_values m q = ap (λ n. get n q) (is_keyed m) ∙ get-mapped R (λ _ x. f x) (λ q k t x. refl) m q

  pub entries-map_values : (m : FinMap R X) → entries (map_values f m) ≡ map_entries f (entries m)
  entries-map_values m = ap entries (is_keyed m) ∙ entries-mapped R (λ _ x. f x) (λ q k t x. refl) m

  pub map_values-empty : IsTotalOrder R → IsAntisymmetric R → map_values f (empty {R = R}) ≡ empty
  map_values-empty o exact = is_keyed empty ∙ empty-mapped R (λ _ x. f x) (λ q k t x. refl) o exact

  pub map_values-insert : IsTotalOrder R → IsAntisymmetric R → (m : FinMap R X) (k : K) (v : X) → map_values f (insert m k v) ≡ insert (map_values f m) k (f v)
  map_values-insert o exact m k v = is_keyed (insert m k v) ∙ insert-mapped R (λ _ x. f x) (λ q k t x. refl) o exact m k v ∙ ap (λ n. insert n k (f v)) (sym (is_keyed m))
