-- One more entry of a map, as tests of its entries see it; and the numbers of notices.
use Rattle.std.proofs.lemmas.Bool.Decides.{Decides-eqb}
use Rattle.std.proofs.Common.{◌≡◌, ◌==◌, is_some, ℕ, suc, ◌<◌, ◌≤◌, List, [], ◌∷◌, ◌++◌, Option, Some, None, Bool, true, false, ◌||◌, ◌&&◌, refl, sym, ◌∙◌, ap, subst, cond, arith}
use Rattle.std.specs.Prelude.{T, max, bytes_eq}
use Rattle.std.specs.Option.{option_or}
use Rattle.std.proofs.lemmas.List.Folds.{find-append, list_any-append}
use Rattle.std.specs.List as list
use Rattle.std.specs.List.{filter, list_any}
use Rattle.std.specs.Ordering.{is_eq, is_lt, ordering_reverse}
use Rattle.std.specs.Cmp.{IsTotalOrder, tied_itself, Equal-is}
use Rattle.std.specs.declared.cmp.Ordering.{Ordering}
use Rattle.std.specs.declared.cmp.Ordering.TheVariants.{Less, Equal, Greater}
use Rattle.std.specs.FinMap.{FinMap, IsAntisymmetric, entries, entries_sorted, entries-insert, get, get-entries, insert, find, put, is_sorted}
use Rattle.std.specs.FinMap.Entries.{below_all, by_order}
use Rattle.custody_records.specs.Keys.{NoticeKey, notice_cmp}
use Rattle.custody_records.specs.Records.{Notice}
use Rattle.custody_records.specs.inside.Orders.{notice_exact, notice_total}
use Rattle.custody_machine.specs.Machine.{greatest_number, next_number, next_key}
use Rattle.custody_machine.proofs.Options.{none_is, some_is}
use Rattle.custody_machine.proofs.SameValues.{text_decides}

split : (a b : Bool) → T (a && b) → T a × T b
split true b h = (tt, h)
split false b h = absurd h

less_is : (r : Ordering) → T (is_lt r) → r ≡ Less
less_is Less h = refl
less_is Equal h = absurd h
less_is Greater h = absurd h

or_left : (a b : Bool) → a ≡ true → (a || b) ≡ true
or_left true b q = refl
or_left false b q = cc

or_right : (a b : Bool) → b ≡ true → (a || b) ≡ true
or_right true b q = refl
or_right false b q = q

-- ---- lists of entries

module _ {K X : Type 0} where
  -- an entry passes where one is found that does
  pub any_is_found : (test : K × X → Bool) (es : List (K × X)) → list_any test es ≡ is_some (list.find test es)
  any_is_found test [] = refl
  any_is_found test (e ∷ es) = by (test e) (any_is_found test es)
    where
      by : (b : Bool) → list_any test es ≡ is_some (list.find test es) → (b || list_any test es) ≡ is_some (cond b (Some e) (list.find test es))
      by true rest = refl
      by false rest = rest

  pub found_where_any : (test : K × X → Bool) (es : List (K × X)) → list_any test es ≡ true → (e : K × X) × (list.find test es ≡ Some e)
  found_where_any test es h = some_is (list.find test es) (sym (any_is_found test es) ∙ h)

  pub none_found : (test : K × X → Bool) (es : List (K × X)) → list_any test es ≡ false → list.find test es ≡ None
  none_found test es h = none_is (list.find test es) (sym (any_is_found test es) ∙ h)

  -- what is found passes
  pub passes_found : (test : K × X → Bool) (es : List (K × X)) (e : K × X) → list.find test es ≡ Some e → test e ≡ true
  passes_found test [] e h = cc
  passes_found test (x ∷ es) e h = by (test x) refl h (passes_found test es e)
    where
      by : (b : Bool) → test x ≡ b → cond b (Some x) (list.find test es) ≡ Some e → (list.find test es ≡ Some e → test e ≡ true) → test e ≡ true
      by true t h rest = let same : x ≡ e = cc in ap test (sym same) ∙ t
      by false t h rest = rest h

module _ {K X : Type 0} (R : K → K → Ordering) where
  any_at : IsAntisymmetric R → (test : K × X → Bool) (q : K) (x : X) (es : List (K × X)) → find R q es ≡ Some x → test (q, x) ≡ true → list_any test es ≡ true
  any_at exact test q x [] h pass = cc
  any_at exact test q x (e ∷ es) h pass = by (is_eq (R q e.0)) refl h (any_at exact test q x es)
    where
      by : (b : Bool) → is_eq (R q e.0) ≡ b → cond b (Some e.1) (find R q es) ≡ Some x → (find R q es ≡ Some x → test (q, x) ≡ true → list_any test es ≡ true) → (test e || list_any test es) ≡ true
      by true t h rest =
          let key : q ≡ e.0 = exact q e.0 ((Equal-is (R q e.0)).0 t) in
          let value : e.1 ≡ x = cc in
          or_left (test e) _ ((λ i. test (sym key i, value i)) ∙ pass)
      by false t h rest = or_right (test e) _ (rest h pass)

  none_here : (k : K) (e : K × X) (es : List (K × X)) → find R k (e ∷ es) ≡ None → (is_eq (R k e.0) ≡ false) × (find R k es ≡ None)
  none_here k e es h = by (is_eq (R k e.0)) refl h
    where
      by : (b : Bool) → is_eq (R k e.0) ≡ b → cond b (Some e.1) (find R k es) ≡ None → (is_eq (R k e.0) ≡ false) × (find R k es ≡ None)
      by true t h = cc
      by false t h = (t, h)

  -- a new entry is put between those from before
  abbrev IsPut : K → X → List (K × X) → List (K × X) → Type 0
  IsPut k v es then = (xs : List (K × X)) × (ys : List (K × X)) × (es ≡ xs ++ ys) × (then ≡ xs ++ (k, v) ∷ ys)

  put_between : (k : K) (v : X) (es : List (K × X)) → find R k es ≡ None → IsPut k v es (put R k v es)
  put_between k v [] h = ([], [], refl, refl)
  put_between k v (e ∷ es) h = let n = none_here k e es h in by (R k e.0) n.0 (put_between k v es n.1)
    where
      by : (r : Ordering) → is_eq r ≡ false → IsPut k v es (put R k v es) → IsPut k v (e ∷ es) (by_order r ((k, v) ∷ e ∷ es) ((e.0, v) ∷ es) (e ∷ put R k v es))
      by Less q rest = ([], e ∷ es, refl, refl)
      by Equal q rest = cc
      by Greater q rest = (e ∷ rest.0, rest.1, ap (λ l. e ∷ l) rest.2, ap (λ l. e ∷ l) rest.3)

  module _ (test : K × X → Bool) (k : K) (v : X) (es : List (K × X)) (new : find R k es ≡ None) where
    place : IsPut k v es (put R k v es)
    place = put_between k v es new

    any_put : list_any test (put R k v es) ≡ (test (k, v) || list_any test es)
    any_put = ap (list_any test) place.3 ∙ list_any-append test place.0 ((k, v) ∷ place.1) ∙ swap (list_any test place.0) (test (k, v)) (list_any test place.1)
        ∙ ap (λ b. test (k, v) || b) (sym (ap (list_any test) place.2 ∙ list_any-append test place.0 place.1))
      where
        swap : (a b c : Bool) → (a || (b || c)) ≡ (b || (a || c))
        swap true true c = refl
        swap true false c = refl
        swap false b c = refl

    found_before : list.find test es ≡ option_or (list.find test place.0) (list.find test place.1)
    found_before = ap (list.find test) place.2 ∙ find-append test place.0 place.1

    found_then : (b : Bool) → test (k, v) ≡ b → list.find test (put R k v es) ≡ option_or (list.find test place.0) (cond b (Some (k, v)) (list.find test place.1))
    found_then b is = ap (list.find test) place.3 ∙ find-append test place.0 ((k, v) ∷ place.1) ∙ ap (λ c. option_or (list.find test place.0) (cond c (Some (k, v)) (list.find test place.1))) is

    -- a new entry is found, where no other passes
    found_new : test (k, v) ≡ true → list.find test es ≡ None → list.find test (put R k v es) ≡ Some (k, v)
    found_new pass left = found_then true pass ∙ ap (λ o. option_or o (Some (k, v))) (none_before _ _ (sym found_before ∙ left))
      where
        none_before : (a b : Option (K × X)) → option_or a b ≡ None → a ≡ None
        none_before None b e = refl
        none_before (Some x) b e = cc

  module _ (o : IsTotalOrder R) where
    -- the key of an entry that is found behind is above
    above : (x : K) (test : K × X → Bool) (es : List (K × X)) (e : K × X) → T (below_all R x es) → list.find test es ≡ Some e → R x e.0 ≡ Less
    above x test [] e h f = cc
    above x test (y ∷ es) e h f = by (test y) f (above x test es e (split _ _ h).1)
      where
        by : (b : Bool) → cond b (Some y) (list.find test es) ≡ Some e → (list.find test es ≡ Some e → R x e.0 ≡ Less) → R x e.0 ≡ Less
        by true f rest = let same : y ≡ e = cc in ap (λ (z : K × X). R x z.0) (sym same) ∙ less_is _ (split _ _ h).0
        by false f rest = rest f

    at_found : (test : K × X → Bool) (es : List (K × X)) (e : K × X) → T (is_sorted R es) → list.find test es ≡ Some e → find R e.0 es ≡ Some e.1
    at_found test [] e h f = cc
    at_found test (x ∷ es) e h f = by (test x) f (at_found test es e (split _ _ h).1)
      where
        by : (b : Bool) → cond b (Some x) (list.find test es) ≡ Some e → (list.find test es ≡ Some e → find R e.0 es ≡ Some e.1) → cond (is_eq (R e.0 x.0)) (Some x.1) (find R e.0 es) ≡ Some e.1
        by true f rest =
            let same : x ≡ e = cc in
            ap (λ (z : K × X). cond (is_eq (R e.0 z.0)) (Some z.1) (find R e.0 es)) same ∙ ap (λ r. cond (is_eq r) (Some e.1) (find R e.0 es)) (tied_itself o e.0)
        by false f rest =
            let greater : R e.0 x.0 ≡ Greater = o.antisymm e.0 x.0 ∙ ap ordering_reverse (above x.0 test es e (split _ _ h).0 f) in
            ap (λ r. cond (is_eq r) (Some x.1) (find R e.0 es)) greater ∙ rest f

-- ---- of a map

module _ {K X : Type 0} {R : K → K → Ordering} (o : IsTotalOrder R) (m : FinMap R X) where
  pub get_found : (test : K × X → Bool) (e : K × X) → list.find test (entries m) ≡ Some e → get m e.0 ≡ Some e.1
  get_found test e f = get-entries m e.0 ∙ at_found R o test (entries m) e (entries_sorted m) f

  pub any_of_get : IsAntisymmetric R → (test : K × X → Bool) (q : K) (x : X) → get m q ≡ Some x → test (q, x) ≡ true → list_any test (entries m) ≡ true
  any_of_get exact test q x at pass = any_at R exact test q x (entries m) (sym (get-entries m q) ∙ at) pass

  module _ (k : K) (v : X) (new : get m k ≡ None) where
    none : find R k (entries m) ≡ None
    none = sym (get-entries m k) ∙ new

    -- what passed before passes still
    pub any_insert_grows : (test : K × X → Bool) → list_any test (entries m) ≡ true → list_any test (entries (insert m k v)) ≡ true
    any_insert_grows test h = ap (list_any test) (entries-insert o m k v) ∙ any_put R test k v (entries m) none ∙ or_right (test (k, v)) _ h

    -- an entry that does not pass changes nothing
    pub any_insert : (test : K × X → Bool) → test (k, v) ≡ false → list_any test (entries (insert m k v)) ≡ list_any test (entries m)
    any_insert test miss = ap (list_any test) (entries-insert o m k v) ∙ any_put R test k v (entries m) none ∙ ap (λ b. b || list_any test (entries m)) miss

    pub find_insert : (test : K × X → Bool) → test (k, v) ≡ false → list.find test (entries (insert m k v)) ≡ list.find test (entries m)
    find_insert test miss = ap (list.find test) (entries-insert o m k v) ∙ found_then R test k v (entries m) none false miss ∙ sym (found_before R test k v (entries m) none)

    pub find_new : (test : K × X → Bool) → test (k, v) ≡ true → list.find test (entries m) ≡ None → list.find test (entries (insert m k v)) ≡ Some (k, v)
    find_new test pass left = ap (list.find test) (entries-insert o m k v) ∙ found_new R test k v (entries m) none pass left

-- ---- numbers of notices

abbrev of_tld : List ℕ → NoticeKey × Notice → Bool
of_tld tld entry = bytes_eq entry.0.tld tld

max_above : (a b : ℕ) → (a ≤ max a b) × (b ≤ max a b)
max_above a b = (omega arith, omega arith)

not_above : (tld : List ℕ) (q : NoticeKey) (es : List (NoticeKey × Notice)) → q.tld ≡ tld → greatest_number (filter (of_tld tld) es) < q.number → find notice_cmp q es ≡ None
not_above tld q [] is lt = refl
not_above tld q (e ∷ es) is lt = by (of_tld tld e) refl (is_eq (notice_cmp q e.0)) refl lt (not_above tld q es is)
  where
    by : (b : Bool) → of_tld tld e ≡ b → (t : Bool) → is_eq (notice_cmp q e.0) ≡ t → greatest_number (cond b (e ∷ filter (of_tld tld) es) (filter (of_tld tld) es)) < q.number → (greatest_number (filter (of_tld tld) es) < q.number → find notice_cmp q es ≡ None) → cond t (Some e.1) (find notice_cmp q es) ≡ None
    by b p true t lt rest =
        let same : q ≡ e.0 = notice_exact q e.0 ((Equal-is (notice_cmp q e.0)).0 t) in
        let there : of_tld tld e ≡ true = (text_decides e.0.tld tld).1 (ap (λ (k : NoticeKey). k.tld) (sym same) ∙ is) in
        let low : max e.0.number (greatest_number (filter (of_tld tld) es)) < q.number = subst (λ c. greatest_number (cond c (e ∷ filter (of_tld tld) es) (filter (of_tld tld) es)) < q.number) (sym p ∙ there) lt in
        let number : q.number ≡ e.0.number = ap (λ (k : NoticeKey). k.number) same in
        let above = (max_above e.0.number (greatest_number (filter (of_tld tld) es))).0 in
        absurd (omega (arith, low, number, above))
    by true p false t lt rest = let above = (max_above e.0.number (greatest_number (filter (of_tld tld) es))).1 in rest (omega (arith, lt, above))
    by false p false t lt rest = rest lt

-- the next number of a registry is that of no notice
pub next_is_new : (notices : FinMap notice_cmp Notice) (tld : List ℕ) → get notices (next_key notices tld) ≡ None
next_is_new notices tld = get-entries notices (next_key notices tld) ∙ not_above tld (next_key notices tld) (entries notices) refl (omega arith)

-- the greatest number, where there is one, is that of a notice of the registry
greatest_there : (tld : List ℕ) (n : ℕ) (es : List (NoticeKey × Notice)) → greatest_number (filter (of_tld tld) es) ≡ suc n → list_any (λ (e : NoticeKey × Notice). of_tld tld e && (e.0.number == suc n)) es ≡ true
greatest_there tld n [] h = absurd (omega (arith, h))
greatest_there tld n (e ∷ es) h = by (of_tld tld e) (e.0.number == suc n) refl h (greatest_there tld n es)
  where
    by : (b t : Bool) → (e.0.number == suc n) ≡ t → greatest_number (cond b (e ∷ filter (of_tld tld) es) (filter (of_tld tld) es)) ≡ suc n
        → (greatest_number (filter (of_tld tld) es) ≡ suc n → list_any (λ (e : NoticeKey × Notice). of_tld tld e && (e.0.number == suc n)) es ≡ true)
        → ((b && t) || list_any (λ (e : NoticeKey × Notice). of_tld tld e && (e.0.number == suc n)) es) ≡ true
    by true true is h rest = refl
    by true false is h rest = rest (other e.0.number (greatest_number (filter (of_tld tld) es)) h (λ same. absurd (differ (sym is ∙ (Decides-eqb e.0.number (suc n)).1 same))))
      where
        differ : false ≡ true → ⊥
        differ p = cc

        other : (a b : ℕ) → max a b ≡ suc n → (a ≡ suc n → ⊥) → b ≡ suc n
        other a b e no_a = omega (arith, e, no_a)
    by false t is h rest = rest h

pub number_before : (notices : FinMap notice_cmp Notice) (tld : List ℕ) (n : ℕ) → next_number notices tld ≡ suc (suc n) → is_some (get notices (record { tld = tld; number = suc n })) ≡ true
number_before notices tld n h =
    let greatest : greatest_number (filter (of_tld tld) (entries notices)) ≡ suc n = omega (arith, h) in
    let test : NoticeKey × Notice → Bool = λ e. of_tld tld e && (e.0.number == suc n) in
    let found = found_where_any (λ (e : NoticeKey × Notice). of_tld tld e && (e.0.number == suc n)) (entries notices) (greatest_there tld n (entries notices) greatest) in
    let passes = both_of _ _ (passes_found (λ (e : NoticeKey × Notice). of_tld tld e && (e.0.number == suc n)) (entries notices) found.0 found.1) in
    let key : found.0.0 ≡ record { tld = tld; number = suc n } = λ i. record { tld = (text_decides found.0.0.tld tld).0 passes.0 i; number = (Decides-eqb found.0.0.number (suc n)).0 passes.1 i } in
    ap (λ k. is_some (get notices k)) (sym key) ∙ ap is_some (get_found notice_total notices (λ (e : NoticeKey × Notice). of_tld tld e && (e.0.number == suc n)) found.0 found.1)
  where
    both_of : (a b : Bool) → (a && b) ≡ true → (a ≡ true) × (b ≡ true)
    both_of true b h = (refl, h)
    both_of false b h = cc
