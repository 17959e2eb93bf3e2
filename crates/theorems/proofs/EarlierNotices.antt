-- The notices of a registry before one of them, and what is read in notices of one registry.
use Rattle.std.proofs.Common.{◌≡◌, ℕ, ◌<◌, List, [], ◌∷◌, Some, None, Bool, true, false, ◌&&◌, refl, sym, ◌∙◌, ap, cond, arith, if◌then◌else◌, ◌==◌}
use Rattle.std.specs.Prelude.{bytes_eq, nat_lt, option_map}
use Rattle.std.specs.List.{filter, filter_map, list_any}
use Rattle.std.specs.Ordering.{is_eq}
use Rattle.std.specs.Cmp.{IsTotalOrder, Equal-is}
use Rattle.std.specs.declared.cmp.Ordering.{Ordering}
use Rattle.std.specs.declared.cmp.Ordering.TheVariants.{Less, Equal, Greater}
use Rattle.std.specs.FinMap.{FinMap, entries, entries_sorted, entries-insert, entries-from_sorted, from_sorted, get, get-entries, insert, find, put}
use Rattle.std.specs.FinMap.Entries.{by_order, is_sorted-where_key}
use Rattle.std.proofs.lemmas.Bool.Decides.{Decides-ltb}
use Rattle.desk.specs.declared.notices.NoticeKind.{NoticeKind}
use Rattle.custody_records.specs.Keys.{NoticeKey, notice_cmp}
use Rattle.custody_records.specs.Records.{Notice}
use Rattle.custody_records.specs.inside.Orders.{notice_exact, notice_total}
use Rattle.custody_machine.specs.State.{is_notice_of}
use Rattle.custody_machine.specs.Machine.{greatest_number, next_number, next_key, passed_deposit, passed_id}
use Rattle.custody_machine.specs.Explaining.{is_before, notices_before}
use Rattle.custody_machine.proofs.Entries.{next_is_new}
use Rattle.custody_machine.proofs.SameValues.{text_decides}
use Rattle.theorems.proofs.AlikeLists.{any_of_kept, some_of_kept, some_that_pass}

-- ---- a new entry that does not pass

module _ {K X : Type 0} (R : K → K → Ordering) (test : K × X → Bool) (k : K) (v : X) (misses : test (k, v) ≡ false) where
  left_out : (es : List (K × X)) → find R k es ≡ None → filter test (put R k v es) ≡ filter test es
  left_out [] none = ap (λ b. cond b ((k, v) ∷ []) []) misses
  left_out (e ∷ es) none = by (R k e.0) none (left_out es)
    where
      by : (r : Ordering) → cond (is_eq r) (Some e.1) (find R k es) ≡ None → (find R k es ≡ None → filter test (put R k v es) ≡ filter test es)
          → filter test (by_order r ((k, v) ∷ e ∷ es) ((e.0, v) ∷ es) (e ∷ put R k v es)) ≡ filter test (e ∷ es)
      by Less none rest = ap (λ b. cond b ((k, v) ∷ filter test (e ∷ es)) (filter test (e ∷ es))) misses
      by Equal none rest = cc
      by Greater none rest = ap (λ l. cond (test e) (e ∷ l) l) (rest none)

pub new_left_out : {K X : Type 0} {R : K → K → Ordering} → IsTotalOrder R → (m : FinMap R X) (k : K) (v : X) → get m k ≡ None → (test : K × X → Bool) → test (k, v) ≡ false → filter test (entries (insert m k v)) ≡ filter test (entries m)
new_left_out {R = R} o m k v new test misses = ap (filter test) (entries-insert o m k v) ∙ left_out R test k v misses (entries m) (sym (get-entries m k) ∙ new)

-- ---- the notices before one

pub entries_before : (notices : FinMap notice_cmp Notice) (key : NoticeKey) → entries (notices_before notices key) ≡ filter (is_before key) (entries notices)
unfolding notices_before
entries_before notices key = entries-from_sorted notice_cmp (filter (is_before key) (entries notices)) (is_sorted-where_key notice_cmp (λ (k : NoticeKey). bytes_eq k.tld key.tld && nat_lt k.number key.number) (entries notices) (entries_sorted notices))

pub before_alike : (a b : FinMap notice_cmp Notice) (key : NoticeKey) → filter (is_before key) (entries a) ≡ filter (is_before key) (entries b) → notices_before a key ≡ notices_before b key
unfolding notices_before
before_alike a b key e = ap (from_sorted {R = notice_cmp}) e

abbrev pub of_tld : List ℕ → NoticeKey × Notice → Bool
of_tld tld entry = bytes_eq entry.0.tld tld

all_below : (tld : List ℕ) (n : ℕ) (es : List (NoticeKey × Notice)) → greatest_number (filter (of_tld tld) es) < n → filter (is_before (record { tld = tld; number = n })) es ≡ filter (of_tld tld) es
all_below tld n [] lt = refl
all_below tld n (e ∷ es) lt = by (of_tld tld e) lt (all_below tld n es)
  where
    by : (b : Bool) → greatest_number (cond b (e ∷ filter (of_tld tld) es) (filter (of_tld tld) es)) < n → (greatest_number (filter (of_tld tld) es) < n → filter (is_before (record { tld = tld; number = n })) es ≡ filter (of_tld tld) es)
        → cond (b && nat_lt e.0.number n) (e ∷ filter (is_before (record { tld = tld; number = n })) es) (filter (is_before (record { tld = tld; number = n })) es) ≡ cond b (e ∷ filter (of_tld tld) es) (filter (of_tld tld) es)
    by true lt rest =
        let low : nat_lt e.0.number n ≡ true = (Decides-ltb e.0.number n).1 (omega (arith, lt)) in
        (λ i. cond (low i) (e ∷ rest (omega (arith, lt)) i) (rest (omega (arith, lt)) i))
    by false lt rest = rest lt

not_above : (tld : List ℕ) (q : NoticeKey) (es : List (NoticeKey × Notice)) → q.tld ≡ tld → greatest_number (filter (of_tld tld) es) < q.number → find notice_cmp q es ≡ None
not_above tld q [] is lt = refl
not_above tld q (e ∷ es) is lt = by (of_tld tld e) refl (is_eq (notice_cmp q e.0)) refl lt (not_above tld q es is)
  where
    by : (b : Bool) → of_tld tld e ≡ b → (t : Bool) → is_eq (notice_cmp q e.0) ≡ t → greatest_number (cond b (e ∷ filter (of_tld tld) es) (filter (of_tld tld) es)) < q.number → (greatest_number (filter (of_tld tld) es) < q.number → find notice_cmp q es ≡ None) → cond t (Some e.1) (find notice_cmp q es) ≡ None
    by true p true t lt rest =
        let same : q ≡ e.0 = notice_exact q e.0 ((Equal-is (notice_cmp q e.0)).0 t) in
        let number : q.number ≡ e.0.number = ap (λ (k : NoticeKey). k.number) same in
        absurd (omega (arith, lt, number))
    by false p true t lt rest =
        let same : q ≡ e.0 = notice_exact q e.0 ((Equal-is (notice_cmp q e.0)).0 t) in
        let there : of_tld tld e ≡ true = (text_decides e.0.tld tld).1 (ap (λ (k : NoticeKey). k.tld) (sym same) ∙ is) in
        let clash : true ≡ false = sym there ∙ p in cc
    by true p false t lt rest = rest (omega (arith, lt))
    by false p false t lt rest = rest lt

module _ (notices : FinMap notice_cmp Notice) (tld : List ℕ) (notice : Notice) where
  abbrev key : NoticeKey
  key = next_key notices tld

  abbrev noticed : FinMap notice_cmp Notice
  noticed = insert notices key notice

  not_before_itself : is_before key (key, notice) ≡ false
  not_before_itself = by (bytes_eq tld tld) (nat_lt key.number key.number) refl
    where
      by : (a b : Bool) → nat_lt key.number key.number ≡ b → (a && b) ≡ false
      by true true e = let lt : key.number < key.number = (Decides-ltb key.number key.number).0 e in absurd (omega (arith, lt))
      by true false e = refl
      by false b e = refl

  -- before a new notice are all of its registry
  pub before_new : entries (notices_before noticed key) ≡ filter (of_tld tld) (entries notices)
  before_new = entries_before noticed key ∙ new_left_out notice_total notices key notice (next_is_new notices tld) (is_before key) not_before_itself ∙ all_below tld (next_number notices tld) (entries notices) (omega arith)

  -- and before an older one those that were
  pub before_older : (q : NoticeKey) (n : Notice) → get notices q ≡ Some n → notices_before noticed q ≡ notices_before notices q
  before_older q n at = before_alike noticed notices q (new_left_out notice_total notices key notice (next_is_new notices tld) (is_before q) (not_before (bytes_eq tld q.tld) refl (nat_lt key.number q.number) refl))
    where
      not_before : (a : Bool) → bytes_eq tld q.tld ≡ a → (b : Bool) → nat_lt key.number q.number ≡ b → (a && b) ≡ false
      not_before true same true e =
          let lt : key.number < q.number = (Decides-ltb key.number q.number).0 e in
          let none : get notices q ≡ None = get-entries notices q ∙ not_above tld q (entries notices) (sym ((text_decides tld q.tld).0 same)) (omega (arith, lt)) in
          let clash : None ≡ Some n = sym none ∙ at in cc
      not_before true same false e = refl
      not_before false same b e = refl

-- ---- what is read in the notices of one registry

module _ (tld : List ℕ) (es : List (NoticeKey × Notice)) where
  pub told_of_tld : (day : ℕ) (test : NoticeKind → Bool) → list_any (is_notice_of tld day test) (filter (of_tld tld) es) ≡ list_any (is_notice_of tld day test) es
  told_of_tld day test = any_of_kept (of_tld tld) (is_notice_of tld day test) (λ e other. ap (λ b. b && (e.1.day == day && test e.1.kind)) other) es

  none_passed : (e : NoticeKey × Notice) → of_tld tld e ≡ false → passed_deposit tld e ≡ None
  none_passed e other = ap (λ b. if b then option_map (λ (id : List ℕ). (e.1.day, id)) (passed_id e.1.kind) else None) other

  pub passed_of_tld : filter_map (passed_deposit tld) (filter (of_tld tld) es) ≡ filter_map (passed_deposit tld) es
  passed_of_tld = some_of_kept (of_tld tld) (passed_deposit tld) none_passed es

  pub passed_tests_of_tld : (test : NoticeKey × Notice → Bool) → filter_map (passed_deposit tld) (filter test (filter (of_tld tld) es)) ≡ filter_map (passed_deposit tld) (filter test es)
  passed_tests_of_tld test = some_that_pass (of_tld tld) (passed_deposit tld) none_passed test es
