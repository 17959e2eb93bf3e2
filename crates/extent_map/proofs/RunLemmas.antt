-- Runs of free blocks, collected one after the other.
use Rattle.std.proofs.Common.{◌≡◌, ◌≢◌, ◌⊎◌, inl, inr, ⊎_elim, ℕ, zero, suc, ◌+◌, ◌-◌, ◌<◌, ◌≤◌, List, [], ◌∷◌, ◌++◌, length, take, get_or, sym, ap, subst, arith, ◌∙◌}
use Rattle.std.specs.Prelude.{All}
use Rattle.std.proofs.lemmas.Bool.{cases_lt, cases_eq}
use Rattle.std.proofs.lemmas.List.{take_more}
use Rattle.std.proofs.lemmas.List.Elements.{All-nil, All-push}
use Rattle.std.proofs.lemmas.List.Sums.{sum_by_push}
use Rattle.std.proofs.lemmas.List.Quantifiers.{all_pairs_push}
use Rattle.extent_map.specs.Words.{bit, one_count, IsOneIn}
use Rattle.extent_map.specs.Extents.{AllIn, AreApart, AreRising, blocks_of, IsExtentOf, IsFreeRun, IsIn, IsInAny, Takes, HasAtLeast, HasCount, HasFewer}
use Rattle.extent_map.specs.declared.extent.Extent.{Extent}
use Rattle.extent_map.proofs.BitLemmas.{none_is}
use Rattle.extent_map.proofs.SetLemmas.{apart_last, in_either, in_more, is_in_one}

-- ---- how many bits are 1 up to a place

ones_mono : (words : List ℕ) (m n : ℕ) → m ≤ n → one_count words m ≤ one_count words n
ones_mono words m zero le = let e : m ≡ zero = omega arith in subst (λ k. one_count words k ≤ one_count words zero) (sym e) (omega arith)
ones_mono words m (suc n) le = ⊎_elim
    (λ (same : m ≡ suc n). subst (λ k. one_count words k ≤ one_count words (suc n)) (sym same) (omega arith))
    (λ (other : m ≢ suc n). more (one_count words m) (bit words n) (one_count words n) (ones_mono words m n (omega (arith, le, other))))
    (cases_eq m (suc n))
  where
    more : (a b c : ℕ) → a ≤ c → a ≤ b + c
    more a b c le = omega arith

-- where more bits are 1 below n than below a place, one is 1 from there on
pub one_from : (words : List ℕ) (from n : ℕ) → one_count words from < one_count words n → (b : ℕ) × (from ≤ b) × IsOneIn words b
one_from words from zero lt = absurd (omega arith)
one_from words from (suc n) lt = ⊎_elim
    (λ (below : n < from). let le = ones_mono words (suc n) from (omega arith) in absurd (omega (arith, le, lt)))
    (λ (le : from ≤ n). ⊎_elim
    (λ (one : bit words n ≡ 1). (n, le, one))
    (λ (other : bit words n ≢ 1). one_from words from n (less (one_count words from) (bit words n) (one_count words n) (none_is words n other) lt))
    (cases_eq (bit words n) 1))
    (cases_lt n from)
  where
    less : (a b c : ℕ) → b ≡ 0 → a < b + c → a < c
    less a b c none lt = omega arith

ones_gap : (words : List ℕ) (m n : ℕ) → m ≤ n → ((b : ℕ) → m ≤ b → b < n → ¬ IsOneIn words b) → one_count words n ≡ one_count words m
ones_gap words m zero le none = let e : m ≡ zero = omega arith in ap (one_count words) (sym e)
ones_gap words m (suc n) le none = ⊎_elim
    (λ (same : m ≡ suc n). ap (one_count words) (sym same))
    (λ (other : m ≢ suc n).
    let low : m ≤ n = omega (arith, le, other) in
    plus (bit words n) (one_count words n) (one_count words m) (none_is words n (none n low (omega arith))) (ones_gap words m n low (λ b from to. none b from (omega (arith, to)))))
    (cases_eq m (suc n))
  where
    plus : (a b c : ℕ) → a ≡ 0 → b ≡ c → a + b ≡ c
    plus a b c p q = omega arith

ones_run : (words : List ℕ) (m n : ℕ) → m ≤ n → ((b : ℕ) → m ≤ b → b < n → IsOneIn words b) → one_count words n ≡ one_count words m + (n - m)
ones_run words m zero le all =
    let e : m ≡ zero = omega arith in
    subst (λ k. one_count words zero ≡ one_count words k + (zero - k)) (sym e) (omega arith)
ones_run words m (suc n) le all = ⊎_elim
    (λ (same : m ≡ suc n). same_end (one_count words (suc n)) (one_count words m) m (suc n) (ap (one_count words) (sym same)) same)
    (λ (other : m ≢ suc n).
    let low : m ≤ n = omega (arith, le, other) in
    plus (bit words n) (one_count words n) (one_count words m) m n low (all n low (omega arith)) (ones_run words m n low (λ b from to. all b from (omega (arith, to)))))
    (cases_eq m (suc n))
  where
    same_end : (a b m n : ℕ) → a ≡ b → m ≡ n → a ≡ b + (n - m)
    same_end a b m n p q = omega arith

    plus : (a b c m n : ℕ) → m ≤ n → a ≡ 1 → b ≡ c + (n - m) → a + b ≡ c + (suc n - m)
    plus a b c m n le p q = omega arith

-- ---- extents that are collected

pub below_end : (es : List Extent) (from : ℕ) → All (λ e. e.start + e.count ≤ from) es → (b : ℕ) → IsInAny es b → b < from
below_end [] from ended b none = absurd none
below_end (e ∷ es) from ended b (inl here) = let le = ended zero e (omega arith) in let lt = here.1 in omega (arith, le, lt)
below_end (e ∷ es) from ended b (inr there) = below_end es from (λ k d lt. ended (suc k) d (omega (arith, lt))) b there

-- the runs are all that is free below a block, and so many blocks are still to be found from there on
pub record IsCollected (words : List ℕ) (size count : ℕ) (runs : List Extent) (left from : ℕ) : Type 0 where
  pub within : All (IsExtentOf size) runs
  pub free : AllIn (IsOneIn words) runs
  pub total : blocks_of runs + left ≡ count
  pub apart : AreApart runs
  pub rising : AreRising runs
  pub ended : All (λ e. e.start + e.count ≤ from) runs
  pub none_left : (b : ℕ) → b < from → IsOneIn words b → IsInAny runs b
  pub counted : one_count words from + left ≡ count
  pub stop : 0 < left → ¬ IsOneIn words from
  pub small : from ≤ size

pub collect_none : (words : List ℕ) (size count : ℕ) → ¬ IsOneIn words 0 → IsCollected words size count [] count 0
collect_none words size count none = record {
  within = All-nil (IsExtentOf size);
  free = λ b i. absurd i;
  total = omega arith;
  apart = tt;
  rising = λ i j d lt high. absurd (omega (arith, high));
  ended = All-nil (λ e. e.start + e.count ≤ 0);
  none_left = λ b lt is. absurd (omega (arith, lt));
  counted = omega arith;
  stop = λ _. none;
  small = omega arith;
}

module _ (words : List ℕ) (size count : ℕ) (runs : List Extent) (left from : ℕ) (before : IsCollected words size count runs left from) (some : 0 < left)
    (e : Extent) (within : IsExtentOf size e) (ahead : from ≤ e.start) (gap : (b : ℕ) → from ≤ b → b < e.start → ¬ IsOneIn words b)
    (run : IsFreeRun (IsOneIn words) e.start e.count) (most : e.count ≤ left) (stop : e.count < left → ¬ IsOneIn words (e.start + e.count)) where
  -- a block that is not free lies before the run
  past : from < e.start
  past = ⊎_elim
      (λ (lt : from < e.start). lt)
      (λ (le : e.start ≤ from). absurd (before.stop some (run from le (omega (arith, ahead, le, within.1)))))
      (cases_lt from e.start)

  counts : one_count words (e.start + e.count) ≡ one_count words from + e.count
  counts =
      let over = ones_gap words from e.start ahead gap in
      let here = ones_run words e.start (e.start + e.count) (omega arith) run in
      omega (arith, over, here)

  pub collect_more : IsCollected words size count (runs ++ e ∷ []) (left - e.count) (e.start + e.count)
  collect_more = record {
    within = All-push (IsExtentOf size) runs e before.within within;
    free = λ b i. ⊎_elim (λ (j : IsInAny runs b). before.free b j) (λ (j : IsIn e b). run b j.0 j.1) (in_more runs e b i);
    total = let sum = sum_by_push (λ (e : Extent). e.count) runs e in omega (arith, sum, before.total, most);
    apart = apart_last runs e before.apart (λ b i there. let lt = below_end runs from before.ended b there in absurd (omega (arith, lt, i.0, ahead)));
    rising = all_pairs_push (λ (e later : Extent). e.start + e.count < later.start) runs e before.rising (λ k d lt. let le = before.ended k d lt in omega (arith, le, past));
    ended = All-push (λ (x : Extent). x.start + x.count ≤ e.start + e.count) runs e (λ k d lt. let le = before.ended k d lt in omega (arith, le, ahead)) (omega arith);
    none_left = λ b lt is. ⊎_elim
        (λ (low : b < from). in_either runs e b (inl (before.none_left b low is)))
        (λ (le : from ≤ b). ⊎_elim
        (λ (low : b < e.start). absurd (gap b le low is))
        (λ (at : e.start ≤ b). in_either runs e b (inr (at, lt)))
        (cases_lt b e.start))
        (cases_lt b from);
    counted = omega (arith, counts, before.counted, most);
    stop = λ more. stop (omega (arith, more, most));
    small = within.2;
  }

-- ---- extents that are taken in turn

pub takes_next : (es : List Extent) (i : ℕ) (d : Extent) (old mid new : ℕ → Type 0) → i < length es → Takes old (take i es) mid → Takes mid (get_or es i d ∷ []) new
    → Takes old (take (i + 1) es) new
takes_next es i d old mid new lt before last b =
    let next = take_more es i d lt in
    let e = get_or es i d in (
      λ is.
          let was = (last b).0 is in
          let first = (before b).0 was.0 in
          (first.0, λ there. ⊎_elim (λ (j : IsInAny (take i es) b). first.1 j) (λ (j : IsIn e b). was.1 (inl j)) (in_more (take i es) e b (subst (λ l. IsInAny l b) next there))),
      λ was out.
          let add = λ (j : IsInAny (take i es) b ⊎ IsIn e b). out (subst (λ l. IsInAny l b) (sym next) (in_either (take i es) e b j)) in
          (last b).1 ((before b).1 was (λ j. add (inl j))) (λ j. add (inr (is_in_one e b j))),
    )

-- ---- a set has one count

pub count_same : (set : ℕ → Type 0) (n a b : ℕ) → HasCount set n a → HasCount set n b → a ≡ b
count_same set zero a b p q = p ∙ sym q
count_same set (suc n) a b (inl p) (inl q) = p.2 ∙ ap (λ k. k + 1) (count_same set n p.1 q.1 p.3 q.3) ∙ sym q.2
count_same set (suc n) a b (inl p) (inr q) = absurd (q.0 p.0)
count_same set (suc n) a b (inr p) (inl q) = absurd (p.0 q.0)
count_same set (suc n) a b (inr p) (inr q) = count_same set n a b p.1 q.1

-- fewer and at least are not both so
pub not_both : (set : ℕ → Type 0) (n count : ℕ) → HasFewer set n count → ¬ HasAtLeast set n count
not_both set n count few many = let same = count_same set n few.0 many.0 few.1 many.1 in let lt = few.2 in let le = many.2 in omega arith

-- and so has a set of the same blocks
pub count_over : (set other : ℕ → Type 0) → ((b : ℕ) → (set b → other b) × (other b → set b)) → (n count : ℕ) → HasCount set n count → HasCount other n count
count_over set other same zero count h = h
count_over set other same (suc n) count (inl h) = inl ((same n).0 h.0, h.1, h.2, count_over set other same n h.1 h.3)
count_over set other same (suc n) count (inr h) = inr ((λ is. h.0 ((same n).1 is)), count_over set other same n count h.1)
