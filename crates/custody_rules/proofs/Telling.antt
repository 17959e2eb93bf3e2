-- What notices tell, as it is gathered from the first of them on.
use Rattle.std.proofs.Common.{◌≡◌, ◌↔◌, ◌⊎◌, inl, inr, ℕ, ◌+◌, ◌<◌, ◌≤◌, List, length, Bool, true, false, cond, Option, Some, None, Bor, refl, sym, ◌∙◌, ap, arith}
use Rattle.std.specs.Iterator.{Yields, YieldsFirstRef}
use Rattle.std.specs.List.{slice_get}
use Rattle.std.specs.Cmp.{IsTotalOrder, Equal-is}
use Rattle.std.proofs.Math.Nat.{eq-or-lt_of_le}
use Rattle.std.specs.declared.cmp.Ordering.{Ordering}
use Rattle.std.specs.BTreeMap.{is_at}
use Rattle.std.proofs.lemmas.Cmp.{tied_itself}
use Rattle.std.proofs.lemmas.Iterator.Consumers.{YieldsList-from_first, YieldsList-turn, YieldsList-end}
use Rattle.std.proofs.lemmas.Map.Lookups.{CmpEqualImpliesEq}
use Rattle.std.proofs.lemmas.Option.{slice_get_read, slice_get_within}
use Rattle.desk.specs.declared.notices.Notice.{Notice}
use Rattle.custody_rules.specs.inside.UniqueKeys.{IsKeyAmong, HaveUniqueKeys}

-- the place of what an iterator gives among all that it had, and that it ends at the last
module _ {S A : Type 0} (rest : S → List A) (all : List A) {s : S} (began : rest s ≡ all) (yielded : List (Bor A)) (t : S) (given : Yields (YieldsFirstRef rest) s yielded t) (r : Option (Bor A)) (u : S) (steps : YieldsFirstRef rest t r u) where
  pub next_stands : (x : Bor A) → r ≡ Some x → slice_get all (length yielded) ≡ Some x.now
  next_stands x is =
      let turn = YieldsList-turn (YieldsList-from_first (λ y. y.now) rest all began) yielded t given r u x is steps in
      slice_get_read all (length all) (length yielded) x.now refl turn.0 turn.1

  pub none_stands : r ≡ None → length yielded ≡ length all
  none_stands is = (YieldsList-end (YieldsList-from_first (λ y. y.now) rest all began) yielded t given r u is steps).1

-- one of the first so many notices tells it
pub record IsToldEarly {T : Type 0} (unique_key_of : Notice → Option T) (notices : List Notice) (count : ℕ) (t : T) : Type 0 where
  pub told : IsKeyAmong unique_key_of notices t
  pub early : told.place < count

module _ {T : Type 0} (unique_key_of : Notice → Option T) (notices : List Notice) where
  -- no two of the first so many notices tell the same
  abbrev pub AreToldOnceEarly : ℕ → Type 0
  AreToldOnceEarly count = (i j : ℕ) (m n : Notice) (t : T) → i < count → j < count → slice_get notices i ≡ Some m → slice_get notices j ≡ Some n → unique_key_of m ≡ Some t → unique_key_of n ≡ Some t → i ≡ j

  -- what is gathered is what these tell
  abbrev pub IsGathered : (T → Bool) → ℕ → Type 0
  IsGathered has count = (t : T) → (has t ≡ true) ↔ IsToldEarly unique_key_of notices count t

  pub all_gathered : (has : T → Bool) (count : ℕ) → length notices ≤ count → IsGathered has count → (t : T) → (has t ≡ true) ↔ IsKeyAmong unique_key_of notices t
  all_gathered has count end gathered t = (
    λ is. ((gathered t).0 is).told,
    λ told.
        let low = slice_get_within notices told.place told.notice told.at in
        (gathered t).1 (record { told = told; early = omega arith }),
  )

  pub all_once : (count : ℕ) → length notices ≤ count → AreToldOnceEarly count → HaveUniqueKeys unique_key_of notices
  all_once count end once i j m n t at_i at_j tells_m tells_n =
      let low_i = slice_get_within notices i m at_i in
      let low_j = slice_get_within notices j n at_j in
      once i j m n t (omega arith) (omega arith) at_i at_j tells_m tells_n

  -- a notice up to the next one is that or an earlier one
  module _ (count : ℕ) (next : Notice) (here : slice_get notices count ≡ Some next) where
    place_of : (i : ℕ) → i < count + 1 → (i ≡ count) ⊎ (i < count)
    place_of i low = eq-or-lt_of_le (omega arith)

    told_there : (i : ℕ) (n : Notice) → i ≡ count → slice_get notices i ≡ Some n → unique_key_of n ≡ unique_key_of next
    told_there i n at_next at = ap unique_key_of (let both : Some n ≡ Some next = sym at ∙ ap (slice_get notices) at_next ∙ here in cc)

    wider : (t : T) → IsToldEarly unique_key_of notices count t → IsToldEarly unique_key_of notices (count + 1) t
    wider t early = let low = early.early in record { told = early.told; early = omega arith }

    -- nothing is told by it
    module _ (nothing : unique_key_of next ≡ None) where
      earlier : (i : ℕ) (n : Notice) (t : T) → i < count + 1 → slice_get notices i ≡ Some n → unique_key_of n ≡ Some t → i < count
      earlier i n t low at tells = by (place_of i low)
        where
          by : (i ≡ count) ⊎ (i < count) → i < count
          by (inl at_next) = let clash : Some t ≡ None = sym tells ∙ told_there i n at_next at ∙ nothing in cc
          by (inr before) = before

      pub gathered_past : (has : T → Bool) → IsGathered has count → IsGathered has (count + 1)
      gathered_past has gathered t = (λ is. wider t ((gathered t).0 is), λ e. (gathered t).1 (record { told = e.told; early = earlier e.told.place e.told.notice t e.early e.told.at e.told.tells }))

      pub once_past : AreToldOnceEarly count → AreToldOnceEarly (count + 1)
      once_past once i j m n t low_i low_j at_i at_j tells_m tells_n =
          once i j m n t (earlier i m t low_i at_i tells_m) (earlier j n t low_j at_j tells_n) at_i at_j tells_m tells_n

    -- it tells what is gathered already, or is gathered now
    module _ {cmp : T → T → Ordering} (total : IsTotalOrder cmp) (exact : CmpEqualImpliesEq cmp) (told : T) (tells : unique_key_of next ≡ Some told) (has : T → Bool) (gathered : IsGathered has count) where
      pub told_twice : has told ≡ true → ¬ HaveUniqueKeys unique_key_of notices
      told_twice is once =
          let first = (gathered told).0 is in
          let low = first.early in
          let same : first.told.place ≡ count = once first.told.place count first.told.notice next told first.told.at here first.told.tells tells in
          omega arith

      module _ (absent : has told ≡ false) where
        pub once_more : AreToldOnceEarly count → AreToldOnceEarly (count + 1)
        once_more once i j m n t low_i low_j at_i at_j tells_m tells_n = by (place_of i low_i) (place_of j low_j)
          where
            fresh : (k : ℕ) (l : Notice) → k < count → slice_get notices k ≡ Some l → unique_key_of l ≡ Some told → ⊥
            fresh k l low at tells_l = let there = (gathered told).1 (record { told = record { place = k; notice = l; at = at; tells = tells_l }; early = low }) in let clash : true ≡ false = sym there ∙ absent in cc

            by : (i ≡ count) ⊎ (i < count) → (j ≡ count) ⊎ (j < count) → i ≡ j
            by (inl next_i) (inl next_j) = next_i ∙ sym next_j
            by (inl next_i) (inr before) = absurd (fresh j n before at_j (tells_n ∙ (sym tells_m ∙ (told_there i m next_i at_i ∙ tells))))
            by (inr before) (inl next_j) = absurd (fresh i m before at_i (tells_m ∙ (sym tells_n ∙ (told_there j n next_j at_j ∙ tells))))
            by (inr before_i) (inr before_j) = once i j m n t before_i before_j at_i at_j tells_m tells_n

        pub gathered_more : (now_has : T → Bool) → ((t : T) → now_has t ≡ cond (is_at (cmp told) t) true (has t)) → IsGathered now_has (count + 1)
        gathered_more now_has updates t = (λ is. there (is_at (cmp told) t) refl (sym (updates t) ∙ is), back)
          where
            there : (b : Bool) → is_at (cmp told) t ≡ b → cond b true (has t) ≡ true → IsToldEarly unique_key_of notices (count + 1) t
            there true at_told is =
                record { told = record { place = count; notice = next; at = here; tells = tells ∙ ap Some (exact told t ((Equal-is (cmp told t)).0 at_told)) }; early = omega arith }
            there false other is = wider t ((gathered t).0 is)

            back : IsToldEarly unique_key_of notices (count + 1) t → now_has t ≡ true
            back e = updates t ∙ by (place_of e.told.place e.early)
              where
                always : (b : Bool) → cond b true true ≡ true
                always true = refl
                always false = refl

                by : (e.told.place ≡ count) ⊎ (e.told.place < count) → cond (is_at (cmp told) t) true (has t) ≡ true
                by (inl at_next) =
                    let same : Some told ≡ Some t = sym tells ∙ (sym (told_there e.told.place e.told.notice at_next e.told.at) ∙ e.told.tells) in
                    let one : told ≡ t = cc in
                    let at_told : is_at (cmp told) t ≡ true = (Equal-is (cmp told t)).1 (ap (cmp told) (sym one) ∙ tied_itself total told) in
                    ap (λ b. cond b true (has t)) at_told
                by (inr before) =
                    let is : has t ≡ true = (gathered t).1 (record { told = e.told; early = before }) in
                    ap (cond (is_at (cmp told) t) true) is ∙ always (is_at (cmp told) t)
