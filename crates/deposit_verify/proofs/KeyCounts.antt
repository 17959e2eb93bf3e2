-- Keys of which a list has each once, and how many there are after a deposit.
use Rattle.std.proofs.Common.{◌≡◌, ◌≢◌, ◌<◌, ◌↔◌, ◌⊎◌, ◌==◌, ◌+◌, ◌&&◌, ◌||◌, ◌++◌, ◌∷◌, ◌∙◌, [], ℕ, AllPairs, Bool, Bor, append_assoc, arith, get_or, length-take, take, true, false, not, cond, Contains, List, Vec, ap, filter, inl, inr, length, length-append, refl, sym}
use Rattle.std.specs.Bool.{Decides}
use Rattle.std.specs.Cmp.{IsEquivalence}
use Rattle.std.specs.List.{AllByRecursion, IsDistinct}
use Rattle.std.specs.Set.{distinct_count, is_member, unique_keys}
use Rattle.std.specs.Str.{bytes_eq}
use Rattle.std.specs.declared.alloc.Global.{Global}
use Rattle.std.proofs.lemmas.Bool.{and_parts, and_from}
use Rattle.std.proofs.lemmas.Bool.Decides.{Decides-eqb, Decides-like, not_from_Decides, same_from_decides}
use Rattle.std.proofs.lemmas.List.Elements.{Contains-append_cases, Contains-append_left, Contains-append_right, filter_agree}
use Rattle.std.proofs.lemmas.List.{get_or-map, get_or-take, length-map, map-append, take_more}
use Rattle.std.proofs.lemmas.List.Filters.{length-filter_more}
use Rattle.std.proofs.lemmas.List.Kept.{AllPairs-filter}
use Rattle.std.proofs.lemmas.Map.Made.{AllPairs-from_IsDistinct, IsDistinct-from_AllPairs, alike_from_same, distinct_count-from_IsDistinct, is_member-Decides, is_member-filter, length-from_keys}
use Rattle.std.proofs.lemmas.Slice.Eq.{bytes_eq-Decides}
use Rattle.dnrd_csv.specs.inside.RowKeys.{borrowed_texts}
use Rattle.deposit_verify.specs.inside.SortedKeys.{owned_texts}
use Rattle.deposit_verify.specs.Keys.{IsNumberOf}
use Rattle.deposit_verify.specs.Rows.{keys_after}
use Rattle.deposit_verify.proofs.Lists.{text_at}

pub bytes_laws : IsEquivalence bytes_eq
bytes_laws = record {
  refl = λ x. (bytes_eq-Decides x x).1 refl;
  symm = λ x y. same_from_decides (bytes_eq x y) (bytes_eq y x) (bytes_eq-Decides x y) (Decides-like (bytes_eq y x) sym sym (bytes_eq-Decides y x));
  congr = λ x y z e. ap (λ t. bytes_eq t z) ((bytes_eq-Decides x y).0 e);
}

pub member_decides : (keys : List (List ℕ)) (key : List ℕ) → Decides (is_member bytes_eq keys key) (Contains keys key)
member_decides keys key = is_member-Decides bytes_eq-Decides keys key

pub false_from : {P : Type 0} (b : Bool) → Decides b P → ¬ P → b ≡ false
false_from true d none = absurd (none (d.0 refl))
false_from false d none = refl

pub false_parts : (b c : Bool) → (b || c) ≡ false → (b ≡ false) × (c ≡ false)
false_parts true c e = cc e
false_parts false c e = (refl, e)

not_true : (b : Bool) → not b ≡ true → b ≡ false
not_true true e = cc e
not_true false e = refl

-- a filter of texts that stand in memory of their own
pub filter-items : (p : List ℕ → Bool) (keys : List (Vec ℕ Global)) → filter p (owned_texts keys) ≡ owned_texts (filter (λ key. p key.items) keys)
filter-items p [] = refl
filter-items p (k ∷ ks) = by (p k.items) (filter-items p ks)
  where
    by : (b : Bool) → filter p (owned_texts ks) ≡ owned_texts (filter (λ (key : Vec ℕ Global). p key.items) ks)
        → cond b (k.items ∷ filter p (owned_texts ks)) (filter p (owned_texts ks)) ≡ owned_texts (cond b (k ∷ filter (λ (key : Vec ℕ Global). p key.items) ks) (filter (λ (key : Vec ℕ Global). p key.items) ks))
    by true e = ap (λ (ts : List (List ℕ)). k.items ∷ ts) e
    by false e = e

-- ---- each key once

-- each key once are the same keys
unique_members : (xs : List (List ℕ)) (q : List ℕ) → is_member bytes_eq (unique_keys bytes_eq xs) q ≡ is_member bytes_eq xs q
unique_members [] q = refl
unique_members (x ∷ xs) q = by (is_member bytes_eq xs x) refl (unique_members xs q)
  where
    absorb : is_member bytes_eq xs x ≡ true → (c : Bool) → bytes_eq q x ≡ c → is_member bytes_eq xs q ≡ (c || is_member bytes_eq xs q)
    absorb e true same = ap (is_member bytes_eq xs) ((bytes_eq-Decides q x).0 same) ∙ e
    absorb e false same = refl

    by : (b : Bool) → is_member bytes_eq xs x ≡ b → is_member bytes_eq (unique_keys bytes_eq xs) q ≡ is_member bytes_eq xs q
        → is_member bytes_eq (cond b (unique_keys bytes_eq xs) (x ∷ unique_keys bytes_eq xs)) q ≡ (bytes_eq q x || is_member bytes_eq xs q)
    by true e rest = rest ∙ absorb e (bytes_eq q x) refl
    by false e rest = ap (λ m. bytes_eq q x || m) rest

none_member : (ys : List (List ℕ)) (x : List ℕ) → is_member bytes_eq ys x ≡ false → AllByRecursion (λ y. bytes_eq x y ≡ false) ys
none_member [] x e = tt
none_member (y ∷ ys) x e = let parts = false_parts (bytes_eq x y) (is_member bytes_eq ys x) e in (parts.0, none_member ys x parts.1)

unique_distinct : (xs : List (List ℕ)) → IsDistinct bytes_eq (unique_keys bytes_eq xs)
unfolding IsDistinct
unique_distinct [] = tt
unique_distinct (x ∷ xs) = by (is_member bytes_eq xs x) refl (unique_distinct xs)
  where
    by : (b : Bool) → is_member bytes_eq xs x ≡ b → IsDistinct bytes_eq (unique_keys bytes_eq xs) → IsDistinct bytes_eq (cond b (unique_keys bytes_eq xs) (x ∷ unique_keys bytes_eq xs))
    by true e rest = rest
    by false e rest = (none_member (unique_keys bytes_eq xs) x (unique_members xs x ∙ e), rest)

all_append : (P : List ℕ → Type 0) (xs ys : List (List ℕ)) → AllByRecursion P xs → AllByRecursion P ys → AllByRecursion P (xs ++ ys)
all_append P [] ys p q = q
all_append P (x ∷ xs) ys p q = (p.0, all_append P xs ys p.1 q)

distinct_append : (xs ys : List (List ℕ)) → IsDistinct bytes_eq xs → IsDistinct bytes_eq ys → ((q : List ℕ) → is_member bytes_eq xs q ≡ true → is_member bytes_eq ys q ≡ false) → IsDistinct bytes_eq (xs ++ ys)
unfolding IsDistinct
distinct_append [] ys p q apart = q
distinct_append (x ∷ xs) ys p q apart = (
  all_append (λ y. bytes_eq x y ≡ false) xs ys p.0 (none_member ys x (apart x (ap (λ b. b || is_member bytes_eq xs x) (bytes_laws.refl x)))),
  distinct_append xs ys p.1 q (λ r has. apart r (here r (bytes_eq r x) has)),
)
  where
    here : (r : List ℕ) (b : Bool) → is_member bytes_eq xs r ≡ true → (b || is_member bytes_eq xs r) ≡ true
    here r true has = refl
    here r false has = has

-- what is kept of keys
abbrev pub unnamed : List (List ℕ) → List ℕ → Bool
unnamed named key = not (is_member bytes_eq named key)

kept_members : (before named : List (List ℕ)) (q : List ℕ) → is_member bytes_eq (filter (unnamed named) before) q ≡ (is_member bytes_eq before q && unnamed named q)
kept_members before named q = is_member-filter bytes_laws (unnamed named) q (alike_from_same bytes_eq-Decides (unnamed named) q) before

pub after_distinct : (before contained named : List (List ℕ)) → AllPairs (λ one other. one ≢ other) before → AllPairs (λ one other. one ≢ other) contained
    → ((text : List ℕ) → Contains contained text → Contains named text) → IsDistinct bytes_eq (keys_after before contained named)
after_distinct before contained named once each among =
    distinct_append (filter (unnamed named) before) contained
    (IsDistinct-from_AllPairs bytes_eq-Decides _ (AllPairs-filter (λ one other. one ≢ other) (unnamed named) before once))
    (IsDistinct-from_AllPairs bytes_eq-Decides contained each)
    (λ q has.
    let parts = and_parts _ _ (sym (kept_members before named q) ∙ has) in
    let none = not_from_Decides _ (member_decides named q) (not_true _ parts.1) in
    false_from _ (member_decides contained q) (λ there. none (among q there)))

pub number_after : (before contained named : List (List ℕ)) → AllPairs (λ one other. one ≢ other) before → AllPairs (λ one other. one ≢ other) contained
    → ((text : List ℕ) → Contains contained text → Contains named text) → length (filter (unnamed named) before) + length contained ≡ distinct_count bytes_eq (keys_after before contained named)
number_after before contained named once each among =
    sym (length-append (filter (unnamed named) before) contained)
    ∙ sym (distinct_count-from_IsDistinct bytes_laws _ (after_distinct before contained named once each among))

-- ---- the number of keys

pub number_decides : (P : List ℕ → Type 0) (keys : List (List ℕ)) (n : ℕ) → ((key : List ℕ) → Contains keys key ↔ P key) → Decides (n == distinct_count bytes_eq keys) (IsNumberOf P n)
number_decides P keys n is = (
  λ e. (
    unique_keys bytes_eq keys,
    record {
      once = AllPairs-from_IsDistinct bytes_eq-Decides _ (unique_distinct keys);
      same = λ key. (
        λ has. (is key).0 ((member_decides keys key).0 (sym (unique_members keys key) ∙ (member_decides (unique_keys bytes_eq keys) key).1 has)),
        λ p. (member_decides (unique_keys bytes_eq keys) key).0 (unique_members keys key ∙ (member_decides keys key).1 ((is key).1 p)),
      );
    },
    sym ((Decides-eqb n (distinct_count bytes_eq keys)).0 e),
  ),
  λ h.
      let same : (q : List ℕ) → is_member bytes_eq h.0 q ≡ is_member bytes_eq keys q = λ q.
      same_from_decides _ _ (member_decides h.0 q) (Decides-like _ (λ m. (h.1.same q).1 ((is q).0 m)) (λ m. (is q).1 ((h.1.same q).0 m)) (member_decides keys q)) in
      (Decides-eqb n (distinct_count bytes_eq keys)).1 (sym h.2 ∙ length-from_keys bytes_laws h.0 keys (IsDistinct-from_AllPairs bytes_eq-Decides h.0 h.1.once) same),
)

-- the keys after a deposit
pub members_after : (before contained deleted : List (List ℕ)) (key : List ℕ)
    → Contains (keys_after before contained (contained ++ deleted)) key ↔ (Contains contained key ⊎ (Contains before key × ¬ (Contains contained key ⊎ Contains deleted key)))
members_after before contained deleted key = (there, back)
  where
    named : List (List ℕ)
    named = contained ++ deleted

    is_named : Contains contained key ⊎ Contains deleted key → Contains named key
    is_named (inl c) = Contains-append_left contained deleted key c
    is_named (inr d) = Contains-append_right contained deleted key d

    kept : Contains (filter (unnamed named) before) key → Contains before key × ¬ (Contains contained key ⊎ Contains deleted key)
    kept has =
        let parts = and_parts _ _ (sym (kept_members before named key) ∙ (member_decides (filter (unnamed named) before) key).1 has) in
        ((member_decides before key).0 parts.0, λ some. not_from_Decides _ (member_decides named key) (not_true _ parts.1) (is_named some))

    there : Contains (keys_after before contained named) key → Contains contained key ⊎ (Contains before key × ¬ (Contains contained key ⊎ Contains deleted key))
    there has = elim (Contains-append_cases (filter (unnamed named) before) contained key has) [ inl k ↦ inr (kept k) | inr c ↦ inl c ]

    back : Contains contained key ⊎ (Contains before key × ¬ (Contains contained key ⊎ Contains deleted key)) → Contains (keys_after before contained named) key
    back (inl c) = Contains-append_right (filter (unnamed named) before) contained key c
    back (inr h) =
        let absent = false_from _ (member_decides named key) (λ has. h.1 (Contains-append_cases contained deleted key has)) in
        let passes : (is_member bytes_eq before key && unnamed named key) ≡ true = and_from _ _ ((member_decides before key).1 h.0) (ap not absent) in
        Contains-append_left (filter (unnamed named) before) contained key ((member_decides (filter (unnamed named) before) key).0 (kept_members before named key ∙ passes))

-- ---- one key after the other

pub count_more : (named : List (List ℕ)) (keys : List (Vec ℕ Global)) (i n m : ℕ) (key : Vec ℕ Global) (b : Bool) → i < length keys → key ≡ get_or keys i key → b ≡ unnamed named key.items
    → n ≡ length (filter (unnamed named) (take i (owned_texts keys))) → m ≡ cond b (n + 1) n → m ≡ length (filter (unnamed named) (take (i + 1) (owned_texts keys)))
count_more named keys i n m key b inside at is before after =
    let placed : i < length (owned_texts keys) = omega (arith, length-map keys (λ (k : Vec ℕ Global). k.items)) in
    let here : get_or (owned_texts keys) i [] ≡ key.items = get_or-map (λ (k : Vec ℕ Global). k.items) keys i key [] inside ∙ ap (λ (k : Vec ℕ Global). k.items) (sym at) in
    let tested : unnamed named (get_or (owned_texts keys) i []) ≡ b = ap (unnamed named) here ∙ sym is in
    after ∙ step b n ∙ ap (λ t. n + cond t 1 0) (sym tested) ∙ ap (λ k. k + cond (unnamed named (get_or (owned_texts keys) i [])) 1 0) before
    ∙ sym (length-filter_more (unnamed named) (owned_texts keys) i [] placed)
  where
    step : (b : Bool) (n : ℕ) → cond b (n + 1) n ≡ n + cond b 1 0
    step true n = refl
    step false n = omega arith

pub add_more : (keys : List (Vec ℕ Global)) (old : List (List ℕ)) (added : List (Bor (List ℕ))) (i : ℕ) (b : Bor (List ℕ)) (key : Vec ℕ Global) → i < length added
    → owned_texts keys ≡ old ++ take i (borrowed_texts added) → key.items ≡ (get_or added i b).now → owned_texts (keys ++ key ∷ []) ≡ old ++ take (i + 1) (borrowed_texts added)
add_more keys old added i b key inside before same =
    let placed : i < length (borrowed_texts added) = omega (arith, length-map added (λ (t : Bor (List ℕ)). t.now)) in
    map-append (λ (k : Vec ℕ Global). k.items) keys (key ∷ [])
    ∙ ap (λ (ts : List (List ℕ)). ts ++ key.items ∷ []) before
    ∙ append_assoc old (take i (borrowed_texts added)) (key.items ∷ [])
    ∙ ap (λ (t : List ℕ). old ++ (take i (borrowed_texts added) ++ t ∷ [])) (same ∙ sym (text_at added i b inside))
    ∙ ap (λ (ts : List (List ℕ)). old ++ ts) (sym (take_more (borrowed_texts added) i [] placed))

-- the first of keys are each once
pairs_take : (R : List ℕ → List ℕ → Type 0) (n : ℕ) (xs : List (List ℕ)) → AllPairs R xs → AllPairs R (take n xs)
pairs_take R n xs all i j d below inside =
    let size = length-take n xs in
    let far : j < n = omega (arith, size, inside) in
    let near : i < n = omega (arith, below, far) in
    let within : j < length xs = omega (arith, size, inside) in
    rw (get_or-take n xs i d near, get_or-take n xs j d far) (all i j d below within)

contains_take : (n : ℕ) (xs : List (List ℕ)) (x : List ℕ) → Contains (take n xs) x → Contains xs x
contains_take n xs x h =
    let size = length-take n xs in
    let far : h.0 < n = omega (arith, size, h.1) in
    let within : h.0 < length xs = omega (arith, size, h.1) in
    (h.0, within, sym (get_or-take n xs h.0 x far) ∙ h.2)

pub after_some : (before contained named : List (List ℕ)) (n : ℕ) → AllPairs (λ one other. one ≢ other) before → AllPairs (λ one other. one ≢ other) contained
    → ((text : List ℕ) → Contains contained text → Contains named text) → AllPairs (λ one other. one ≢ other) (filter (unnamed named) before ++ take n contained)
after_some before contained named n once each among =
    AllPairs-from_IsDistinct bytes_eq-Decides _
    (after_distinct before (take n contained) named once (pairs_take (λ one other. one ≢ other) n contained each) (λ text has. among text (contains_take n contained text has)))

-- what is named counts as the same in any order
pub same_after : (before contained one other : List (List ℕ)) → ((text : List ℕ) → Contains one text ↔ Contains other text) → keys_after before contained one ≡ keys_after before contained other
same_after before contained one other same =
    ap (λ (kept : List (List ℕ)). kept ++ contained)
    (filter_agree (unnamed one) (unnamed other) (λ key. ap not (same_from_decides _ _ (member_decides one key) (Decides-like _ (same key).1 (same key).0 (member_decides other key)))) before)
