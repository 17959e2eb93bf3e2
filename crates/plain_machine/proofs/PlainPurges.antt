-- What a purge does to the plain program's parts.
use Rattle.std.proofs.Common.{◌≡◌, ◌+◌, ℕ, List, [], ◌∷◌, ◌++◌, length, map, Option, Some, None, is_none, Bool, true, false, not, ◌&&◌, ◌||◌, cond, refl, sym, ◌∙◌, ap, find, arith}
use Rattle.std.specs.Prelude.{count_by, option_map}
use Rattle.std.specs.Ordering.{is_eq}
use Rattle.std.specs.declared.cmp.Ordering.{Ordering}
use Rattle.std.specs.declared.cmp.Ordering.TheVariants.{Less, Equal, Greater}
use Rattle.std.specs.FinMap as fin
use Rattle.std.specs.FinMap.{FinMap, entries, entries-insert, from_entries, get, get-entries, insert, put}
use Rattle.std.specs.FinMap.Entries.{by_order}
use Rattle.std.proofs.lemmas.Bool.{and_parts}
use Rattle.std.proofs.lemmas.List.Sums.{sum_by-cons}
use Rattle.schedule.specs.Schedule.{day_of}
use Rattle.custody_records.specs.Keys.{PartKey, part_cmp, text_cmp}
use Rattle.custody_records.specs.inside.Orders.{part_total, part_exact}
use Rattle.custody_records.specs.Records.{Hold, key_of}
use Rattle.custody_machine.specs.MapValues.{map_keyed}
use Rattle.custody_machine.specs.SameValues.{is_same_key}
use Rattle.custody_machine.specs.State.{State, Part}
use Rattle.custody_machine.specs.Machine.{Purge, OfPurge, Accept, count_due, part_dropped_if_due, step, state_without_due}
use Rattle.custody_machine.proofs.Accepting.{step_none}
use Rattle.custody_machine.proofs.MapValues.{map_keyed-insert, map_keyed-empty}
use Rattle.custody_machine.proofs.SameValues.{key_decides}
use Rattle.plain_machine.specs.declared.state.PlainPart.{PlainPart}
use Rattle.plain_machine.specs.declared.state.PlainAnswer.TheVariants as answer
use Rattle.plain_machine.specs.DistinctPlaces.{have_distinct_places, is_at_key}
use Rattle.plain_machine.specs.Plain.{IsPlainStep, entry_after_purge, plain_part_entry, part_view}
use Rattle.plain_machine.proofs.PlainMaps.{part_shows}

-- ---- how many entries pass a test

module _ {K X : Type 0} (R : K → K → Ordering) (test : K × X → Bool) where
  abbrev counted : K × X → ℕ
  counted e = cond (test e) 1 0

  count_cons : (e : K × X) (es : List (K × X)) → count_by test (e ∷ es) ≡ counted e + count_by test es
  count_cons e es = sum_by-cons counted e es

  -- an entry of a new key is one more
  count_put : (k : K) (v : X) (es : List (K × X)) → fin.find R k es ≡ None → count_by test (put R k v es) ≡ counted (k, v) + count_by test es
  count_put k v [] none = count_cons (k, v) []
  count_put k v (e ∷ es) none = by (R k e.0) none (count_put k v es)
    where
      by : (r : Ordering) → cond (is_eq r) (Some e.1) (fin.find R k es) ≡ None → (fin.find R k es ≡ None → count_by test (put R k v es) ≡ counted (k, v) + count_by test es)
          → count_by test (by_order r ((k, v) ∷ e ∷ es) ((e.0, v) ∷ es) (e ∷ put R k v es)) ≡ counted (k, v) + count_by test (e ∷ es)
      by Less none rest = count_cons (k, v) (e ∷ es)
      by Equal none rest = cc
      by Greater none rest =
          let more = rest none in
          let left = count_cons e (put R k v es) in
          let right = count_cons e es in
          omega (arith, more, left, right)

-- ---- the parts, each place once

no_entries : entries (fin.empty {K = PartKey} {X = Part} {R = part_cmp}) ≡ []
no_entries = of (entries (fin.empty {K = PartKey} {X = Part} {R = part_cmp})) (sym (fin.len-entries (fin.empty {K = PartKey} {X = Part} {R = part_cmp})) ∙ fin.len-empty part_cmp Part)
  where
    of : (es : List (PartKey × Part)) → length es ≡ 0 → es ≡ []
    of [] e = refl
    of (x ∷ es) e = absurd (omega (arith, e))

pub count_entries : (test : PartKey × Part → Bool) (parts : List PlainPart) → have_distinct_places parts ≡ true
    → count_by test (entries (from_entries {R = part_cmp} (map plain_part_entry parts))) ≡ count_by (λ (p : PlainPart). test (plain_part_entry p)) parts
count_entries test [] once = ap (count_by test) no_entries
count_entries test (p ∷ parts) once =
    let both = and_parts (is_none (find (is_at_key (key_of p.name)) parts)) (have_distinct_places parts) once in
    let m = from_entries {R = part_cmp} (map plain_part_entry parts) in
    let none : get m (key_of p.name) ≡ None = part_shows (key_of p.name) parts ∙ missing (find (is_at_key (key_of p.name)) parts) both.0 in
    ap (count_by test) (entries-insert part_total m (key_of p.name) (part_view p))
    ∙ count_put part_cmp test (key_of p.name) (part_view p) (entries m) (sym (get-entries m (key_of p.name)) ∙ none)
    ∙ ap (λ n. cond (test (plain_part_entry p)) 1 0 + n) (count_entries test parts both.1)
    ∙ sym (sum_by-cons (λ (q : PlainPart). cond (test (plain_part_entry q)) 1 0) p parts)
  where
    missing : (o : Option PlainPart) → is_none o ≡ true → option_map part_view o ≡ None
    missing None e = refl
    missing (Some q) e = cc

pub dropped_entries : (holds : FinMap text_cmp Hold) (today : ℕ) (parts : List PlainPart)
    → from_entries {R = part_cmp} (map (entry_after_purge holds today) (map plain_part_entry parts)) ≡ map_keyed (part_dropped_if_due holds today) (from_entries {R = part_cmp} (map plain_part_entry parts))
dropped_entries holds today [] = sym (map_keyed-empty part_cmp part_exact (part_dropped_if_due holds today) part_total)
dropped_entries holds today (p ∷ parts) =
    ap (λ m. insert m (key_of p.name) (part_dropped_if_due holds today (key_of p.name) (part_view p))) (dropped_entries holds today parts)
    ∙ sym (map_keyed-insert part_cmp part_exact (part_dropped_if_due holds today) part_total (from_entries (map plain_part_entry parts)) (key_of p.name) (part_view p))

-- whether each place is there once is told by the places alone
abbrev keys_of : List PlainPart → List PartKey
keys_of parts = map (λ (p : PlainPart). key_of p.name) parts

abbrev has_key : PartKey → List PartKey → Bool
has_key key [] = false
has_key key (k ∷ keys) = is_same_key k key || has_key key keys

abbrev are_distinct : List PartKey → Bool
are_distinct [] = true
are_distinct (k ∷ keys) = not (has_key k keys) && are_distinct keys

none_has : (key : PartKey) (parts : List PlainPart) → is_none (find (is_at_key key) parts) ≡ not (has_key key (keys_of parts))
none_has key [] = refl
none_has key (p ∷ parts) = by (is_same_key (key_of p.name) key) (none_has key parts)
  where
    by : (b : Bool) → is_none (find (is_at_key key) parts) ≡ not (has_key key (keys_of parts)) → is_none (cond b (Some p) (find (is_at_key key) parts)) ≡ not (b || has_key key (keys_of parts))
    by true rest = refl
    by false rest = rest

once_is : (parts : List PlainPart) → have_distinct_places parts ≡ are_distinct (keys_of parts)
once_is [] = refl
once_is (p ∷ parts) = λ i. none_has (key_of p.name) parts i && once_is parts i

abbrev firsts : List (PartKey × Part) → List PartKey
firsts es = map (λ (e : PartKey × Part). e.0) es

-- the same places are there once
pub once_same : (holds : FinMap text_cmp Hold) (today : ℕ) (parts later : List PlainPart) → map plain_part_entry later ≡ map (entry_after_purge holds today) (map plain_part_entry parts) → have_distinct_places parts ≡ true → have_distinct_places later ≡ true
once_same holds today parts later is once = once_is later ∙ ap are_distinct (keys later ∙ ap firsts is ∙ sym (after parts) ∙ sym (keys parts)) ∙ sym (once_is parts) ∙ once
  where
    keys : (ps : List PlainPart) → keys_of ps ≡ firsts (map plain_part_entry ps)
    keys [] = refl
    keys (p ∷ ps) = ap (λ l. key_of p.name ∷ l) (keys ps)

    after : (ps : List PlainPart) → firsts (map plain_part_entry ps) ≡ firsts (map (entry_after_purge holds today) (map plain_part_entry ps))
    after [] = refl
    after (p ∷ ps) = ap (λ l. key_of p.name ∷ l) (after ps)

same_swapped : (a b : PartKey) → is_same_key a b ≡ false → is_same_key b a ≡ false
same_swapped a b e = of (is_same_key b a) refl
  where
    of : (t : Bool) → is_same_key b a ≡ t → t ≡ false
    of false t = refl
    of true t = let clash : true ≡ false = sym ((key_decides a b).1 (sym ((key_decides b a).0 t))) ∙ e in cc

-- what is not at a place is not found there
still_alone : (key : PartKey) (parts : List PlainPart) (p : PlainPart) → is_none (find (is_at_key key) parts) ≡ true → is_same_key (key_of p.name) key ≡ false → is_none (find (is_at_key key) (parts ++ p ∷ [])) ≡ true
still_alone key [] p none other = ap (λ b. is_none (cond b (Some p) None)) other
still_alone key (r ∷ parts) p none other = by (is_same_key (key_of r.name) key) none (λ rest. still_alone key parts p rest other)
  where
    by : (b : Bool) → is_none (cond b (Some r) (find (is_at_key key) parts)) ≡ true → (is_none (find (is_at_key key) parts) ≡ true → is_none (find (is_at_key key) (parts ++ p ∷ [])) ≡ true)
        → is_none (cond b (Some r) (find (is_at_key key) (parts ++ p ∷ []))) ≡ true
    by true none rest = cc
    by false none rest = rest none

-- a part of a new place is one more
once_more : (parts : List PlainPart) (p : PlainPart) → have_distinct_places parts ≡ true → is_none (find (is_at_key (key_of p.name)) parts) ≡ true → have_distinct_places (parts ++ p ∷ []) ≡ true
once_more [] p once new = refl
once_more (q ∷ parts) p once new =
    let both = and_parts (is_none (find (is_at_key (key_of q.name)) parts)) (have_distinct_places parts) once in
    let apart = by (is_same_key (key_of q.name) (key_of p.name)) refl new in
    λ i. still_alone (key_of q.name) parts p both.0 (same_swapped (key_of q.name) (key_of p.name) apart.0) i && once_more parts p both.1 apart.1 i
  where
    by : (b : Bool) → is_same_key (key_of q.name) (key_of p.name) ≡ b → is_none (cond b (Some q) (find (is_at_key (key_of p.name)) parts)) ≡ true
        → (is_same_key (key_of q.name) (key_of p.name) ≡ false) × (is_none (find (is_at_key (key_of p.name)) parts) ≡ true)
    by true e none = cc
    by false e none = (e, none)

-- whether it was put there or not
pub once_tried : (parts later : List PlainPart) (p : PlainPart) (is_put : Bool) → later ≡ cond is_put (parts ++ p ∷ []) parts → have_distinct_places parts ≡ true
    → get (from_entries {R = part_cmp} (map plain_part_entry parts)) (key_of p.name) ≡ None → have_distinct_places later ≡ true
once_tried parts later p true is once none = ap have_distinct_places is ∙ once_more parts p once (free (find (is_at_key (key_of p.name)) parts) (sym (part_shows (key_of p.name) parts) ∙ none))
  where
    free : (o : Option PlainPart) → option_map part_view o ≡ None → is_none o ≡ true
    free None e = refl
    free (Some q) e = cc
once_tried parts later p false is once none = ap have_distinct_places is ∙ once

-- ---- the answer

pub purges : (s new : State) (now count : ℕ) → count ≡ count_due s (day_of now) → new ≡ state_without_due s (day_of now) → IsPlainStep (answer.Purge count) s new (step s Purge now)
purges s new now count counts is = step_none s Purge now refl ∙ (λ i. Accept (record { entry = OfPurge (sym counts i); is_repeat = false }) (sym is i))
