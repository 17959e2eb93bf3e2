-- The keys of the parts that are due: which they are, and how many.
use Rattle.std.proofs.Common.{◌≡◌, ℕ, List, [], ◌∷◌, length, Bool, true, false, ◌||◌, cond, Some, refl, sym, ◌∙◌, ap, subst, arith}
use Rattle.std.specs.Prelude.{T, filter}
use Rattle.std.specs.Map.{keys_of}
use Rattle.std.specs.FinMap.{entries, entries_sorted, get, get-entries}
use Rattle.std.specs.FinMap.Entries.{below_all, find, is_sorted}
use Rattle.std.specs.Ordering.{eq_by_cmp, is_eq, is_lt}
use Rattle.std.specs.Cmp.{Equal-is}
use Rattle.std.specs.declared.cmp.Ordering.{Ordering}
use Rattle.std.proofs.lemmas.Bool.{and_parts}
use Rattle.std.proofs.lemmas.Map.Entries.{length-keys_of}
use Rattle.std.proofs.lemmas.List.Sums.{length-filter}
use Rattle.std.proofs.lemmas.Option.{same_Some}
use Rattle.custody_records.specs.Keys.{PartKey, part_cmp}
use Rattle.custody_records.specs.Purge.{is_among, is_due}
use Rattle.custody_records.specs.Records.{PartRecord, Records}
use Rattle.custody_records.specs.inside.Orders.{part_exact}
use Rattle.custody_machine.specs.Purge.{count_due_records, due_keys}

sorted_true : (b : Bool) → T b → b ≡ true
sorted_true b is = grind arith

below : (o : Ordering) → is_lt o ≡ true → is_eq o ≡ false
below o is = grind arith

-- the keys of the entries that pass a test
module _ (test : PartKey × PartRecord → Bool) where
  abbrev passing_keys : List (PartKey × PartRecord) → List PartKey
  passing_keys es = keys_of (filter test es)

  -- a key below all of them is not among them
  none_below : (key : PartKey) (es : List (PartKey × PartRecord)) → below_all part_cmp key es ≡ true → is_among (passing_keys es) key ≡ false
  none_below key [] low = refl
  none_below key (e ∷ es) low =
      let parts = and_parts (is_lt (part_cmp key e.0)) (below_all part_cmp key es) low in
      by (test e) (below (part_cmp key e.0) parts.0) (none_below key es parts.1)
    where
      by : (b : Bool) → eq_by_cmp part_cmp key e.0 ≡ false → is_among (passing_keys es) key ≡ false → is_among (keys_of (cond b (e ∷ filter test es) (filter test es))) key ≡ false
      by true other rest = ap (λ b. b || is_among (passing_keys es) key) other ∙ rest
      by false other rest = rest

  -- Each key is that of one entry: it is among them where that one passes.
  passing_found : (key : PartKey) (part : PartRecord) (es : List (PartKey × PartRecord)) → is_sorted part_cmp es ≡ true → find part_cmp key es ≡ Some part → is_among (passing_keys es) key ≡ test (key, part)
  passing_found key part [] sorted found = cc
  passing_found key part (e ∷ es) sorted found =
      let parts = and_parts (below_all part_cmp e.0 es) (is_sorted part_cmp es) sorted in
      by (eq_by_cmp part_cmp key e.0) (test e) refl refl parts.0 (passing_found key part es parts.1) found
    where
      one : eq_by_cmp part_cmp key e.0 ≡ true → key ≡ e.0
      one tied = part_exact key e.0 ((Equal-is (part_cmp key e.0)).0 tied)

      entry_is : eq_by_cmp part_cmp key e.0 ≡ true → Some e.1 ≡ Some part → test e ≡ test (key, part)
      entry_is tied found = λ i. test (sym (one tied) i, same_Some e.1 part found i)

      none_later : eq_by_cmp part_cmp key e.0 ≡ true → below_all part_cmp e.0 es ≡ true → is_among (passing_keys es) key ≡ false
      none_later tied low = none_below key es (subst (λ (k : PartKey). below_all part_cmp k es ≡ true) (sym (one tied)) low)

      by : (is passes : Bool) → eq_by_cmp part_cmp key e.0 ≡ is → test e ≡ passes → below_all part_cmp e.0 es ≡ true
          → (find part_cmp key es ≡ Some part → is_among (passing_keys es) key ≡ test (key, part))
          → cond is (Some e.1) (find part_cmp key es) ≡ Some part
          → is_among (keys_of (cond passes (e ∷ filter test es) (filter test es))) key ≡ test (key, part)
      by false true other passes low rest found = ap (λ b. b || is_among (passing_keys es) key) other ∙ rest found
      by false false other passes low rest found = rest found
      by true true tied passes low rest found = ap (λ b. b || is_among (passing_keys es) key) tied ∙ sym passes ∙ entry_is tied found
      by true false tied passes low rest found = none_later tied low ∙ sym passes ∙ entry_is tied found

module _ (today : ℕ) (records : Records) where
  abbrev is_due_entry : PartKey × PartRecord → Bool
  is_due_entry entry = is_due records.holds today entry.0 entry.1

  pub among_due : (key : PartKey) (part : PartRecord) → get records.parts key ≡ Some part → is_among (due_keys today records) key ≡ is_due records.holds today key part
  among_due key part has = passing_found is_due_entry key part (entries records.parts) (sorted_true (is_sorted part_cmp (entries records.parts)) (entries_sorted records.parts)) (sym (get-entries records.parts key) ∙ has)

  pub count_keys : length (due_keys today records) ≡ count_due_records today records
  count_keys = length-keys_of (filter is_due_entry (entries records.parts)) ∙ length-filter is_due_entry (entries records.parts)
