-- The records of parts after the bytes of some of them were dropped, one after the other.
use Rattle.std.proofs.Common.{◌≡◌, inl, inr, List, [], ◌∷◌, ◌++◌, Bool, true, false, ◌||◌, cond, Option, None, Some, refl, sym, ◌∙◌, ap}
use Rattle.std.specs.FinMap.{FinMap, get, insert, get-insert}
use Rattle.std.specs.Option.{option_map}
use Rattle.std.specs.Ordering.{eq_by_cmp, is_eq}
use Rattle.std.specs.declared.cmp.Ordering.{Ordering}
use Rattle.std.specs.declared.cmp.Ordering.TheVariants.{Equal}
use Rattle.std.proofs.lemmas.Bool.{cases_Bool}
use Rattle.std.proofs.lemmas.List.Folds.{list_any-append}
use Rattle.custody_records.specs.Keys.{PartKey, part_cmp}
use Rattle.custody_records.specs.inside.Orders.{part_exact, part_total}
use Rattle.custody_records.specs.Purge.{dropped_if_among, is_among, record_without_bytes}
use Rattle.custody_records.specs.Records.{PartRecord}

-- these parts lost their bytes, and nothing else changed
abbrev pub AreDropped : List PartKey → FinMap part_cmp PartRecord → FinMap part_cmp PartRecord → Type 0
AreDropped keys old new = (key : PartKey) → get new key ≡ option_map (dropped_if_among keys key) (get old key)

equal : (o : Ordering) → is_eq o ≡ true → o ≡ Equal
equal Equal e = refl
equal _ e = cc

same_key : (a b : PartKey) → eq_by_cmp part_cmp a b ≡ true → a ≡ b
same_key a b e = part_exact a b (equal (part_cmp a b) e)

none_among : (old : FinMap part_cmp PartRecord) → AreDropped [] old old
none_among old key = by (get old key)
  where
    by : (o : Option PartRecord) → o ≡ option_map (dropped_if_among [] key) o
    by None = refl
    by (Some part) = refl

module _ (old : FinMap part_cmp PartRecord) (sought : PartKey) where
  other_key : (key : PartKey) → eq_by_cmp part_cmp key sought ≡ false → get old key ≡ option_map (dropped_if_among (sought ∷ []) key) (get old key)
  other_key key other = by (get old key)
    where
      by : (o : Option PartRecord) → o ≡ option_map (dropped_if_among (sought ∷ []) key) o
      by None = refl
      by (Some part) = rw other refl

  -- there is no part of that key
  pub none_dropped : get old sought ≡ None → AreDropped (sought ∷ []) old old
  none_dropped none key = elim (cases_Bool (eq_by_cmp part_cmp key sought)) [
    | inl is ↦ let absent : get old key ≡ None = ap (get old) (same_key key sought is) ∙ none in rw absent refl
    | inr other ↦ other_key key other
  ]

  pub one_dropped : (part : PartRecord) → get old sought ≡ Some part → AreDropped (sought ∷ []) old (insert old sought (record_without_bytes part))
  one_dropped part there key =
      get-insert part_total old sought (record_without_bytes part) key
      ∙ elim (cases_Bool (eq_by_cmp part_cmp key sought)) [
        | inl is ↦ let found : get old key ≡ Some part = ap (get old) (same_key key sought is) ∙ there in rw (found, is) refl
        | inr other ↦ rw other (other_key key other)
      ]

-- after these parts one more
pub then_dropped : (keys : List PartKey) (last : PartKey) (old mid new : FinMap part_cmp PartRecord) → AreDropped keys old mid → AreDropped (last ∷ []) mid new → AreDropped (keys ++ last ∷ []) old new
then_dropped keys last old mid new before then key = then key ∙ ap (option_map (dropped_if_among (last ∷ []) key)) (before key) ∙ by (get old key)
  where
    both : (a b : Bool) (part : PartRecord) → cond b (record_without_bytes (cond a (record_without_bytes part) part)) (cond a (record_without_bytes part) part) ≡ cond (a || b) (record_without_bytes part) part
    both true true part = refl
    both true false part = refl
    both false true part = refl
    both false false part = refl

    by : (o : Option PartRecord) → option_map (dropped_if_among (last ∷ []) key) (option_map (dropped_if_among keys key) o) ≡ option_map (dropped_if_among (keys ++ last ∷ []) key) o
    by None = refl
    by (Some part) =
        ap Some (both (is_among keys key) (is_among (last ∷ []) key) part
        ∙ ap (λ b. cond b (record_without_bytes part) part) (sym (list_any-append (eq_by_cmp part_cmp key) keys (last ∷ []))))
