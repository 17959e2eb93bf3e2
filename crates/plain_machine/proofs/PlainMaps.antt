-- What the plain program's loops find is what the maps have.
use Rattle.std.proofs.Common.{◌≡◌, ℕ, List, [], ◌∷◌, Option, Some, None, Bool, true, false, ◌&&◌, ◌==◌, cond, map, refl, sym, ◌∙◌, ap, find, Decides}
use Rattle.std.specs.Prelude.{option_map, count_by, is_some, bytes_eq}
use Rattle.std.specs.Ordering.{eq_by_cmp, is_eq}
use Rattle.std.specs.Cmp.{IsTotalOrder, tied_itself, Equal-is}
use Rattle.std.specs.FinMap as fin
use Rattle.std.specs.FinMap.{IsAntisymmetric, get, from_entries, get-from_entries}
use Rattle.std.specs.declared.cmp.Ordering.{Ordering}
use Rattle.std.proofs.lemmas.Bool.{and_parts}
use Rattle.std.proofs.lemmas.Bool.Decides.{same_from_decides, Decides-eqb}
use Rattle.deposit_name.specs.Name.{Name}
use Rattle.custody_records.proofs.FieldLemmas.{find_passes}
use Rattle.custody_records.specs.Keys.{PartKey, text_cmp, part_cmp}
use Rattle.custody_records.specs.Records.{key_of}
use Rattle.plain_machine.specs.declared.state.PlainRegistry.{PlainRegistry}
use Rattle.plain_machine.specs.declared.state.PlainPart.{PlainPart}
use Rattle.plain_machine.specs.DistinctPlaces.{is_at_key}
use Rattle.plain_machine.specs.Plain.{plain_registry_entry, plain_part_entry, part_view, is_registry_of, is_in}
use Rattle.custody_machine.specs.State.{key_with_part, part_numbers}
use Rattle.custody_records.specs.inside.Orders.{text_total, part_total, part_exact}
use Rattle.custody_machine.proofs.SameValues.{text_decides, key_decides}
use Rattle.std.proofs.lemmas.Map.Lookups.{exact_bytes}

module _ {K X E : Type 0} {R : K → K → Ordering} (total : IsTotalOrder R) (exact : IsAntisymmetric R) (entry : E → K × X) (test : K → E → Bool) (decides : (q : K) (e : E) → Decides (test q e) ((entry e).0 ≡ q)) where
  cmp_decides : (a b : K) → Decides (eq_by_cmp R a b) (b ≡ a)
  cmp_decides a b = (λ e. sym (exact a b ((Equal-is (R a b)).0 e)), λ e. ap (λ z. is_eq (R a z)) e ∙ (Equal-is (R a a)).1 (tied_itself total a))

  finds : (q : K) (es : List E) → fin.find R q (map entry es) ≡ option_map (λ e. (entry e).1) (find (test q) es)
  finds q [] = refl
  finds q (e ∷ es) = by (eq_by_cmp R q (entry e).0) (test q e) (same_from_decides _ _ (cmp_decides q (entry e).0) (decides q e)) (finds q es)
    where
      by : (a b : Bool) → a ≡ b → fin.find R q (map entry es) ≡ option_map (λ e. (entry e).1) (find (test q) es)
          → cond a (Some (entry e).1) (fin.find R q (map entry es)) ≡ option_map (λ e. (entry e).1) (cond b (Some e) (find (test q) es))
      by true true s rest = refl
      by false false s rest = rest
      by true false s rest = cc
      by false true s rest = cc

  pub shows : (q : K) (es : List E) → get (from_entries {R = R} (map entry es)) q ≡ option_map (λ e. (entry e).1) (find (test q) es)
  shows q es = get-from_entries total (map entry es) q ∙ finds q es

pub registry_shows : (tld : List ℕ) (es : List PlainRegistry) → get (from_entries {R = text_cmp} (map plain_registry_entry es)) tld ≡ option_map (λ (r : PlainRegistry). r.first_day) (find (is_registry_of tld) es)
registry_shows = shows text_total exact_bytes plain_registry_entry is_registry_of (λ q e. text_decides e.tld q)

pub part_shows : (key : PartKey) (es : List PlainPart) → get (from_entries {R = part_cmp} (map plain_part_entry es)) key ≡ option_map part_view (find (is_at_key key) es)
part_shows = shows part_total part_exact plain_part_entry is_at_key (λ q e. key_decides (key_of e.name) q)

pub map_twice : {A B C : Type 0} (f : A → B) (g : B → C) (o : Option A) → option_map (λ x. g (f x)) o ≡ option_map g (option_map f o)
map_twice f g None = refl
map_twice f g (Some x) = refl

-- ---- the parts of a revision

find_less : {X : Type 0} (p q : X → Bool) → ((x : X) → q x ≡ false → p x ≡ false) → (xs : List X) → find q xs ≡ None → find p xs ≡ None
find_less p q less [] none = refl
find_less {X} p q less (x ∷ xs) none = by (q x) (p x) (less x) none (find_less p q less xs)
  where
    by : (a b : Bool) → (a ≡ false → b ≡ false) → cond a (Some x) (find q xs) ≡ None → (find q xs ≡ None → find p xs ≡ None) → cond b (Some x) (find p xs) ≡ None
    by true b implied found rest = cc
    by false false implied found rest = rest found
    by false true implied found rest = let clash : true ≡ false = implied refl in cc

-- a part that is looked for by its revision is of that
pub is_of_revision : (name : Name) (parts : List PlainPart) (p : PlainPart) → find (is_in name) parts ≡ Some p → (p.name.tld ≡ name.tld) × ((p.name.day ≡ name.day) × (p.name.rev ≡ name.rev))
is_of_revision name parts p found =
    let same = and_parts (bytes_eq p.name.tld name.tld) _ (find_passes (is_in name) parts p found) in
    let numbers = and_parts (p.name.day == name.day) _ same.1 in
    ((text_decides p.name.tld name.tld).0 same.0, ((Decides-eqb p.name.day name.day).0 numbers.0, (Decides-eqb p.name.rev name.rev).0 numbers.1))

none_at : (name : Name) (parts : List PlainPart) → find (is_in name) parts ≡ None → (place : ℕ) → get (from_entries {R = part_cmp} (map plain_part_entry parts)) (key_with_part (key_of name) place) ≡ None
none_at name parts none place = part_shows (key_with_part (key_of name) place) parts
    ∙ ap (option_map part_view) (find_less (is_at_key (key_with_part (key_of name) place)) (is_in name) (λ p. by (bytes_eq p.name.tld name.tld) (p.name.day == name.day) (p.name.rev == name.rev) (p.name.part == place)) parts none)
  where
    by : (a b c d : Bool) → (a && (b && c)) ≡ false → (a && (b && (c && d))) ≡ false
    by true true true d e = cc
    by true true false d e = refl
    by true false c d e = refl
    by false b c d e = refl

-- where none is found, none is counted
pub none_counted : (name : Name) (parts : List PlainPart) → find (is_in name) parts ≡ None
    → count_by (λ place. is_some (get (from_entries {R = part_cmp} (map plain_part_entry parts)) (key_with_part (key_of name) place))) part_numbers ≡ 0
none_counted name parts none = let at = none_at name parts none in rw (at 1, at 2, at 3, at 4, at 5, at 6, at 7, at 8) refl
