-- The rows after the bytes of parts were dropped stand for the records after it.
use Rattle.std.proofs.Common.{◌≡◌, ℕ, ℤ, pos, negsuc, ◌&&◌, ◌||◌, List, [], ◌∷◌, Option, Some, None, Bool, true, false, cond, refl, sym, ◌∙◌, ap, arith}
use Rattle.std.specs.List.{list_any}
use Rattle.std.specs.Option.{option_map, option_and_then}
use Rattle.std.specs.Ordering.{eq_by_cmp, is_eq, nat_cmp, ordering_then}
use Rattle.std.specs.declared.cmp.Ordering.{Ordering}
use Rattle.std.proofs.lemmas.Int.{ints}
use Rattle.std.proofs.lemmas.Map.Text.{is_eq-slice_cmp}
use Rattle.std.proofs.lemmas.Option.{same_Some}
use Rattle.deposit_name.specs.declared.kinds.Kind.{Kind}
use Rattle.deposit_name.specs.Identifiers.{is_tld}
use Rattle.extent_map.specs.declared.extent.Extent.{Extent}
use Rattle.custody_records.specs.Keys.{PartKey, part_cmp}
use Rattle.custody_records.specs.inside.Orders.{part_total, part_exact}
use Rattle.custody_records.specs.Records.{PartRecord, Records}
use Rattle.custody_records.specs.Rows.{PartRow, Rows}
use Rattle.custody_records.specs.Form.{natural, is_within, is_deposit_day, is_part, kind_in, extents_in, part_key, part_in, form_of, InForm}
use Rattle.custody_records.specs.Purge.{dropped_if_among, is_among, record_without_bytes}
use Rattle.custody_records.proofs.FormLemmas.{in_form_has, parts_changed}
use Rattle.custody_store.specs.Dropping.{dropped_row, is_row_of, is_same_number, row_dropped_if_among, rows_without_bytes}
use Rattle.custody_machine.specs.MapValues.{map_keyed}
use Rattle.custody_machine.specs.Purge.{due_keys, records_without_due}
use Rattle.custody_machine.proofs.MapValues.{get-map_keyed}
use Rattle.custody.proofs.Gathered.{gathered_changed}
use Rattle.custody.proofs.Purges.{dropped_records}

-- ---- what a row stands for

abbrev stands_for : PartRow → Kind → Option (List Extent) → PartKey × PartRecord
stands_for r kind extents = (part_key r, record { kind = kind; received = natural r.received; len = natural r.len; digest = r.sha; extents = extents })

-- a row in form, and the record that it stands for
record IsRead (r : PartRow) (entry : PartKey × PartRecord) : Type 0 where
  form : is_part r ≡ true
  kind : Kind
  kind_is : kind_in r.kind ≡ Some kind
  extents : Option (List Extent)
  is : entry ≡ stands_for r kind extents

read_is : (r : PartRow) (entry : PartKey × PartRecord) → part_in r ≡ Some entry → IsRead r entry
read_is r entry e = by (is_part r) (kind_in r.kind) (extents_in r.extents) refl refl e
  where
    by : (form : Bool) (kinds : Option Kind) (held : Option (Option (List Extent))) → is_part r ≡ form → kind_in r.kind ≡ kinds
        → cond form (option_and_then (λ (kind : Kind). option_map (λ (extents : Option (List Extent)). stands_for r kind extents) held) kinds) None ≡ Some entry → IsRead r entry
    by true (Some kind) (Some extents) f k e = record { form = f; kind = kind; kind_is = k; extents = extents; is = sym (same_Some (stands_for r kind extents) entry e) }
    by form kinds held f k e = cc

-- ---- the row of a part's key

-- a number in form is another exactly where its value is
same_number : (low high : ℕ) (z : ℤ) (n : ℕ) → is_within low high z ≡ true → is_same_number z (pos n) ≡ is_eq (nat_cmp (natural z) n)
same_number low high (pos m) n within = grind (arith, ints)
same_number low high (negsuc m) n within = cc

eq_in_turn : (a b c d : Ordering) → is_eq (ordering_then a (ordering_then b (ordering_then c d))) ≡ (is_eq a && (is_eq b && (is_eq c && is_eq d)))
eq_in_turn a b c d = grind arith

-- a row in form is that of a part exactly where it is under the part's key
row_of_key : (r : PartRow) → is_part r ≡ true → (key : PartKey) → is_row_of r key ≡ eq_by_cmp part_cmp (part_key r) key
row_of_key r form key = by (is_tld r.tld) (is_deposit_day r.day) (is_within 0 99 r.rev) (is_within 1 8 r.part) _ refl refl refl form
  where
    by : (tld day rev place rest : Bool) → is_deposit_day r.day ≡ day → is_within 0 99 r.rev ≡ rev → is_within 1 8 r.part ≡ place → (tld && (day && (rev && (place && rest)))) ≡ true → is_row_of r key ≡ eq_by_cmp part_cmp (part_key r) key
    by true true true true rest day rev place e =
        (λ i. sym (is_eq-slice_cmp r.tld key.tld) i && (same_number _ _ r.day key.day day i && (same_number _ _ r.rev key.rev rev i && same_number _ _ r.part key.part place i)))
        ∙ sym (eq_in_turn _ (nat_cmp (natural r.day) key.day) (nat_cmp (natural r.rev) key.rev) (nat_cmp (natural r.part) key.part))
    by tld day rev place rest d v p e = cc

-- and of one of these parts exactly where its key is among theirs
among_both : (r : PartRow) → is_part r ≡ true → (keys : List PartKey) → list_any (is_row_of r) keys ≡ is_among keys (part_key r)
among_both r form [] = refl
among_both r form (key ∷ keys) = λ i. row_of_key r form key i || among_both r form keys i

-- the row without its bytes stands for the record without its extents
row_means : (keys : List PartKey) (r : PartRow) (entry : PartKey × PartRecord) → part_in r ≡ Some entry → part_in (row_dropped_if_among keys r) ≡ Some (entry.0, dropped_if_among keys entry.0 entry.1)
row_means keys r entry e =
    ap (λ b. part_in (cond b (dropped_row r) r)) (among_both r read.form keys ∙ ap (λ (it : PartKey × PartRecord). is_among keys it.0) (sym read.is)) ∙ by (is_among keys entry.0)
  where
    read : IsRead r entry
    read = read_is r entry e

    without : part_in (dropped_row r) ≡ Some (stands_for r read.kind None)
    without = λ i. cond (read.form i) (option_map (λ (kind : Kind). stands_for r kind None) (read.kind_is i)) None

    by : (b : Bool) → part_in (cond b (dropped_row r) r) ≡ Some (entry.0, cond b (record_without_bytes entry.1) entry.1)
    by true = without ∙ ap (λ (it : PartKey × PartRecord). Some (it.0, record_without_bytes it.1)) (sym read.is)
    by false = e

-- What the rows stand for after it is what they stood for, without the bytes that were due.
pub purge_means : (today : ℕ) (rows : Rows) (records : Records) → form_of rows ≡ InForm records → form_of (rows_without_bytes (due_keys today records) rows) ≡ InForm (records_without_due today records)
purge_means today rows records was =
    let keys = due_keys today records in
    parts_changed rows records was _ (map_keyed (dropped_if_among keys) records.parts)
    (gathered_changed part_in part_total part_exact (row_dropped_if_among keys) (dropped_if_among keys) (row_means keys) rows.parts records.parts (in_form_has rows records was).parts)
    ∙ ap InForm (dropped_records today records _ (get-map_keyed part_cmp part_exact (dropped_if_among keys) records.parts))
