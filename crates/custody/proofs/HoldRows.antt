-- The rows of holds, and what they stand for: where a hold is made, and where one is lifted.
use Rattle.std.proofs.Common.{◌≡◌, ℕ, pos, List, Option, Some, None, Bool, true, false, ◌&&◌, cond, refl, sym, ◌∙◌, ap, arith}
use Rattle.std.specs.Option.{option_map}
use Rattle.std.specs.Str.{bytes_eq}
use Rattle.std.specs.FinMap.{FinMap, get, get-insert, insert, same_map}
use Rattle.std.proofs.lemmas.Map.Text.{is_eq-slice_cmp}
use Rattle.std.proofs.lemmas.Slice.Eq.{bytes_eq-Decides}
use Rattle.schedule.specs.Schedule.{IsMoment}
use Rattle.deposit_name.specs.Identifiers.{is_reference, is_tld}
use Rattle.custody_records.specs.Keys.{text_cmp}
use Rattle.custody_records.specs.inside.Orders.{text_exact, text_total}
use Rattle.custody_records.specs.Records.{Hold, Records, lifted_at, with_hold}
use Rattle.custody_records.specs.Rows.{HoldRow, Rows, row_with_lifting, with_hold_row, with_lifting}
use Rattle.custody_records.specs.Form.{hold_in, hold_of_row, is_day, is_hold, is_lifting, is_moment, form_of, InForm, HasCurrentSchema}
use Rattle.custody_records.specs.RowsOfRecords.{IsHold, row_of_hold}
use Rattle.custody_records.proofs.FieldLemmas.{moment_passes}
use Rattle.custody_records.proofs.FormLemmas.{hold_inserted, holds_changed, holds_gathered}
use Rattle.custody_records.proofs.ReadBack.{hold_read_back}
use Rattle.custody_machine.specs.MapValues.{map_keyed}
use Rattle.custody_machine.proofs.MapValues.{get-map_keyed}
use Rattle.custody.proofs.Gathered.{gathered_changed}

-- the hold of a row in form
row_holds : (row : HoldRow) (entry : List ℕ × Hold) → hold_in row ≡ Some entry → (is_hold row ≡ true) × ((row.reference, hold_of_row row) ≡ entry)
row_holds row entry e = by (is_hold row) refl e
  where
    by : (form : Bool) → is_hold row ≡ form → cond form (Some (row.reference, hold_of_row row)) None ≡ Some entry → (is_hold row ≡ true) × ((row.reference, hold_of_row row) ≡ entry)
    by true is e = (is, cc)
    by false is e = cc

module _ (rows : Rows) (records : Records) (current : HasCurrentSchema rows) (was : form_of rows ≡ InForm records) where
  -- a hold that is made
  pub hold_means : (reference : List ℕ) (hold : Hold) → IsHold reference hold → get records.holds reference ≡ None → form_of (with_hold_row (row_of_hold reference hold) rows) ≡ InForm (with_hold records reference hold)
  hold_means reference hold in_form new = hold_inserted rows records was (row_of_hold reference hold) reference hold current (hold_read_back reference hold in_form) new

  -- ---- a hold that is lifted

  module _ (reference : List ℕ) (at : ℕ) where
    -- the hold of this reference with the moment of its lifting, each other as it is
    abbrev lifted_if : List ℕ → Hold → Hold
    lifted_if key hold = cond (bytes_eq key reference) (lifted_at at hold) hold

    row_lifted : IsMoment at → (row : HoldRow) (entry : List ℕ × Hold) → hold_in row ≡ Some entry → hold_in (row_with_lifting reference at row) ≡ Some (entry.0, lifted_if entry.0 entry.1)
    row_lifted moment row entry e =
        by (bytes_eq row.reference reference) ∙ ap (λ (entry : List ℕ × Hold). Some (entry.0, lifted_if entry.0 entry.1)) read.1
      where
        read : (is_hold row ≡ true) × ((row.reference, hold_of_row row) ≡ entry)
        read = row_holds row entry e

        with_moment : (a b c d e f : Bool) → (a && (b && (c && (d && e)))) ≡ true → f ≡ true → (a && (b && (c && (d && f)))) ≡ true
        with_moment a b c d e f p q = grind arith

        by : (b : Bool) → hold_in (cond b (record row { lifted = Some (pos at) }) row) ≡ Some (row.reference, cond b (lifted_at at (hold_of_row row)) (hold_of_row row))
        by true = ap (λ form. cond form (Some (row.reference, lifted_at at (hold_of_row row))) None) (with_moment (is_reference row.reference) (is_tld row.tld) (is_day row.day) (is_moment row.at) (is_lifting row.lifted) (is_moment (pos at)) read.0 (moment_passes at moment))
        by false = ap (λ form. cond form (Some (row.reference, hold_of_row row)) None) read.0

    -- that is to replace the hold of the reference
    lifts_one : (holds : FinMap text_cmp Hold) (hold : Hold) → get holds reference ≡ Some hold → map_keyed lifted_if holds ≡ insert holds reference (lifted_at at hold)
    lifts_one holds hold there = same_map text_total text_exact _ _ (λ q.
        get-map_keyed text_cmp text_exact lifted_if holds q ∙ by q (bytes_eq q reference) refl
        ∙ sym (get-insert text_total holds reference (lifted_at at hold) q ∙ ap (λ b. cond b (Some (lifted_at at hold)) (get holds q)) (is_eq-slice_cmp q reference)))
      where
        as_it_is : (o : Option Hold) → option_map (λ (h : Hold). h) o ≡ o
        as_it_is None = refl
        as_it_is (Some h) = refl

        by : (q : List ℕ) (b : Bool) → bytes_eq q reference ≡ b → option_map (λ (h : Hold). cond b (lifted_at at h) h) (get holds q) ≡ cond b (Some (lifted_at at hold)) (get holds q)
        by q true is = ap (option_map (lifted_at at)) (ap (get holds) ((bytes_eq-Decides q reference).0 is) ∙ there)
        by q false is = as_it_is (get holds q)

    pub lifting_means : IsMoment at → (hold : Hold) → get records.holds reference ≡ Some hold → form_of (with_lifting reference at rows) ≡ InForm (with_hold records reference (lifted_at at hold))
    lifting_means moment hold there =
        holds_changed rows records was current _ _
        (gathered_changed hold_in text_total text_exact (row_with_lifting reference at) lifted_if (row_lifted moment) rows.holds records.holds (holds_gathered rows records was current)
        ∙ ap Some (lifts_one records.holds hold there))
