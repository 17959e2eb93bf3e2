-- Rows of one width as the fields that they are made of.
use Rattle.std.proofs.Common.{◌≡◌, ◌≢◌, ◌≤◌, ◌*◌, ◌%◌, ◌++◌, ◌∷◌, ◌∙◌, [], ℕ, List, All, ap, arith, drop, length, refl, suc, sym, take, zero}
use Rattle.std.specs.List.{AllByRecursion}
use Rattle.std.proofs.lemmas.List.{length-drop, length-take, take-append-drop}
use Rattle.std.proofs.lemmas.List.Elements.{All-drop, All-from_recursion, All-head, All-take, recursion_from_All}
use Rattle.std.proofs.Math.Nat.{mul-mod_left}
use Rattle.dnrd_csv.specs.inside.Fields.{AreRowsOf}
use Rattle.dnrd_csv.specs.inside.Rows.{rows_from}
use Rattle.dnrd_csv.specs.Text.{IsRow}
use Rattle.dnrd_csv.proofs.RowLemmas.{flat, flat_len}

less : (width count : ℕ) (fields : List (List ℕ)) → length fields ≡ suc count * width → length (drop width fields) ≡ count * width
less width count fields fits = omega (arith, fits, length-drop width fields)

first_wide : (width count : ℕ) (fields : List (List ℕ)) → length fields ≡ suc count * width → length (take width fields) ≡ width
first_wide width count fields fits = omega (arith, fits, length-take width fields)

-- rows that are cut from fields have them one after another
pub flat-rows_from : (width count : ℕ) (fields : List (List ℕ)) → length fields ≡ count * width → flat (rows_from width count fields) ≡ fields
unfolding rows_from
flat-rows_from width zero [] fits = refl
flat-rows_from width zero (field ∷ fields) fits = absurd (omega (arith, fits))
flat-rows_from width (suc count) fields fits =
    ap (λ (t : List (List ℕ)). take width fields ++ t) (flat-rows_from width count (drop width fields) (less width count fields fits))
    ∙ take-append-drop width fields

each_wide : (width count : ℕ) (fields : List (List ℕ)) → length fields ≡ count * width → AllByRecursion (λ row. length row ≡ width) (rows_from width count fields)
unfolding rows_from
each_wide width zero fields fits = tt
each_wide width (suc count) fields fits = (first_wide width count fields fits, each_wide width count (drop width fields) (less width count fields fits))

-- a row of one field or more, which is not empty if it is alone
is_row_of : (width : ℕ) (row : List (List ℕ)) → 1 ≤ width → length row ≡ width → (width ≡ 1 → All (λ field. field ≢ []) row) → IsRow row
is_row_of width [] some wide filled = absurd (omega (arith, some, wide))
is_row_of width (field ∷ []) some wide filled = ((λ e. cc e), (λ e. All-head (λ f. f ≢ []) field [] (filled (sym wide)) (cc e)))
is_row_of width (field ∷ next ∷ row) some wide filled = ((λ e. cc e), (λ e. cc e))

each_in_form : (width count : ℕ) (fields : List (List ℕ)) → 1 ≤ width → length fields ≡ count * width → (width ≡ 1 → All (λ field. field ≢ []) fields)
    → AllByRecursion IsRow (rows_from width count fields)
unfolding rows_from
each_in_form width zero fields some fits filled = tt
each_in_form width (suc count) fields some fits filled = (
  is_row_of width (take width fields) some (first_wide width count fields fits) (λ one. All-take (λ f. f ≢ []) width fields (filled one)),
  each_in_form width count (drop width fields) some (less width count fields fits) (λ one. All-drop (λ f. f ≢ []) width fields (filled one)),
)

-- they are the rows of the fields, if no field is empty where each row has one alone
pub rows_of_fields : (width count : ℕ) (fields : List (List ℕ)) → 1 ≤ width → length fields ≡ count * width → (width ≡ 1 → All (λ field. field ≢ []) fields)
    → AreRowsOf width fields (rows_from width count fields)
rows_of_fields width count fields some fits filled = record {
  some = some;
  in_form = All-from_recursion IsRow (rows_from width count fields) (each_in_form width count fields some fits filled);
  width_right = All-from_recursion (λ row. length row ≡ width) (rows_from width count fields) (each_wide width count fields fits);
  fields_right = flat-rows_from width count fields fits;
}

-- fields of rows end with a row
pub ends_with_row : (width : ℕ) (fields : List (List ℕ)) (rows : List (List (List ℕ))) → AreRowsOf width fields rows → length fields % width ≡ 0
ends_with_row width fields rows of =
    ap (λ (n : ℕ). n % width) (sym (ap length of.fields_right) ∙ flat_len width rows of.width_right) ∙ mul-mod_left (length rows) width

alone : (rows : List (List (List ℕ))) → AllByRecursion (λ row. length row ≡ 1) rows → AllByRecursion IsRow rows → AllByRecursion (λ field. field ≢ []) (flat rows)
alone [] wide in_form = tt
alone ([] ∷ rows) wide in_form = cc wide.0
alone ((field ∷ []) ∷ rows) wide in_form = ((λ e. in_form.0.1 (cc e)), alone rows wide.1 in_form.1)
alone ((field ∷ next ∷ row) ∷ rows) wide in_form = cc wide.0

-- no field is empty that is a row alone
pub alone_filled : (fields : List (List ℕ)) (rows : List (List (List ℕ))) → AreRowsOf 1 fields rows → All (λ field. field ≢ []) fields
alone_filled fields rows of =
    rw (sym of.fields_right) (All-from_recursion (λ field. field ≢ []) (flat rows)
    (alone rows (recursion_from_All (λ row. length row ≡ 1) rows of.width_right) (recursion_from_All IsRow rows of.in_form)))
