-- Rows of one field each, and their forms.
use Rattle.std.specs.Prelude.{⊤}
use Rattle.std.proofs.Common.{All, List, Some, ℕ, ◌≡◌, ◌≢◌, ◌≤◌, ◌<◌, ◌*◌, ◌/◌, ◌%◌, ◌∷◌, ◌∙◌, [], ap, arith, get_or, length, refl, subst, sym, take}
use Rattle.std.specs.List.{AllZip}
use Rattle.std.proofs.lemmas.List.{get_or-map, get_or-take, length-map, length-take, take-map}
use Rattle.std.proofs.lemmas.List.Elements.{All-from_get_or, All-map, All-weaker}
use Rattle.std.proofs.lemmas.Option.{slice_get-get_or}
use Rattle.std.proofs.Math.Nat.{div-mul-le_self, mod-eq-sub-div-mul}
use Rattle.dnrd_csv.specs.declared.form.Form.{Form}
use Rattle.dnrd_csv.specs.declared.form.Form.TheVariants as form
use Rattle.dnrd_csv.specs.Form.{HasForm}
use Rattle.dnrd_csv.specs.inside.Fields.{AreRowsOf}
use Rattle.dnrd_csv.specs.inside.Spellings.{BeginsWithKey, rows_cut}
use Rattle.dnrd_csv.specs.Table.{HaveForms, HaveWidth, IsFirstOutOfForm}
use Rattle.dnrd_csv.specs.Text.{key_rows}
use Rattle.dnrd_csv.proofs.FieldLemmas.{rows_of_fields}
use Rattle.dnrd_csv.proofs.RowLemmas.{flat}
use Rattle.dnrd_csv.proofs.Tables.{out_of_form_rows}
use Rattle.dnrd_csv.proofs.WidthLemmas.{cut_rows}

keys_wide : (keys : List (List ℕ)) → HaveWidth 1 (key_rows keys)
keys_wide keys = All-map (λ (row : List (List ℕ)). length row ≡ 1) (λ (key : List ℕ). key ∷ []) keys (λ k d inside. refl)

flat_keys : (keys : List (List ℕ)) → keys ≡ flat (key_rows keys)
flat_keys [] = refl
flat_keys (key ∷ keys) = ap (λ (t : List (List ℕ)). key ∷ t) (flat_keys keys)

cut_keys : (keys : List (List ℕ)) → key_rows keys ≡ rows_cut 1 keys
cut_keys keys = sym (cut_rows 1 (key_rows keys) keys (omega arith) (keys_wide keys) (flat_keys keys)).1

keys_have_form : (f : Form) (keys : List (List ℕ)) → All (HasForm f) keys → HaveForms (f ∷ []) (key_rows keys)
keys_have_form f keys each =
    All-map (λ (row : List (List ℕ)). AllZip HasForm (f ∷ []) row) (λ (key : List ℕ). key ∷ []) keys
    (All-weaker (HasForm f) (λ key. HasForm f key × ⊤) (λ key has. (has, tt)) keys each)

-- the first key out of form
pub first_key : (f : Form) (keys : List (List ℕ)) (i : ℕ) → i < length keys → ((k : ℕ) → k < i → HasForm f (get_or keys k [])) → ¬ HasForm f (get_or keys i [])
    → IsFirstOutOfForm (f ∷ []) (key_rows keys) i 0 (get_or keys i [])
first_key f keys i inside before wrong =
    let within : i < length (key_rows keys) = omega (arith, inside, length-map keys (λ (key : List ℕ). key ∷ [])) in
    let each : All (HasForm f) (take i keys) = All-from_get_or (HasForm f) (take i keys) [] (λ k below.
    let less : k < i = omega (arith, below, length-take i keys) in
    subst (HasForm f) (sym (get_or-take i keys k [] less)) (before k less)) in
    record {
      fields = get_or keys i [] ∷ [];
      there = slice_get-get_or (key_rows keys) i [] within ∙ ap Some (get_or-map (λ (key : List ℕ). key ∷ []) keys i [] [] inside);
      first_of_row = record { column_form = f; there = refl; form_there = refl; out_of_form = wrong; fields_before = tt };
      rows_before = subst (HaveForms (f ∷ [])) (sym (take-map (λ (key : List ℕ). key ∷ []) i keys)) (keys_have_form f (take i keys) each);
    }

-- why the rows of one column are refused
pub refused_key : (columns : List Form) (keys : List (List ℕ)) (d : Form) (row : ℕ) (field : List ℕ) → length columns ≡ 1 → IsFirstOutOfForm (get_or columns 0 d ∷ []) (key_rows keys) row 0 field
    → HaveWidth (length columns) (rows_cut (length columns) keys) × ¬ HaveForms columns (rows_cut (length columns) keys)
    × IsFirstOutOfForm columns (rows_cut (length columns) keys) row 0 field
refused_key [] keys d row field one first = cc one
refused_key (f ∷ []) keys d row field one first =
    subst (λ (rows : List (List (List ℕ))). HaveWidth 1 rows × ¬ HaveForms (f ∷ []) rows × IsFirstOutOfForm (f ∷ []) rows row 0 field) (cut_keys keys)
    (keys_wide keys, out_of_form_rows (f ∷ []) (key_rows keys) row 0 field first, first)
refused_key (f ∷ g ∷ columns) keys d row field one first = cc one

filled : (columns : List Form) (d : Form) (field : List ℕ) → BeginsWithKey columns → HasForm (get_or columns 0 d) field → field ≢ []
filled (form.HostName ∷ columns) d field begins has none = omega (arith, has.0, ap length none)
filled (form.Id ∷ columns) d field begins has none = omega (arith, has.0, ap length none)
filled _ d field begins has none = absurd begins

some_column : (columns : List Form) → BeginsWithKey columns → 1 ≤ length columns
some_column [] begins = absurd begins
some_column (f ∷ columns) begins = omega arith

-- so many rows
pub cut_fits : (n width : ℕ) → n % width ≡ 0 → n ≡ n / width * width
cut_fits n width even = omega (arith, even, mod-eq-sub-div-mul n width, div-mul-le_self n width)

-- the rows that fields are, where those of one column are in form
pub cut_are_rows : (columns : List Form) (fields : List (List ℕ)) (d : Form) → BeginsWithKey columns → length fields % length columns ≡ 0
    → (length columns ≡ 1 → All (HasForm (get_or columns 0 d)) fields) → AreRowsOf (length columns) fields (rows_cut (length columns) fields)
cut_are_rows columns fields d begins even forms =
    rows_of_fields (length columns) (length fields / length columns) fields (some_column columns begins) (cut_fits (length fields) (length columns) even)
    (λ one. All-weaker (HasForm (get_or columns 0 d)) (λ field. field ≢ []) (λ field has. filled columns d field begins has) fields (forms one))
