-- What a table's text determines.
use Rattle.std.proofs.Common.{List, ℕ, ◌≡◌, ◌∙◌, [], get_or, length, map, refl, subst, sym, take}
use Rattle.std.specs.List.{AllZip}
use Rattle.std.proofs.lemmas.Option.{get_or_from_slice_get, slice_get_within}
use Rattle.dnrd_csv.specs.Form.{HasForm}
use Rattle.dnrd_csv.specs.Table.{HaveWidth, HaveForms, HaveDistinctKeys, IsFirstOutOfForm, IsFirstRepeat, IsTable, RefusesTableFile}
use Rattle.dnrd_csv.specs.inside.RowReading.{RefusesRows}
use Rattle.dnrd_csv.specs.Text.{IsTextOf}
use Rattle.dnrd_csv.specs.declared.errors.TableError.{TableError}
use Rattle.dnrd_csv.specs.declared.errors.TableError.TheVariants as fault
use Rattle.dnrd_csv.specs.declared.form.Form.{Form}
use Rattle.dnrd_csv.proofs.Records.{one_text}
use Rattle.dnrd_csv.proofs.RowLemmas.{zip_at}

pub one_reading : (bytes : List ℕ) (xs ys : List (List (List ℕ))) → IsTextOf bytes xs → IsTextOf bytes ys → xs ≡ ys
one_reading bytes xs ys first second = one_text xs ys first.rows_in_form second.rows_in_form (sym first.text ∙ second.text)

-- a text that is a table is refused for memory alone
pub refused_for_memory : (columns : List Form) (key : ℕ) (bytes : List ℕ) (rows : List (List (List ℕ))) (f : TableError)
    → IsTable columns key bytes rows → RefusesTableFile columns key bytes f → f ≡ fault.OutOfMemory
refused_for_memory columns key bytes rows (fault.NotUtf8 offset) is wrong = absurd (wrong.0 is.utf8)
refused_for_memory columns key bytes rows (fault.NotRows row) is wrong = absurd (wrong.1 rows is.text)
refused_for_memory columns key bytes rows (fault.ColumnCount row fields) is wrong =
    let same = one_reading bytes rows wrong.1 is.text wrong.2 in
    absurd (wrong.3 (subst (λ (r : List (List (List ℕ))). HaveWidth (length columns) r) same is.columns_right))
refused_for_memory columns key bytes rows (fault.FieldForm row column field) is wrong =
    let same = one_reading bytes rows wrong.1 is.text wrong.2 in
    absurd (wrong.4 (subst (λ (r : List (List (List ℕ))). HaveForms columns r) same is.forms_right))
refused_for_memory columns key bytes rows (fault.DuplicateKey row earlier) is wrong =
    let same = one_reading bytes rows wrong.1 is.text wrong.2 in
    absurd (wrong.5 (subst (λ (r : List (List (List ℕ))). HaveDistinctKeys key r) same is.keys_right))
refused_for_memory columns key bytes rows fault.OutOfMemory is wrong = refl

-- what refuses the rows refuses the table
pub refuses : (columns : List Form) (key : ℕ) (bytes : List ℕ) (f : TableError) → RefusesRows (length columns) bytes f → RefusesTableFile columns key bytes f
refuses columns key bytes (fault.NotUtf8 offset) wrong = wrong
refuses columns key bytes (fault.NotRows row) wrong = wrong
refuses columns key bytes (fault.ColumnCount row fields) wrong = wrong
refuses columns key bytes fault.OutOfMemory wrong = tt
refuses columns key bytes _ wrong = absurd wrong

-- rows with a field out of form are not in form
pub out_of_form_rows : (columns : List Form) (rows : List (List (List ℕ))) (row column : ℕ) (field : List ℕ) → IsFirstOutOfForm columns rows row column field → ¬ HaveForms columns rows
out_of_form_rows columns rows row column field place have =
    let first = place.first_of_row in
    let each = have row [] (slice_get_within rows row place.fields place.there) in
    let of_fields = subst (λ (r : List (List ℕ)). AllZip HasForm columns r) (get_or_from_slice_get rows row place.fields [] place.there) each in
    let at = zip_at HasForm columns place.fields column first.column_form [] of_fields (slice_get_within columns column first.column_form first.form_there) in
    let of_form = subst (λ (f : Form). HasForm f (get_or place.fields column [])) (get_or_from_slice_get columns column first.column_form first.column_form first.form_there) at in
    first.out_of_form (subst (λ (t : List ℕ). HasForm first.column_form t) (get_or_from_slice_get place.fields column field [] first.there) of_form)

-- rows of which one has the key of another do not have distinct keys
pub repeat_rows : (key : ℕ) (rows : List (List (List ℕ))) (row earlier : ℕ) → IsFirstRepeat key rows row earlier → ¬ HaveDistinctKeys key rows
repeat_rows key rows row earlier first have =
    let keys = map (take key) rows in
    have earlier row [] first.is_earlier (slice_get_within keys row first.repeated first.there)
    (get_or_from_slice_get keys earlier first.repeated [] first.earlier_there ∙ sym (get_or_from_slice_get keys row first.repeated [] first.there))
