-- Rows of one width in one list of fields, and what holds of each of them.
use Rattle.std.specs.Prelude.{flat_map}
use Rattle.std.proofs.Common.{◌≡◌, ◌<◌, ◌+◌, ◌*◌, ◌++◌, ◌∷◌, ◌∙◌, [], ℕ, List, All, None, Some, add-one, ap, append_assoc, arith, drop, get_or, length, refl, suc, sym, take, zero}
use Rattle.std.specs.List.{AllZip}
use Rattle.std.proofs.lemmas.List.{append-nil, drop-drop, get_or-drop, get_or-take, length-append, length-drop, length-take, take_more}
use Rattle.std.proofs.lemmas.List.Elements.{All-head, All-tail}
use Rattle.std.proofs.Math.Seq.{drop-append_seam, take-append_seam}
use Rattle.csv.specs.Records.{field_at}
use Rattle.dnrd_csv.specs.inside.Rows.{rows_from}
use Rattle.dnrd_csv.specs.Text.{key_rows}

-- all fields of some rows
abbrev pub flat : List (List (List ℕ)) → List (List ℕ)
flat rows = flat_map (λ row. row) rows

pub flat-push : (rows : List (List (List ℕ))) (row : List (List ℕ)) → flat (rows ++ row ∷ []) ≡ flat rows ++ row
flat-push [] row = append-nil row
flat-push (first ∷ rows) row = ap (λ (t : List (List ℕ)). first ++ t) (flat-push rows row) ∙ sym (append_assoc first (flat rows) row)

-- the fields of rows of one width are so many
pub flat_len : (width : ℕ) (rows : List (List (List ℕ))) → All (λ row. length row ≡ width) rows → length (flat rows) ≡ length rows * width
flat_len width [] each = omega arith
flat_len width (row ∷ rows) each =
    length-append row (flat rows)
    ∙ ap (λ (n : ℕ). length row + n) (flat_len width rows (All-tail (λ r. length r ≡ width) row rows each))
    ∙ ap (λ (n : ℕ). n + length rows * width) (All-head (λ r. length r ≡ width) row rows each)
    ∙ omega arith

-- and, cut again, they are the rows
pub flat_cut : (width : ℕ) (rows : List (List (List ℕ))) → All (λ row. length row ≡ width) rows → rows_from width (length rows) (flat rows) ≡ rows
unfolding rows_from
flat_cut width [] each = refl
flat_cut width (row ∷ rows) each =
    let wide = sym (All-head (λ r. length r ≡ width) row rows each) in
    let first : take width (row ++ flat rows) ≡ row = ap (λ (n : ℕ). take n (row ++ flat rows)) wide ∙ take-append_seam row (flat rows) in
    let others : drop width (row ++ flat rows) ≡ flat rows = ap (λ (n : ℕ). drop n (row ++ flat rows)) wide ∙ drop-append_seam row (flat rows) in
    ap (λ (r : List (List ℕ)). r ∷ rows_from width (length rows) (drop width (row ++ flat rows))) first
    ∙ ap (λ (t : List (List ℕ)). row ∷ rows_from width (length rows) t) others
    ∙ ap (λ (t : List (List (List ℕ))). row ∷ t) (flat_cut width rows (All-tail (λ r. length r ≡ width) row rows each))

pub length-rows_from : (width count : ℕ) (fields : List (List ℕ)) → length (rows_from width count fields) ≡ count
unfolding rows_from
length-rows_from width zero fields = refl
length-rows_from width (suc count) fields = ap suc (length-rows_from width count (drop width fields))

-- the row at a place
pub row_at : (width count : ℕ) (fields : List (List ℕ)) (i : ℕ) (d : List (List ℕ)) → i < count → get_or (rows_from width count fields) i d ≡ take width (drop (i * width) fields)
unfolding rows_from
row_at width zero fields i d inside = absurd (omega (arith, inside))
row_at width (suc count) fields zero d inside =
    let none : 0 ≡ 0 * width = omega arith in
    ap (λ (n : ℕ). take width (drop n fields)) none
row_at width (suc count) fields (suc i) d inside =
    row_at width count (drop width fields) i d (omega (arith, inside))
    ∙ ap (take width) (drop-drop (i * width) width fields)
    ∙ ap (λ (n : ℕ). take width (drop n fields)) (omega arith)

-- the field at a place of a row
pub field_in : (width count : ℕ) (fields : List (List ℕ)) (i j : ℕ) → i < count → j < length (get_or (rows_from width count fields) i [])
    → get_or fields (i * width + j) [] ≡ get_or (get_or (rows_from width count fields) i []) j []
field_in width count fields i j inside column =
    let row = row_at width count fields i [] inside in
    let short : j < width = omega (arith, ap length row, length-take width (drop (i * width) fields), column) in
    sym (ap (λ (r : List (List ℕ)). get_or r j []) row ∙ get_or-take width (drop (i * width) fields) j [] short ∙ get_or-drop (i * width) fields j [])

-- it is one of the fields
pub field_inside : (width count : ℕ) (fields : List (List ℕ)) (i j : ℕ) → i < count → j < length (get_or (rows_from width count fields) i []) → i * width + j < length fields
field_inside width count fields i j inside column =
    let row = row_at width count fields i [] inside in
    omega (arith, ap length row, length-take width (drop (i * width) fields), length-drop (i * width) fields, column)

ones : (count : ℕ) (fields : List (List ℕ)) → length fields ≡ count → key_rows fields ≡ rows_from 1 count fields
unfolding rows_from
ones zero [] fits = refl
ones zero (field ∷ fields) fits = cc fits
ones (suc count) [] fits = cc fits
ones (suc count) (field ∷ fields) fits = ap (λ (t : List (List (List ℕ))). (field ∷ []) ∷ t) (ones count fields (omega (arith, fits)))

-- the fields of rows that have one each
pub singles : (width count : ℕ) (fields : List (List ℕ)) → length fields ≡ count * width → All (λ row. length row ≡ 1) (rows_from width count fields)
    → key_rows fields ≡ rows_from width count fields
unfolding rows_from
singles width zero fields fits each = ones zero fields (omega (arith, fits))
singles width (suc count) fields fits each =
    let first = All-head (λ r. length r ≡ 1) (take width fields) (rows_from width count (drop width fields)) each in
    let one : width ≡ 1 = omega (arith, first, length-take width fields, fits) in
    let len = rw one at fits in
    ones (suc count) fields (omega (arith, len)) ∙ ap (λ (n : ℕ). rows_from n (suc count) fields) (sym one)

-- a field inside
pub field_there : (fields : List (List ℕ)) (i : ℕ) → i < length fields → field_at fields i ≡ Some (get_or fields i [])
unfolding field_at
field_there [] i inside = absurd (omega (arith, inside))
field_there (field ∷ fields) zero inside = refl
field_there (field ∷ fields) (suc i) inside = field_there fields i (omega (arith, inside))

taken_next : (fields : List (List ℕ)) (i : ℕ) (field : List ℕ) → field_at fields i ≡ Some field → take (suc i) fields ≡ take i fields ++ field ∷ []
unfolding field_at
taken_next [] i field e = cc e
taken_next (first ∷ fields) zero field e = cc e
taken_next (first ∷ fields) (suc i) field e = ap (λ (t : List (List ℕ)). first ∷ t) (taken_next fields i field e)

-- the fields up to a place, and the one there
pub taken_more : (fields : List (List ℕ)) (i : ℕ) (field : List ℕ) → field_at fields i ≡ Some field → take (i + 1) fields ≡ take i fields ++ field ∷ []
taken_more fields i field e = ap (λ (n : ℕ). take n fields) (add-one i) ∙ taken_next fields i field e

-- the fields up to a place with none
pub taken_all : (fields : List (List ℕ)) (i : ℕ) → field_at fields i ≡ None → take i fields ≡ fields
unfolding field_at
taken_all [] zero e = refl
taken_all [] (suc i) e = refl
taken_all (first ∷ fields) zero e = cc e
taken_all (first ∷ fields) (suc i) e = ap (λ (t : List (List ℕ)). first ∷ t) (taken_all fields i e)

zip_push : {A B : Type 0} (R : A → B → Type 0) (xs : List A) (ys : List B) (x : A) (y : B) → AllZip R xs ys → R x y → AllZip R (xs ++ x ∷ []) (ys ++ y ∷ [])
zip_push R [] [] x y each last = (last, tt)
zip_push R [] (b ∷ ys) x y each last = absurd each
zip_push R (a ∷ xs) [] x y each last = absurd each
zip_push R (a ∷ xs) (b ∷ ys) x y each last = (each.0, zip_push R xs ys x y each.1 last)

-- one more pair that R holds of
pub zip_more : {A B : Type 0} (R : A → B → Type 0) (xs : List A) (ys : List B) (i : ℕ) (d : A) (e : B) → i < length xs → i < length ys
    → AllZip R (take i xs) (take i ys) → R (get_or xs i d) (get_or ys i e) → AllZip R (take (i + 1) xs) (take (i + 1) ys)
zip_more R xs ys i d e left right each more = rw (take_more xs i d left, take_more ys i e right) (zip_push R (take i xs) (take i ys) (get_or xs i d) (get_or ys i e) each more)

-- what R holds of at a place
pub zip_at : {A B : Type 0} (R : A → B → Type 0) (xs : List A) (ys : List B) (i : ℕ) (d : A) (e : B) → AllZip R xs ys → i < length xs → R (get_or xs i d) (get_or ys i e)
zip_at R [] ys i d e each inside = absurd (omega (arith, inside))
zip_at R (x ∷ xs) [] i d e each inside = absurd each
zip_at R (x ∷ xs) (y ∷ ys) zero d e each inside = each.0
zip_at R (x ∷ xs) (y ∷ ys) (suc i) d e each inside = zip_at R xs ys i d e each.1 (omega (arith, inside))
