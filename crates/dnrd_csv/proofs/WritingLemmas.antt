-- What one more byte, field or row adds to a text.
use Rattle.std.specs.Prelude.{◌==◌, if◌then◌else◌}
use Rattle.std.proofs.Common.{◌≡◌, ◌<◌, ◌+◌, ◌++◌, ◌∷◌, ◌∙◌, [], ℕ, List, ap, append_assoc, arith, get_or, inl, inr, length, map, refl, suc, sym, take, zero}
use Rattle.std.specs.List.{join_with_byte}
use Rattle.std.proofs.lemmas.Bool.{cases_Bool, ne_eqb}
use Rattle.std.proofs.lemmas.List.{append-nil, map-append, take_more}
use Rattle.dnrd_csv.specs.Text.{escaped_field, field_text, row_text, table_text}

-- the quotes of a part are doubled by themselves
pub doubled-append : (xs ys : List ℕ) → escaped_field (xs ++ ys) ≡ escaped_field xs ++ escaped_field ys
unfolding escaped_field
doubled-append [] ys = refl
doubled-append (byte ∷ xs) ys = elim (cases_Bool (byte == 34)) [
  | inl quote ↦ rw quote (ap (λ (t : List ℕ). 34 ∷ 34 ∷ t) (doubled-append xs ys))
  | inr other ↦ rw other (ap (λ (t : List ℕ). byte ∷ t) (doubled-append xs ys))
]

-- one more byte of a quoted field
pub doubled_more : (field : List ℕ) (i d : ℕ) → i < length field → escaped_field (take (i + 1) field) ≡ escaped_field (take i field) ++ escaped_field (get_or field i d ∷ [])
doubled_more field i d inside = ap escaped_field (take_more field i d inside) ∙ doubled-append (take i field) (get_or field i d ∷ [])

-- the comma after some fields
abbrev lead : List (List ℕ) → List ℕ
lead [] = []
lead (first ∷ rest) = 44 ∷ []

joined-push : (xs : List (List ℕ)) (x : List ℕ) → join_with_byte 44 (xs ++ x ∷ []) ≡ join_with_byte 44 xs ++ (lead xs ++ x)
joined-push [] x = refl
joined-push (y ∷ []) x = refl
joined-push (y ∷ z ∷ xs) x = ap (λ (t : List ℕ). y ++ 44 ∷ t) (joined-push (z ∷ xs) x)
    ∙ sym (append_assoc y (44 ∷ join_with_byte 44 (z ∷ xs)) (44 ∷ x))

lead_is : (row : List (List ℕ)) (i : ℕ) → i < length row → lead (map field_text (take i row)) ≡ (if i == 0 then [] else 44 ∷ [])
lead_is [] i inside = absurd (omega (arith, inside))
lead_is (field ∷ row) zero inside = refl
lead_is (field ∷ row) (suc i) inside = rw (ne_eqb (suc i) 0 (λ e. cc e)) refl

-- one more field of a row
pub row_more : (row : List (List ℕ)) (i : ℕ) → i < length row
    → join_with_byte 44 (map field_text (take (i + 1) row)) ≡ (join_with_byte 44 (map field_text (take i row)) ++ (if i == 0 then [] else 44 ∷ [])) ++ field_text (get_or row i [])
row_more row i inside =
    let texts = map field_text (take i row) in
    let last = field_text (get_or row i []) in
    ap (λ (t : List (List ℕ)). join_with_byte 44 (map field_text t)) (take_more row i [] inside)
    ∙ ap (join_with_byte 44) (map-append field_text (take i row) (get_or row i [] ∷ []))
    ∙ joined-push texts last
    ∙ ap (λ (t : List ℕ). join_with_byte 44 texts ++ (t ++ last)) (lead_is row i inside)
    ∙ sym (append_assoc (join_with_byte 44 texts) (if i == 0 then [] else 44 ∷ []) last)

pub table_text-push : (rows : List (List (List ℕ))) (row : List (List ℕ)) → table_text (rows ++ row ∷ []) ≡ table_text rows ++ row_text row
table_text-push [] row = append-nil (row_text row)
table_text-push (first ∷ rows) row = ap (λ (t : List ℕ). row_text first ++ t) (table_text-push rows row) ∙ sym (append_assoc (row_text first) (table_text rows) (row_text row))

-- one more row of a table
pub table_more : (rows : List (List (List ℕ))) (i : ℕ) → i < length rows → table_text (take (i + 1) rows) ≡ table_text (take i rows) ++ row_text (get_or rows i [])
table_more rows i inside = ap table_text (take_more rows i [] inside) ∙ table_text-push (take i rows) (get_or rows i [])
