-- Rows of one width, read in any spelling.
use Rattle.std.proofs.Common.{Bor, List, Some, ℕ, ◌≡◌, ◌≢◌, ◌≤◌, ◌<◌, ◌+◌, ◌/◌, ◌%◌, ◌++◌, ◌∷◌, ◌∙◌, [], ap, append_assoc, arith, length, refl, subst, sym}
use Rattle.std.proofs.lemmas.List.{append-nil, length-append}
use Rattle.std.proofs.lemmas.List.Elements.{All-nil, All-push}
use Rattle.std.proofs.lemmas.Option.{get_or_from_slice_get, slice_get-get_or, slice_get_within}
use Rattle.std.proofs.Math.Nat.{mul-div_cancel, mul-mod_left}
use Rattle.std.proofs.Math.Seq.{get_or-append_seam, take-append_seam}
use Rattle.csv.specs.Records.{Row, fields_of, partial_of}
use Rattle.csv.specs.declared.reader.Reader.{Reader}
use Rattle.dnrd_csv.specs.inside.Rows.{rows_from}
use Rattle.dnrd_csv.specs.inside.Spellings.{IsRowReader, rows_cut, rows_left}
use Rattle.dnrd_csv.specs.Table.{HaveWidth, IsFirstUneven}
use Rattle.dnrd_csv.proofs.RowLemmas.{flat, flat_cut, flat_len, flat-push}

-- rows of the width have been read, and the others are left
pub record Gathered (width : ℕ) (rows : List (List (List ℕ))) (reader : Reader (Bor (List ℕ))) (fields : Row) (count : ℕ) : Type 0 where
  pub reading : IsRowReader reader
  pub so_far : List (List (List ℕ))
  pub all : rows ≡ so_far ++ rows_left reader
  pub wide : HaveWidth width so_far
  pub kept : fields_of fields ≡ flat so_far
  pub partial : partial_of fields ≡ []
  pub counted : count ≡ length so_far

-- at first none
pub gathered_none : (width : ℕ) (reader : Reader (Bor (List ℕ))) (fields : Row) → IsRowReader reader → fields_of fields ≡ [] → partial_of fields ≡ []
    → Gathered width (rows_left reader) reader fields 0
gathered_none width reader fields reading none partial = record {
  reading = reading;
  so_far = [];
  all = refl;
  wide = All-nil (λ r. length r ≡ width);
  kept = none;
  partial = partial;
  counted = refl;
}

one_more : (first : List (List (List ℕ))) (row : List (List ℕ)) (rest rows left : List (List (List ℕ))) → rows ≡ first ++ left → left ≡ row ∷ rest → rows ≡ (first ++ row ∷ []) ++ rest
one_more first row rest rows left all is = all ∙ ap (λ (t : List (List (List ℕ))). first ++ t) is ∙ sym (append_assoc first (row ∷ []) rest)

-- one more row of the width
pub gathered_more : (width : ℕ) (rows : List (List (List ℕ))) (old new : Reader (Bor (List ℕ))) (fields next : Row) (count : ℕ) (row : List (List ℕ))
    → Gathered width rows old fields count → IsRowReader new → rows_left old ≡ row ∷ rows_left new → length row ≡ width
    → fields_of next ≡ fields_of fields ++ row → partial_of next ≡ [] → Gathered width rows new next (count + 1)
gathered_more width rows old new fields next count row was reading left wide kept partial = record {
  reading = reading;
  so_far = was.so_far ++ row ∷ [];
  all = one_more was.so_far row (rows_left new) rows (rows_left old) was.all left;
  wide = All-push (λ r. length r ≡ width) was.so_far row was.wide wide;
  kept = kept ∙ ap (λ (t : List (List ℕ)). t ++ row) was.kept ∙ sym (flat-push was.so_far row);
  partial = partial;
  counted = ap (λ (n : ℕ). n + 1) was.counted ∙ sym (length-append was.so_far (row ∷ []));
}

-- a row that is left is one of all
pub gathered_short : (width : ℕ) (rows : List (List (List ℕ))) (reader : Reader (Bor (List ℕ))) (fields : Row) (count : ℕ) (row : List (List ℕ)) (rest : List (List (List ℕ)))
    → Gathered width rows reader fields count → rows_left reader ≡ row ∷ rest → count + 1 ≤ length rows
gathered_short width rows reader fields count row rest was left =
    omega (arith, was.counted, ap length was.all, length-append was.so_far (rows_left reader), ap length left)

-- where none is left, all have been read
pub gathered_all : (width : ℕ) (rows : List (List (List ℕ))) (reader : Reader (Bor (List ℕ))) (fields : Row) (count : ℕ) → Gathered width rows reader fields count
    → rows_left reader ≡ [] → HaveWidth width rows × (fields_of fields ≡ flat rows)
gathered_all width rows reader fields count was none =
    let all = was.all ∙ ap (λ (t : List (List (List ℕ))). was.so_far ++ t) none ∙ append-nil was.so_far in
    (subst (HaveWidth width) (sym all) was.wide, was.kept ∙ ap flat (sym all))

-- a row of another width behind them is the first
pub gathered_uneven : (width : ℕ) (rows : List (List (List ℕ))) (reader : Reader (Bor (List ℕ))) (fields : Row) (count : ℕ) (row : List (List ℕ)) (rest : List (List (List ℕ)))
    → Gathered width rows reader fields count → rows_left reader ≡ row ∷ rest → length row ≢ width → IsFirstUneven width rows count (length row)
gathered_uneven width rows reader fields count row rest was left uneven =
    let all = was.all ∙ ap (λ (t : List (List (List ℕ))). was.so_far ++ t) left in
    let inside : count < length (was.so_far ++ row ∷ rest) = omega (arith, was.counted, length-append was.so_far (row ∷ rest)) in
    record {
      found = row;
      there = rw (all, was.counted) (slice_get-get_or (was.so_far ++ row ∷ rest) (length was.so_far) [] (rw (sym was.counted) inside) ∙ ap Some (get_or-append_seam was.so_far row rest []));
      fields_right = refl;
      uneven = uneven;
      rows_before = rw (all, was.counted) (rw take-append_seam was.wide);
    }

-- rows with an uneven one do not have the width
pub not_wide : (width : ℕ) (rows : List (List (List ℕ))) (at fields : ℕ) → IsFirstUneven width rows at fields → ¬ HaveWidth width rows
not_wide width rows at fields first have =
    first.uneven (sym first.fields_right ∙ ap length (sym (get_or_from_slice_get rows at first.found [] first.there)) ∙ have at [] (slice_get_within rows at first.found first.there))

-- fields that are those of rows are so many, and cut again they are the rows
pub cut_rows : (width : ℕ) (rows : List (List (List ℕ))) (fields : List (List ℕ)) → 1 ≤ width → HaveWidth width rows → fields ≡ flat rows
    → (length fields % width ≡ 0) × (rows_cut width fields ≡ rows)
cut_rows width rows fields some wide same =
    let len = ap length same ∙ flat_len width rows wide in
    let count : length fields / width ≡ length rows = ap (λ (n : ℕ). n / width) len ∙ mul-div_cancel (length rows) (omega (arith, some)) in (
      ap (λ (n : ℕ). n % width) len ∙ mul-mod_left (length rows) width,
      ap (λ (n : ℕ). rows_from width n fields) count ∙ ap (rows_from width (length rows)) same ∙ flat_cut width rows wide,
    )
