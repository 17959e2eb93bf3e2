-- What the reading of rows keeps.
use Rattle.std.proofs.Common.{All, Bor, List, Option, None, Some, ℕ, ◌≡◌, ◌≢◌, ◌≤◌, ◌<◌, ◌+◌, ◌++◌, ◌∷◌, ◌∙◌, ◌⊎◌, [], ◌*◌, ap, append_assoc, arith, false, get_or, inl, inr, length, refl, suc, sym, true}
use Rattle.std.specs.List.{join_with_byte, starts_with}
use Rattle.std.proofs.lemmas.List.{append-nil, get_or_append_left, length-append, take-append-le}
use Rattle.std.proofs.lemmas.List.Elements.{All-push}
use Rattle.csv.specs.Records.{Row, fields_of, partial_of}
use Rattle.csv.specs.declared.reader.Reader.{Reader}
use Rattle.std.specs.Prelude.{◌==◌, IfNone, IfSome, IsUtf8, MatchOption, map, nat_eq}
use Rattle.std.proofs.lemmas.Bool.{ne_eqb}
use Rattle.std.proofs.lemmas.Option.{MatchOption-at_none, MatchOption-at_some, get_or_from_slice_get, slice_get-get_or, slice_get_within}
use Rattle.std.proofs.Math.Seq.{get_or-append_seam, take-append_seam}
use Rattle.dnrd_csv.specs.declared.errors.TableError.{TableError}
use Rattle.dnrd_csv.specs.declared.errors.TableError.TheVariants as fault
use Rattle.dnrd_csv.specs.inside.RowReading.{IsAtRow, RefusesRow, RefusesRows}
use Rattle.dnrd_csv.specs.inside.Rows.{rows_from}
use Rattle.dnrd_csv.specs.Table.{HaveWidth, IsFirstUneven, StopsAfter}
use Rattle.dnrd_csv.specs.Text.{IsRow, IsTextOf, byte_order_mark, field_text, row_text, table_text}
use Rattle.dnrd_csv.proofs.Records.{not_rows}
use Rattle.dnrd_csv.proofs.RowLemmas.{flat, flat_cut, flat_len, flat-push}
use Rattle.dnrd_csv.proofs.WritingLemmas.{table_text-push}

-- the rows have the width, and their fields are kept, or this row is the first without it
abbrev pub AreWidths : ℕ → List (List (List ℕ)) → Row → Option (ℕ × ℕ) → Type 0
AreWidths width all fields uneven = MatchOption uneven ((fields_of fields ≡ flat all) × HaveWidth width all) (λ place. IsFirstUneven width all place.0 place.1)

-- rows have been read, and the rest of the text is left
pub record Walked (text : List ℕ) (width : ℕ) (reader : Reader (Bor (List ℕ))) (fields : Row) (count : ℕ) (uneven : Option (ℕ × ℕ)) (rest : List ℕ) : Type 0 where
  pub all : List (List (List ℕ))
  pub in_form : All IsRow all
  pub text_is : text ≡ table_text all ++ rest
  pub at : IsAtRow reader rest
  pub counted : count ≡ length all
  pub short : count + length rest ≤ length text
  pub partial : partial_of fields ≡ []
  pub widths : AreWidths width all fields uneven

-- a row's text is not empty
pub row_len : (row : List (List ℕ)) (rest : List ℕ) → length rest < length (row_text row ++ rest)
row_len row rest =
    omega (arith, length-append (row_text row) rest, length-append (join_with_byte 44 (map field_text row)) (10 ∷ []))

-- the first row without the width stays the first
uneven_stays : (width : ℕ) (all : List (List (List ℕ))) (row : List (List ℕ)) (at fields : ℕ) → IsFirstUneven width all at fields → IsFirstUneven width (all ++ row ∷ []) at fields
uneven_stays width all row at fields first =
    let inside : at < length all = slice_get_within all at first.found first.there in
    let longer : at < length (all ++ row ∷ []) = omega (arith, inside, length-append all (row ∷ [])) in
    record {
      found = first.found;
      there = slice_get-get_or (all ++ row ∷ []) at [] longer ∙ ap Some (get_or_append_left all (row ∷ []) [] at inside ∙ get_or_from_slice_get all at first.found [] first.there);
      fields_right = first.fields_right;
      uneven = first.uneven;
      rows_before = rw (take-append-le at all (row ∷ []) (omega (arith, inside))) first.rows_before;
    }

-- one more row without the width
uneven_new : (width : ℕ) (all : List (List (List ℕ))) (row : List (List ℕ)) (at fields : ℕ) → HaveWidth width all → at ≡ length all → fields ≡ length row → fields ≢ width
    → IsFirstUneven width (all ++ row ∷ []) at fields
uneven_new width all row at fields wide here many other =
    let inside : at < length (all ++ row ∷ []) = omega (arith, here, length-append all (row ∷ [])) in
    record {
      found = row;
      there = slice_get-get_or (all ++ row ∷ []) at [] inside ∙ ap Some (ap (λ (n : ℕ). get_or (all ++ row ∷ []) n []) here ∙ get_or-append_seam all row [] []);
      fields_right = sym many;
      uneven = other;
      rows_before = rw (here, take-append_seam all (row ∷ [])) wide;
    }

-- rows of which one is without the width do not have it
pub uneven_rows : (width : ℕ) (rows : List (List (List ℕ))) (row fields : ℕ) → IsFirstUneven width rows row fields → ¬ HaveWidth width rows
uneven_rows width rows row fields first wide =
    let inside : row < length rows = slice_get_within rows row first.found first.there in
    first.uneven (sym first.fields_right ∙ ap length (sym (get_or_from_slice_get rows row first.found [] first.there)) ∙ wide row [] inside)

widths_more : (width : ℕ) (all : List (List (List ℕ))) (fields more : Row) (row : List (List ℕ)) (count : ℕ) (uneven first : Option (ℕ × ℕ))
    → count ≡ length all → AreWidths width all fields uneven
    → IfNone first ((uneven ≡ None) × (length row ≡ width) × (fields_of more ≡ fields_of fields ++ row))
    → IfSome first (λ place. (uneven ≡ Some place) ⊎ ((uneven ≡ None) × (place.0 ≡ count) × (place.1 ≡ length row) × (place.1 ≢ width)))
    → AreWidths width (all ++ row ∷ []) more first
widths_more width all fields more row count uneven None counted before even odd =
    let was = MatchOption-at_none ((fields_of fields ≡ flat all) × HaveWidth width all) (λ place. IsFirstUneven width all place.0 place.1) even.0 before in
    (even.2 ∙ ap (λ (t : List (List ℕ)). t ++ row) was.0 ∙ sym (flat-push all row), All-push (λ r. length r ≡ width) all row was.1 even.1)
widths_more width all fields more row count uneven (Some place) counted before even odd = elim odd [
  | inl was ↦
      uneven_stays width all row place.0 place.1
      (MatchOption-at_some ((fields_of fields ≡ flat all) × HaveWidth width all) (λ p. IsFirstUneven width all p.0 p.1) place was before)
  | inr here ↦
      let wide = MatchOption-at_none ((fields_of fields ≡ flat all) × HaveWidth width all) (λ p. IsFirstUneven width all p.0 p.1) here.0 before in
      uneven_new width all row place.0 place.1 wide.1 (here.1 ∙ counted) here.2 here.3
]

-- one more row
pub walked_more : (text : List ℕ) (width : ℕ) (reader next : Reader (Bor (List ℕ))) (fields more : Row) (count : ℕ) (uneven first : Option (ℕ × ℕ)) (rest after : List ℕ) (row : List (List ℕ))
    → Walked text width reader fields count uneven rest
    → IsRow row → rest ≡ row_text row ++ after → IsAtRow next after → partial_of more ≡ []
    → IfNone first ((uneven ≡ None) × (length row ≡ width) × (fields_of more ≡ fields_of fields ++ row))
    → IfSome first (λ place. (uneven ≡ Some place) ⊎ ((uneven ≡ None) × (place.0 ≡ count) × (place.1 ≡ length row) × (place.1 ≢ width)))
    → Walked text width next more (count + 1) first after
walked_more text width reader next fields more count uneven first rest after row walked in_form is at partial even odd = record {
  all = walked.all ++ row ∷ [];
  in_form = All-push IsRow walked.all row walked.in_form in_form;
  text_is = walked.text_is ∙ ap (λ (t : List ℕ). table_text walked.all ++ t) is ∙ sym (append_assoc (table_text walked.all) (row_text row) after)
      ∙ ap (λ (t : List ℕ). t ++ after) (sym (table_text-push walked.all row));
  at = at;
  counted = ap (λ (n : ℕ). n + 1) walked.counted ∙ sym (length-append walked.all (row ∷ []));
  short = omega (arith, walked.short, row_len row after, ap length is);
  partial = partial;
  widths = widths_more width walked.all fields more row count uneven first walked.counted walked.widths even odd;
}

-- no row has been read
pub walked_none : (text : List ℕ) (width : ℕ) (reader : Reader (Bor (List ℕ))) (fields : Row) → IsAtRow reader text → fields_of fields ≡ [] → partial_of fields ≡ []
    → Walked text width reader fields 0 None text
walked_none text width reader fields at empty partial = record {
  all = [];
  in_form = λ k d inside. absurd (omega (arith, inside));
  text_is = refl;
  at = at;
  counted = refl;
  short = omega arith;
  partial = partial;
  widths = (empty, λ k d inside. absurd (omega (arith, inside)));
}

-- what is refused where a row is to follow
pub refused_rest : (text : List ℕ) (width : ℕ) (reader : Reader (Bor (List ℕ))) (fields : Row) (count : ℕ) (uneven : Option (ℕ × ℕ)) (rest : List ℕ)
    → Walked text width reader fields count uneven rest → IsUtf8 text → starts_with nat_eq text byte_order_mark ≡ false → rest ≢ []
    → (f : TableError) → RefusesRow count rest f → RefusesRows width text f
refused_rest text width reader fields count uneven rest walked utf8 unmarked some (fault.NotRows row) wrong =
    let stops : StopsAfter text row = record {
      unmarked = unmarked;
      rows = walked.all;
      rest = rest;
      rows_in_form = walked.in_form;
      text = walked.text_is;
      count_right = sym walked.counted ∙ sym wrong.0;
      more = some;
      no_row = wrong.1;
    } in
    (utf8, not_rows text walked.all rest walked.in_form walked.text_is some wrong.1, inl stops)
refused_rest text width reader fields count uneven rest walked utf8 unmarked some fault.OutOfMemory wrong = tt
refused_rest text width reader fields count uneven rest walked utf8 unmarked some _ wrong = absurd wrong

-- at the end the text is that of the rows
pub walked_text : (text : List ℕ) (width : ℕ) (reader : Reader (Bor (List ℕ))) (fields : Row) (count : ℕ) (uneven : Option (ℕ × ℕ)) (rest : List ℕ)
    → (walked : Walked text width reader fields count uneven rest) → starts_with nat_eq text byte_order_mark ≡ false → rest ≡ [] → IsTextOf text walked.all
walked_text text width reader fields count uneven rest walked unmarked end = record {
  rows_in_form = walked.in_form;
  unmarked = unmarked;
  text = walked.text_is ∙ ap (λ (t : List ℕ). table_text walked.all ++ t) end ∙ append-nil (table_text walked.all);
}

pub walked_uneven : (text : List ℕ) (width : ℕ) (reader : Reader (Bor (List ℕ))) (fields : Row) (count : ℕ) (uneven : Option (ℕ × ℕ)) (rest : List ℕ) (place : ℕ × ℕ)
    → (walked : Walked text width reader fields count uneven rest) → uneven ≡ Some place → IsFirstUneven width walked.all place.0 place.1
walked_uneven text width reader fields count uneven rest place walked is =
    MatchOption-at_some ((fields_of fields ≡ flat walked.all) × HaveWidth width walked.all) (λ p. IsFirstUneven width walked.all p.0 p.1) place is walked.widths

-- where all have the width, the fields are theirs
pub walked_fits : (text : List ℕ) (width : ℕ) (reader : Reader (Bor (List ℕ))) (fields : Row) (count : ℕ) (rest : List ℕ)
    → Walked text width reader fields count None rest → length (fields_of fields) ≡ count * width
walked_fits text width reader fields count rest walked =
    let kept = walked.widths in
    ap length kept.0 ∙ flat_len width walked.all kept.1 ∙ ap (λ (n : ℕ). n * width) (sym walked.counted)

-- a text has as many bytes as its rows have fields, at least
fields_few : (row : List (List ℕ)) → length row ≤ length (row_text row)
fields_few [] = omega arith
fields_few (field ∷ []) = omega (arith, length-append (field_text field) (10 ∷ []))
fields_few (field ∷ next ∷ row) =
    let rest : List ℕ = join_with_byte 44 (map field_text (next ∷ row)) in
    omega (arith, fields_few (next ∷ row), length-append (field_text field ++ 44 ∷ rest) (10 ∷ []), length-append (field_text field) (44 ∷ rest), length-append rest (10 ∷ []))

flat_few : (rows : List (List (List ℕ))) → length (flat rows) ≤ length (table_text rows)
flat_few [] = omega arith
flat_few (row ∷ rows) = omega (arith, fields_few row, flat_few rows, length-append row (flat rows), length-append (row_text row) (table_text rows))

pub walked_short : (text : List ℕ) (width : ℕ) (reader : Reader (Bor (List ℕ))) (fields : Row) (count : ℕ) (rest : List ℕ)
    → Walked text width reader fields count None rest → length (fields_of fields) ≤ length text
walked_short text width reader fields count rest walked =
    omega (arith, ap length walked.widths.0, flat_few walked.all, ap length walked.text_is, length-append (table_text walked.all) rest)

pub walked_rows : (text : List ℕ) (width : ℕ) (reader : Reader (Bor (List ℕ))) (fields : Row) (count : ℕ) (rest : List ℕ)
    → (walked : Walked text width reader fields count None rest) → rows_from width count (fields_of fields) ≡ walked.all
walked_rows text width reader fields count rest walked =
    let kept = walked.widths in
    ap (λ (n : ℕ). rows_from width n (fields_of fields)) walked.counted
    ∙ ap (rows_from width (length walked.all)) kept.0
    ∙ flat_cut width walked.all kept.1

pub some_rest : (rest : List ℕ) → (length rest == 0) ≡ false → rest ≢ []
some_rest rest e none = cc (e, ap length none)

pub no_rest : (rest : List ℕ) → (length rest == 0) ≡ true → rest ≡ []
no_rest [] e = refl
no_rest (byte ∷ rest) e = cc (e, ne_eqb (suc (length rest)) 0 (λ wrong. cc wrong))
