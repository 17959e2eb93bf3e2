-- Rows in the forms of columns have a text that is UTF-8, and is theirs.
use Rattle.std.specs.Prelude.{IsUtf8, nat_eq}
use Rattle.std.proofs.Common.{◌≡◌, ◌≢◌, ◌<◌, ◌≤◌, ◌++◌, ◌∷◌, [], ℕ, zero, suc, List, All, ap, arith, codes, false, get_or, inl, inr, length, map, refl, subst, sym, true}
use Rattle.std.specs.List.{AllByRecursion, AllZip, join_with_byte, list_any, starts_with}
use Rattle.std.specs.Str.{IsAscii}
use Rattle.std.proofs.lemmas.Bool.{and_parts, cases_Bool, cases_lt, ne_eqb}
use Rattle.std.proofs.lemmas.List.{append-nil}
use Rattle.std.proofs.lemmas.List.Elements.{All-from_recursion, recursion_from_All}
use Rattle.std.proofs.lemmas.Str.{IsUtf8-append, IsUtf8-encode, IsUtf8-from_ascii, IsUtf8-nil, encode_ascii, inside_one}
use Rattle.std.proofs.Math.Utf8.{encode, encodes, scalar, scalars}
use Rattle.schedule.proofs.AsciiLemmas.{IsAscii-moment_text}
use Rattle.dnrd_csv.specs.declared.form.Form.{Form}
use Rattle.dnrd_csv.specs.declared.form.Form.TheVariants as form
use Rattle.dnrd_csv.specs.Form.{HasForm, IsAddressByte, IsDigit, IsHostNameByte, IsIdByte, IsRoidByte, IsStatusByte, IsTextOfBytes}
use Rattle.dnrd_csv.specs.inside.Spellings.{BeginsWithKey}
use Rattle.dnrd_csv.specs.Table.{HaveDistinctKeys, HaveForms, HaveWidth, IsTable}
use Rattle.dnrd_csv.specs.Text.{IsRow, byte_order_mark, calls_for_quotes, escaped_field, field_text, row_text, table_text}
use Rattle.dnrd_csv.proofs.WritingLemmas.{doubled-append}

-- ---- fields

ascii_of : (P : ℕ → Type 0) → ((b : ℕ) → P b → b < 128) → (bs : List ℕ) → AllByRecursion P bs → IsAscii bs
ascii_of P small [] each i = omega arith
ascii_of P small (b ∷ bs) each zero = small b each.0
ascii_of P small (b ∷ bs) each (suc i) = ascii_of P small bs each.1 i

utf8_of : (P : ℕ → Type 0) → ((b : ℕ) → P b → b < 128) → (bs : List ℕ) → All P bs → IsUtf8 bs
utf8_of P small bs each = IsUtf8-from_ascii bs (ascii_of P small bs (recursion_from_All P bs each))

-- the bytes of a literal are ASCII
literal : (bs : List ℕ) → AllByRecursion (λ b. b < 128) bs → IsUtf8 bs
literal bs each = IsUtf8-from_ascii bs (ascii_of (λ b. b < 128) (λ b h. h) bs each)

host_small : (b : ℕ) → IsHostNameByte b → b < 128
host_small b h = grind arith

roid_small : (b : ℕ) → IsRoidByte b → b < 128
roid_small b h = grind arith

id_small : (b : ℕ) → IsIdByte b → b < 128
id_small b h = grind arith

status_small : (b : ℕ) → IsStatusByte b → b < 128
status_small b h = grind arith

address_small : (b : ℕ) → IsAddressByte b → b < 128
address_small b h = grind arith

digit_small : (b : ℕ) → IsDigit b → b < 128
digit_small b h = grind arith

of_literal : (field text : List ℕ) → AllByRecursion (λ b. b < 128) text → field ≡ text → IsUtf8 field
of_literal field text each is = subst IsUtf8 (sym is) (literal text each)

form_utf8 : (f : Form) (field : List ℕ) → HasForm f field → IsUtf8 field
form_utf8 form.HostName field has = utf8_of IsHostNameByte host_small field has.2
form_utf8 form.Roid field has = utf8_of IsRoidByte roid_small field has.2
form_utf8 form.Id field has = utf8_of IsIdByte id_small field has.2
form_utf8 form.OptionalId field (inl none) = subst IsUtf8 (sym none) IsUtf8-nil
form_utf8 form.OptionalId field (inr has) = utf8_of IsIdByte id_small field has.2
form_utf8 form.Moment field has = subst IsUtf8 (sym has.2) (IsUtf8-from_ascii _ (IsAscii-moment_text has.0 has.1))
form_utf8 form.ContactType field (inl is) = of_literal field (codes "admin") (search arith) is
form_utf8 form.ContactType field (inr (inl is)) = of_literal field (codes "billing") (search arith) is
form_utf8 form.ContactType field (inr (inr is)) = of_literal field (codes "tech") (search arith) is
form_utf8 form.Status field has = utf8_of IsStatusByte status_small field has.2
form_utf8 form.Address field has = utf8_of IsAddressByte address_small field has.2
form_utf8 form.AddressVersion field (inl is) = of_literal field (codes "v4") (search arith) is
form_utf8 form.AddressVersion field (inr is) = of_literal field (codes "v6") (search arith) is
form_utf8 form.RegistrarName field has = has.0
form_utf8 form.Gurid field (inl none) = subst IsUtf8 (sym none) IsUtf8-nil
form_utf8 form.Gurid field (inr has) = utf8_of IsDigit digit_small field has.0.2

-- ---- the texts of fields

byte_utf8 : (b : ℕ) → b < 128 → IsUtf8 (b ∷ [])
byte_utf8 b small = literal (b ∷ []) (small, tt)

escaped_high : (bs : List ℕ) → ((k : ℕ) → k < length bs → 128 ≤ get_or bs k 0) → escaped_field bs ≡ bs
unfolding escaped_field
escaped_high [] high = refl
escaped_high (b ∷ bs) high =
    let first : 128 ≤ b = high 0 (omega arith) in
    let other : b ≢ 34 = omega arith in
    rw (ne_eqb b 34 other) (ap (λ (t : List ℕ). b ∷ t) (escaped_high bs (λ k below. high (suc k) (omega arith))))

escaped_small : (c : ℕ) → c < 128 → IsUtf8 (escaped_field (c ∷ []))
unfolding escaped_field
escaped_small c small = elim (cases_Bool (nat_eq c 34)) [
  | inl quote ↦ rw quote (literal (34 ∷ 34 ∷ []) (search arith))
  | inr other ↦ rw other (byte_utf8 c small)
]

escaped_char : (c : ℕ) → scalar c ≡ true → IsUtf8 (escaped_field (encode c))
escaped_char c ok = elim (cases_lt c 128) [
  | inl small ↦ rw (encode_ascii c small) (escaped_small c small)
  | inr big ↦
      let high : (k : ℕ) → k < length (encode c) → 128 ≤ get_or (encode c) k 0 = λ k below. elim (cases_lt (get_or (encode c) k 0) 128) [
        | inl low ↦ absurd (omega (arith, inside_one c [] (encode c) k (sym (append-nil _)) below low))
        | inr h ↦ h
      ] in
      subst IsUtf8 (sym (escaped_high (encode c) high)) (IsUtf8-encode c ok)
]

escaped_chars : (cs : List ℕ) → scalars cs ≡ true → IsUtf8 (escaped_field (encodes cs))
unfolding escaped_field
escaped_chars [] ok = IsUtf8-nil
escaped_chars (c ∷ cs) ok =
    let both = and_parts _ _ ok in
    subst IsUtf8 (sym (doubled-append (encode c) (encodes cs))) (IsUtf8-append _ _ (escaped_char c both.0) (escaped_chars cs both.1))

field_utf8 : (field : List ℕ) → IsUtf8 field → IsUtf8 (field_text field)
field_utf8 field text = elim (cases_Bool (list_any calls_for_quotes field)) [
  | inl quoted ↦
      let escaped : IsUtf8 (escaped_field field) = subst (λ (t : List ℕ). IsUtf8 (escaped_field t)) text.1.1 (escaped_chars text.0 text.1.0) in
      rw quoted (IsUtf8-append (34 ∷ []) (escaped_field field ++ 34 ∷ []) (byte_utf8 34 (omega arith))
      (IsUtf8-append (escaped_field field) (34 ∷ []) escaped (byte_utf8 34 (omega arith))))
  | inr plain ↦ rw plain text
]

-- ---- the texts of rows

joined_utf8 : (row : List (List ℕ)) → AllByRecursion IsUtf8 row → IsUtf8 (join_with_byte 44 (map field_text row))
joined_utf8 [] each = IsUtf8-nil
joined_utf8 (field ∷ []) each = field_utf8 field each.0
joined_utf8 (field ∷ next ∷ row) each =
    IsUtf8-append (field_text field) (44 ∷ join_with_byte 44 (map field_text (next ∷ row))) (field_utf8 field each.0)
    (IsUtf8-append (44 ∷ []) (join_with_byte 44 (map field_text (next ∷ row))) (byte_utf8 44 (omega arith)) (joined_utf8 (next ∷ row) each.1))

fields_utf8 : (columns : List Form) (row : List (List ℕ)) → AllZip HasForm columns row → AllByRecursion IsUtf8 row
fields_utf8 [] [] each = tt
fields_utf8 [] (field ∷ row) each = absurd each
fields_utf8 (f ∷ columns) [] each = tt
fields_utf8 (f ∷ columns) (field ∷ row) each = (form_utf8 f field each.0, fields_utf8 columns row each.1)

table_utf8 : (columns : List Form) (rows : List (List (List ℕ))) → AllByRecursion (λ row. AllZip HasForm columns row) rows → IsUtf8 (table_text rows)
table_utf8 columns [] each = IsUtf8-nil
table_utf8 columns (row ∷ rows) each =
    let line = IsUtf8-append (join_with_byte 44 (map field_text row)) (10 ∷ []) (joined_utf8 row (fields_utf8 columns row each.0)) (byte_utf8 10 (omega arith)) in
    IsUtf8-append (row_text row) (table_text rows) line (table_utf8 columns rows each.1)

-- ---- the first field

-- a byte of ASCII and what follows it
abbrev BeginsSmall : List ℕ → Type 0
BeginsSmall text = (b : ℕ) × (rest : List ℕ) × (b < 128) × (text ≡ b ∷ rest)

first_small : (P : ℕ → Type 0) → ((b : ℕ) → P b → b < 128) → (most : ℕ) (field : List ℕ) → IsTextOfBytes most P field → BeginsSmall field
first_small P small most [] has = absurd (omega (arith, has.0))
first_small P small most (b ∷ rest) has = (b, rest, small b (recursion_from_All P (b ∷ rest) has.2).0, refl)

key_small : (columns : List Form) (row : List (List ℕ)) → BeginsWithKey columns → AllZip HasForm columns row
    → (field : List ℕ) × (rest : List (List ℕ)) × BeginsSmall field × (row ≡ field ∷ rest)
key_small (form.HostName ∷ columns) [] begins each = absurd each
key_small (form.HostName ∷ columns) (field ∷ rest) begins each = (field, rest, first_small IsHostNameByte host_small 253 field each.0, refl)
key_small (form.Id ∷ columns) [] begins each = absurd each
key_small (form.Id ∷ columns) (field ∷ rest) begins each = (field, rest, first_small IsIdByte id_small 16 field each.0, refl)
key_small _ row begins each = absurd begins

row_of_forms : (columns : List Form) (row : List (List ℕ)) → BeginsWithKey columns → AllZip HasForm columns row → IsRow row
row_of_forms columns row begins each =
    let (field, rest, (b, after, small, is), same) = key_small columns row begins each in
    ((λ e. cc (e, same)), (λ e. cc (e, same, is)))

text_small : (field : List ℕ) → BeginsSmall field → BeginsSmall (field_text field)
text_small field begins = elim (cases_Bool (list_any calls_for_quotes field)) [
  | inl quoted ↦ rw quoted (34, escaped_field field ++ 34 ∷ [], omega arith, refl)
  | inr plain ↦ rw plain begins
]

-- so it does before more bytes
grown : (text tail : List ℕ) → BeginsSmall text → BeginsSmall (text ++ tail)
grown text tail (b, rest, small, is) = (b, rest ++ tail, small, ap (λ (t : List ℕ). t ++ tail) is)

row_small : (field : List ℕ) (rest : List (List ℕ)) → BeginsSmall field → BeginsSmall (row_text (field ∷ rest))
row_small field [] begins = grown (field_text field) (10 ∷ []) (text_small field begins)
row_small field (next ∷ rest) begins =
    let joined = 44 ∷ join_with_byte 44 (map field_text (next ∷ rest)) in
    grown (field_text field ++ joined) (10 ∷ []) (grown (field_text field) joined (text_small field begins))

unmarked : (text : List ℕ) → BeginsSmall text → starts_with nat_eq text byte_order_mark ≡ false
unmarked text (b, rest, small, is) =
    let other : 0xEF ≢ b = omega arith in
    rw (is, ne_eqb 0xEF b other) refl

table_unmarked : (columns : List Form) (rows : List (List (List ℕ))) → BeginsWithKey columns → AllByRecursion (λ row. AllZip HasForm columns row) rows
    → starts_with nat_eq (table_text rows) byte_order_mark ≡ false
table_unmarked columns [] begins each = refl
table_unmarked columns (row ∷ rows) begins each =
    let (field, rest, small, same) = key_small columns row begins each.0 in
    unmarked (table_text (row ∷ rows)) (grown (row_text row) (table_text rows) (rw same (row_small field rest small)))

-- ---- tables

rows_of_forms : (columns : List Form) (rows : List (List (List ℕ))) → BeginsWithKey columns → AllByRecursion (λ row. AllZip HasForm columns row) rows → AllByRecursion IsRow rows
rows_of_forms columns [] begins each = tt
rows_of_forms columns (row ∷ rows) begins each = (row_of_forms columns row begins each.0, rows_of_forms columns rows begins each.1)

-- rows in form with distinct keys are a table by their text
pub table_of_forms : (columns : List Form) (key : ℕ) (rows : List (List (List ℕ))) → BeginsWithKey columns → HaveWidth (length columns) rows → HaveForms columns rows
    → HaveDistinctKeys key rows → IsTable columns key (table_text rows) rows
table_of_forms columns key rows begins wide forms distinct =
    let each = recursion_from_All (λ row. AllZip HasForm columns row) rows forms in
    record {
      utf8 = table_utf8 columns rows each;
      text = record {
        rows_in_form = All-from_recursion IsRow rows (rows_of_forms columns rows begins each);
        unmarked = table_unmarked columns rows begins each;
        text = refl;
      };
      columns_right = wide;
      forms_right = forms;
      keys_right = distinct;
    }
