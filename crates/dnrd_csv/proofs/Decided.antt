-- The tests of forms and tables decide the facts.
use Rattle.std.specs.Prelude.{nat_eq, nat_lt, slice_index}
use Rattle.std.proofs.Common.{◌≡◌, ◌≢◌, ◌==◌, ◌&&◌, ◌+◌, ◌*◌, ◌%◌, ◌∷◌, ◌∙◌, [], ℕ, Bool, true, false, not, List, Option, Some, None, All, IsUtf8, refl, sym, ap, arith, codes, length, map, take}
use Rattle.std.specs.Bool.{Decides}
use Rattle.std.specs.Cmp.Lexicographic.{pointwise}
use Rattle.std.specs.Int.{IsInRange, is_in_range}
use Rattle.std.specs.List.{AllZip, IsDistinct, list_all, starts_with}
use Rattle.std.specs.Str.{bytes_eq, is_utf8}
use Rattle.std.proofs.lemmas.Bool.{and_parts, leb-true, le-leb}
use Rattle.std.proofs.lemmas.Bool.Decides.{Decides-and, Decides-by_and, Decides-eqb, Decides-like, Decides-ltb, Decides-not, Decides-or}
use Rattle.std.proofs.lemmas.List.Elements.{All-from_recursion, recursion_from_All}
use Rattle.std.proofs.lemmas.Map.Made.{AllPairs-from_IsDistinct, IsDistinct-from_AllPairs}
use Rattle.std.proofs.lemmas.Slice.Eq.{bytes_eq-Decides}
use Rattle.std.proofs.lemmas.Str.{IsUtf8-from_is_utf8, is_utf8-from_IsUtf8}
use Rattle.schedule.specs.Reading.{day_at}
use Rattle.schedule.specs.Schedule.{IsMoment, day_of}
use Rattle.schedule.specs.Text.{IsMomentText, moment_text}
use Rattle.schedule.proofs.ReadingLemmas.{day_at-day_text, day_at-some}
use Rattle.dnrd_csv.specs.declared.form.Form.{Form}
use Rattle.dnrd_csv.specs.declared.form.Form.TheVariants as form
use Rattle.dnrd_csv.specs.Form.{HasForm, IsAddressByte, IsDigit, IsGurid, IsHostNameByte, IsId, IsIdByte, IsRoidByte, IsStatusByte, IsTextOfBytes}
use Rattle.dnrd_csv.specs.FormTests.{has_form, is_address_byte, is_digit, is_gurid, is_host_name_byte, is_id, is_id_byte, is_moment_of, is_moment_text, is_roid_byte, is_status_byte, is_text_of_bytes, second_at}
use Rattle.dnrd_csv.specs.Readers.{are_distinct, have_forms, is_row, is_table, is_text_of}
use Rattle.dnrd_csv.specs.Table.{HaveForms, HaveDistinctKeys, IsTable}
use Rattle.dnrd_csv.specs.Text.{IsRow, IsTextOf, byte_order_mark, table_text}
use Rattle.dnrd_csv.proofs.KeyLemmas.{same_key, same_key-Decides}

-- ---- lists

pub all_decides : {X : Type 0} (test : X → Bool) (P : X → Type 0) → ((x : X) → Decides (test x) (P x)) → (xs : List X) → Decides (list_all test xs) (All P xs)
all_decides test P each xs = Decides-by_and test P (list_all test) each refl (λ _ _. refl) xs

pub zip_decides : {A B : Type 0} (test : A → B → Bool) (R : A → B → Type 0) → ((a : A) (b : B) → Decides (test a b) (R a b)) → (xs : List A) (ys : List B) → Decides (pointwise test xs ys) (AllZip R xs ys)
zip_decides test R each [] [] = (λ _. tt, λ _. refl)
zip_decides test R each [] (y ∷ ys) = (λ e. cc e, λ h. absurd h)
zip_decides test R each (x ∷ xs) [] = (λ e. cc e, λ h. absurd h)
zip_decides test R each (x ∷ xs) (y ∷ ys) = Decides-and (test x y) (pointwise test xs ys) (each x y) (zip_decides test R each xs ys)

-- ---- bytes

in_range_decides : (low high byte : ℕ) → Decides (is_in_range low high byte) (IsInRange low high byte)
in_range_decides low high byte = Decides-and _ _ (leb-true low byte, le-leb low byte) (leb-true byte high, le-leb byte high)

host_name_byte_decides : (byte : ℕ) → Decides (is_host_name_byte byte) (IsHostNameByte byte)
host_name_byte_decides byte = Decides-or _ _ (in_range_decides 97 122 byte) (Decides-or _ _ (in_range_decides 48 57 byte) (Decides-or _ _ (Decides-eqb byte 45) (Decides-eqb byte 46)))

roid_byte_decides : (byte : ℕ) → Decides (is_roid_byte byte) (IsRoidByte byte)
roid_byte_decides byte = Decides-or _ _ (in_range_decides 65 90 byte) (Decides-or _ _ (in_range_decides 97 122 byte) (Decides-or _ _ (in_range_decides 48 57 byte) (Decides-or _ _ (Decides-eqb byte 45) (Decides-eqb byte 95))))

status_byte_decides : (byte : ℕ) → Decides (is_status_byte byte) (IsStatusByte byte)
status_byte_decides byte = Decides-or _ _ (in_range_decides 65 90 byte) (in_range_decides 97 122 byte)

address_byte_decides : (byte : ℕ) → Decides (is_address_byte byte) (IsAddressByte byte)
address_byte_decides byte = Decides-or _ _ (in_range_decides 48 57 byte) (Decides-or _ _ (in_range_decides 97 102 byte) (Decides-or _ _ (in_range_decides 65 70 byte) (Decides-or _ _ (Decides-eqb byte 46) (Decides-eqb byte 58))))

-- ---- fields

text_decides : (most : ℕ) (allowed : ℕ → Bool) (Allowed : ℕ → Type 0) → ((byte : ℕ) → Decides (allowed byte) (Allowed byte)) → (field : List ℕ) → Decides (is_text_of_bytes most allowed field) (IsTextOfBytes most Allowed field)
text_decides most allowed Allowed each field =
    Decides-like _ (λ h. (h.0, h.1.0, h.1.1)) (λ h. (h.0, (h.1, h.2)))
    (Decides-and _ _ (leb-true 1 (length field), le-leb 1 (length field)) (Decides-and _ _ (leb-true (length field) most, le-leb (length field) most) (all_decides allowed Allowed each field)))

id_decides : (field : List ℕ) → Decides (is_id field) (IsId field)
id_decides field = text_decides 16 is_id_byte IsIdByte (in_range_decides 0x21 0x7E) field

-- the places of a moment's text
second_of : (s : ℕ) → IsMoment s → second_at (moment_text s) ≡ s % 86_400
second_of s h = omega (arith, h)

moment_found : (text : List ℕ) (day : Option ℕ) → day_at (take 10 text) ≡ day → is_moment_of day text ≡ true → IsMomentText text
moment_found text None shown e = cc e
moment_found text (Some day) shown e =
    let parts = and_parts _ _ e in
    let within = (Decides-ltb (second_at text) 86_400).0 parts.0 in
    let is_day = (day_at-some (take 10 text) day shown).0 in
    (86_400 * day + second_at text, omega (arith, within, is_day), (bytes_eq-Decides text (moment_text (86_400 * day + second_at text))).0 parts.1)

moment_is : (s : ℕ) → IsMoment s → is_moment_text (moment_text s) ≡ true
moment_is s h =
    let day : day_at (take 10 (moment_text s)) ≡ Some (day_of s) = day_at-day_text (day_of s) (omega (arith, h)) in
    let second = second_of s h in
    let small : nat_lt (s % 86_400) 86_400 ≡ true = (Decides-ltb (s % 86_400) 86_400).1 (omega arith) in
    let whole : 86_400 * day_of s + s % 86_400 ≡ s = omega arith in
    let same : bytes_eq (moment_text s) (moment_text (86_400 * day_of s + s % 86_400)) ≡ true = (bytes_eq-Decides _ _).1 (ap moment_text (sym whole)) in
    ap (λ d. is_moment_of d (moment_text s)) day
    ∙ ap (λ n. nat_lt n 86_400 && bytes_eq (moment_text s) (moment_text (86_400 * day_of s + n))) second
    ∙ ap (λ b. b && bytes_eq (moment_text s) (moment_text (86_400 * day_of s + s % 86_400))) small
    ∙ same

moment_decides : (field : List ℕ) → Decides (is_moment_text field) (IsMomentText field)
moment_decides field = (moment_found field (day_at (take 10 field)) refl, λ h. ap is_moment_text h.2 ∙ moment_is h.0 h.1)

gurid_decides : (field : List ℕ) → Decides (is_gurid field) (IsGurid field)
gurid_decides field = Decides-or _ _ (bytes_eq-Decides field [])
    (Decides-and _ _ (text_decides 9 is_digit IsDigit (in_range_decides 48 57) field) (Decides-not _ (Decides-eqb (slice_index field 0) 48)))

utf8_decides : (bytes : List ℕ) → Decides (is_utf8 bytes) (IsUtf8 bytes)
utf8_decides bytes = (IsUtf8-from_is_utf8 bytes, is_utf8-from_IsUtf8 bytes)

form_decides : (f : Form) (field : List ℕ) → Decides (has_form f field) (HasForm f field)
form_decides form.HostName field = text_decides 253 is_host_name_byte IsHostNameByte host_name_byte_decides field
form_decides form.Roid field = text_decides 89 is_roid_byte IsRoidByte roid_byte_decides field
form_decides form.Id field = id_decides field
form_decides form.OptionalId field = Decides-or _ _ (bytes_eq-Decides field []) (id_decides field)
form_decides form.Moment field = moment_decides field
form_decides form.ContactType field = Decides-or _ _ (bytes_eq-Decides field (codes "admin")) (Decides-or _ _ (bytes_eq-Decides field (codes "billing")) (bytes_eq-Decides field (codes "tech")))
form_decides form.Status field = text_decides 30 is_status_byte IsStatusByte status_byte_decides field
form_decides form.Address field = text_decides 45 is_address_byte IsAddressByte address_byte_decides field
form_decides form.AddressVersion field = Decides-or _ _ (bytes_eq-Decides field (codes "v4")) (bytes_eq-Decides field (codes "v6"))
form_decides form.RegistrarName field = Decides-and _ _ (utf8_decides field) (text_decides 255 (λ byte. not (byte == 0)) (λ byte. byte ≢ 0) (λ byte. Decides-not _ (Decides-eqb byte 0)) field)
form_decides form.Gurid field = gurid_decides field

-- ---- rows

row_decides : (row : List (List ℕ)) → Decides (is_row row) (IsRow row)
row_decides [] = (λ e. cc e, λ h. absurd (h.0 refl))
row_decides ([] ∷ []) = (λ e. cc e, λ h. absurd (h.1 refl))
row_decides ((byte ∷ field) ∷ []) = (λ _. (λ e. cc e, λ e. cc e), λ _. refl)
row_decides (field ∷ next ∷ fields) = (λ _. (λ e. cc e, λ e. cc e), λ _. refl)

false_decides : (b : Bool) → Decides (not b) (b ≡ false)
false_decides true = (λ e. cc e, λ e. cc e)
false_decides false = (λ _. refl, λ _. refl)

text_of_decides : (bytes : List ℕ) (rows : List (List (List ℕ))) → Decides (is_text_of bytes rows) (IsTextOf bytes rows)
text_of_decides bytes rows =
    Decides-like _ (λ h. record { rows_in_form = h.0; unmarked = h.1.0; text = h.1.1 }) (λ h. (h.rows_in_form, (h.unmarked, h.text)))
    (Decides-and _ _ (all_decides is_row IsRow row_decides rows) (Decides-and _ _ (false_decides (starts_with nat_eq bytes byte_order_mark)) (bytes_eq-Decides bytes (table_text rows))))

forms_decide : (columns : List Form) (rows : List (List (List ℕ))) → Decides (have_forms columns rows) (HaveForms columns rows)
forms_decide columns rows = all_decides (λ row. pointwise has_form columns row) (λ row. AllZip HasForm columns row) (λ row. zip_decides has_form HasForm form_decides columns row) rows

-- ---- keys

distinct_decides : (keys : List (List (List ℕ))) → Decides (are_distinct keys) (IsDistinct same_key keys)
unfolding IsDistinct
distinct_decides [] = (λ _. tt, λ _. refl)
distinct_decides (key ∷ keys) = Decides-and _ _ (
    Decides-like _ (recursion_from_All _ keys) (All-from_recursion _ keys)
    (all_decides (λ other. not (same_key key other)) (λ other. same_key key other ≡ false) (λ other. false_decides (same_key key other)) keys)
    ) (distinct_decides keys)

keys_decide : (key : ℕ) (rows : List (List (List ℕ))) → Decides (are_distinct (map (take key) rows)) (HaveDistinctKeys key rows)
keys_decide key rows =
    let keys = map (take key) rows in
    Decides-like _ (AllPairs-from_IsDistinct same_key-Decides keys) (IsDistinct-from_AllPairs same_key-Decides keys) (distinct_decides keys)

-- ---- tables

zip_length : (columns : List Form) (row : List (List ℕ)) → AllZip HasForm columns row → length row ≡ length columns
zip_length [] [] each = refl
zip_length [] (field ∷ fields) each = absurd each
zip_length (column ∷ columns) [] each = absurd each
zip_length (column ∷ columns) (field ∷ fields) each = let rest = zip_length columns fields each.1 in omega (arith, rest)

pub table_decides : (columns : List Form) (key : ℕ) (bytes : List ℕ) (rows : List (List (List ℕ))) → Decides (is_table columns key bytes rows) (IsTable columns key bytes rows)
table_decides columns key bytes rows =
    Decides-like _ (λ h. record {
      utf8 = h.0;
      text = h.1.0;
      columns_right = λ k d inside. zip_length columns _ (h.1.1.0 k d inside);
      forms_right = h.1.1.0;
      keys_right = h.1.1.1;
    })
    (λ h. (h.utf8, (h.text, (h.forms_right, h.keys_right))))
    (Decides-and _ _ (utf8_decides bytes) (Decides-and _ _ (text_of_decides bytes rows) (Decides-and _ _ (forms_decide columns rows) (keys_decide key rows))))
