-- The lines of a text, by its line feeds.
use Rattle.std.proofs.Common.{◌≡◌, ℕ, suc, ◌+◌, ◌<◌, ◌≤◌, take, drop, add-one, subst, List, [], ◌∷◌, ◌++◌, Some, None, Bool, true, false, not, ◌==◌, cond, refl, sym, ◌∙◌, ap, append_assoc, append-nil, length, count_by, arith}
use Rattle.std.specs.Str.{bytes_eq}
use Rattle.std.specs.List.{list_all, position, position_or_len}
use Rattle.std.specs.Prelude.{nat_lt}
use Rattle.std.proofs.lemmas.Bool.Decides.{Decides-ltb, nat_tests}
use Rattle.std.proofs.lemmas.List.Sums.{sum_by-cons}
use Rattle.std.proofs.lemmas.Option.{cond_some}
use Rattle.std.proofs.lemmas.Bool.{and_parts, and_from}
use Rattle.std.proofs.lemmas.List.Folds.{list_all-append}
use Rattle.std.proofs.lemmas.Slice.Eq.{bytes_eq-Decides}
use Rattle.deposit_name.specs.Name.{Name, IsName, name_text, is_name_byte}
use Rattle.deposit_name.proofs.NameTextLemmas.{name_text-bytes}
use Rattle.custody_records.specs.Form.{lines_in}
use Rattle.custody_records.specs.Names.{lines_after, lines_of}
use Rattle.custody_records.specs.RowsOfRecords.{is_line, text_of_lines}
use Rattle.custody_records.proofs.ReadLemmas.{text_of_more}

-- ---- a text and its lines

-- the lines of a text make it again, where it ends with a line feed
whole : (line front : List ℕ) → text_of_lines (lines_after line (front ++ 10 ∷ [])) ≡ line ++ (front ++ 10 ∷ [])
whole line [] = refl
whole line (byte ∷ front) = by (byte == 10) refl (whole [] front) (whole (line ++ byte ∷ []) front)
  where
    rest : List ℕ
    rest = front ++ 10 ∷ []

    by : (b : Bool) → (byte == 10) ≡ b → text_of_lines (lines_after [] rest) ≡ rest → text_of_lines (lines_after (line ++ byte ∷ []) rest) ≡ (line ++ byte ∷ []) ++ rest
        → text_of_lines (cond b (line ∷ lines_after [] rest) (lines_after (line ++ byte ∷ []) rest)) ≡ line ++ (byte ∷ rest)
    by true is here later = ap (λ (l : List ℕ). line ++ 10 ∷ l) here ∙ ap (λ b. line ++ b ∷ rest) (sym (same byte is))
      where
        same : (a : ℕ) → (a == 10) ≡ true → a ≡ 10
        same a e = grind arith
    by false is here later = later ∙ append_assoc line (byte ∷ []) rest

pub text_of-lines_of : (front : List ℕ) → text_of_lines (lines_of (front ++ 10 ∷ [])) ≡ front ++ 10 ∷ []
text_of-lines_of = whole []

-- no line has a line feed within it
each_is_line : (line text : List ℕ) → is_line line ≡ true → list_all is_line (lines_after line text) ≡ true
each_is_line line [] h = refl
each_is_line line (byte ∷ text) h = by (byte == 10) refl (each_is_line [] text refl) (each_is_line (line ++ byte ∷ []) text)
  where
    by : (b : Bool) → (byte == 10) ≡ b → list_all is_line (lines_after [] text) ≡ true → (is_line (line ++ byte ∷ []) ≡ true → list_all is_line (lines_after (line ++ byte ∷ []) text) ≡ true)
        → list_all is_line (cond b (line ∷ lines_after [] text) (lines_after (line ++ byte ∷ []) text)) ≡ true
    by true is here later = and_from _ _ h here
    by false is here later = later (list_all-append (λ b. not (b == 10)) line (byte ∷ []) ∙ and_from _ _ h (and_from _ _ (ap not is) refl))

pub lines_of-lines : (text : List ℕ) → list_all is_line (lines_of text) ≡ true
lines_of-lines text = each_is_line [] text refl

-- there are as many as line feeds
counted : (line text : List ℕ) → count_by (λ byte. byte == 10) text ≡ length (lines_after line text)
counted line [] = refl
counted line (byte ∷ text) = sum_by-cons (λ byte. cond (byte == 10) 1 0) byte text ∙ by (byte == 10) (counted [] text) (counted (line ++ byte ∷ []) text)
  where
    by : (b : Bool) → count_by (λ byte. byte == 10) text ≡ length (lines_after [] text) → count_by (λ byte. byte == 10) text ≡ length (lines_after (line ++ byte ∷ []) text)
        → cond b 1 0 + count_by (λ byte. byte == 10) text ≡ length (cond b (line ∷ lines_after [] text) (lines_after (line ++ byte ∷ []) text))
    by true here later = omega (arith, here)
    by false here later = omega (arith, later)

pub count_lines : (text : List ℕ) → count_by (λ byte. byte == 10) text ≡ length (lines_of text)
count_lines = counted []

-- ---- one line

-- a line, its line feed, and more text
first_line : (front line text : List ℕ) → is_line line ≡ true → lines_after front (line ++ 10 ∷ text) ≡ (front ++ line) ∷ lines_of text
first_line front [] text h = ap (λ (l : List ℕ). l ∷ lines_of text) (sym (append-nil front))
first_line front (byte ∷ line) text h =
    let both = and_parts (not (byte == 10)) (is_line line) h in
    ap (λ b. cond b (front ∷ lines_after [] (line ++ 10 ∷ text)) (lines_after (front ++ byte ∷ []) (line ++ 10 ∷ text))) (off (byte == 10) both.0)
    ∙ first_line (front ++ byte ∷ []) line text both.1
    ∙ ap (λ (l : List ℕ). l ∷ lines_of text) (append_assoc front (byte ∷ []) line)
  where
    off : (b : Bool) → not b ≡ true → b ≡ false
    off true e = cc
    off false e = refl

pub lines_of-line : (line text : List ℕ) → is_line line ≡ true → lines_of (line ++ 10 ∷ text) ≡ line ∷ lines_of text
lines_of-line = first_line []

-- the first line of a text is what stands before its first line feed
abbrev feed : List ℕ → ℕ
feed = position_or_len (λ byte. byte == 10)

split_line : (line text : List ℕ) → feed text < length text → lines_after line text ≡ (line ++ take (feed text) text) ∷ lines_of (drop (suc (feed text)) text)
split_line line [] lt = absurd (omega arith)
split_line line (byte ∷ text) lt = by (byte == 10) lt (split_line (line ++ byte ∷ []) text)
  where
    by : (b : Bool) → cond (not b) (1 + feed text) 0 < suc (length text) → (feed text < length text → lines_after (line ++ byte ∷ []) text ≡ ((line ++ byte ∷ []) ++ take (feed text) text) ∷ lines_of (drop (suc (feed text)) text))
        → cond b (line ∷ lines_after [] text) (lines_after (line ++ byte ∷ []) text) ≡ (line ++ take (cond (not b) (1 + feed text) 0) (byte ∷ text)) ∷ lines_of (drop (suc (cond (not b) (1 + feed text) 0)) (byte ∷ text))
    by true lt later = ap (λ l. l ∷ lines_of text) (sym (append-nil line))
    by false lt later =
        let one : 1 + feed text ≡ suc (feed text) = omega arith in
        later (omega arith)
        ∙ ap (λ l. l ∷ lines_of (drop (suc (feed text)) text)) (append_assoc line (byte ∷ []) (take (feed text) text))
        ∙ ap (λ n. (line ++ take n (byte ∷ text)) ∷ lines_of (drop (suc n) (byte ∷ text))) (sym one)

no_line : (line text : List ℕ) → length text ≤ feed text → lines_after line text ≡ []
no_line line [] le = refl
no_line line (byte ∷ text) le = by (byte == 10) le (no_line (line ++ byte ∷ []) text)
  where
    by : (b : Bool) → suc (length text) ≤ cond (not b) (1 + feed text) 0 → (length text ≤ feed text → lines_after (line ++ byte ∷ []) text ≡ []) → cond b (line ∷ lines_after [] text) (lines_after (line ++ byte ∷ []) text) ≡ []
    by true le later = absurd (omega arith)
    by false le later = later (omega arith)

pub lines_of-found : (text : List ℕ) (end : ℕ) → position (λ byte. byte == 10) text ≡ Some end → lines_of text ≡ take end text ∷ lines_of (drop (end + 1) text)
lines_of-found text end e =
    let h = cond_some (nat_lt (feed text) (length text)) (feed text) end e in
    subst (λ n. lines_of text ≡ take n text ∷ lines_of (drop (n + 1) text)) h.1
    (split_line [] text ((Decides-ltb (feed text) (length text)).0 h.0) ∙ ap (λ n. take (feed text) text ∷ lines_of (drop n text)) (sym (add-one (feed text))))

pub lines_of-none : (text : List ℕ) → position (λ byte. byte == 10) text ≡ None → lines_of text ≡ []
lines_of-none text e = by (nat_lt (feed text) (length text)) refl e
  where
    by : (b : Bool) → nat_lt (feed text) (length text) ≡ b → cond b (Some (feed text)) None ≡ None → lines_of text ≡ []
    by true is e = cc
    by false is e = no_line [] text (grind (arith, nat_tests))

-- the lines of lines are these
pub lines_of-text_of : (lines : List (List ℕ)) → list_all is_line lines ≡ true → lines_of (text_of_lines lines) ≡ lines
lines_of-text_of [] h = refl
lines_of-text_of (line ∷ lines) h =
    let both = and_parts (is_line line) (list_all is_line lines) h in
    lines_of-line line (text_of_lines lines) both.0 ∙ ap (λ (l : List (List ℕ)). line ∷ l) (lines_of-text_of lines both.1)

-- a line more, behind the text of lines
pub pushed : (text line longer : List ℕ) → text ≡ text_of_lines (lines_of text) → is_line line ≡ true → longer ≡ text ++ (line ++ 10 ∷ []) → (lines_of longer ≡ lines_of text ++ line ∷ []) × (longer ≡ text_of_lines (lines_of longer))
pushed text line longer whole one is = (lines, is_text ∙ ap text_of_lines (sym lines))
  where
    is_text : longer ≡ text_of_lines (lines_of text ++ line ∷ [])
    is_text = is ∙ sym (append_assoc text line (10 ∷ [])) ∙ ap (λ t. (t ++ line) ++ 10 ∷ []) whole ∙ sym (text_of_more (lines_of text) line)

    all : list_all is_line (lines_of text ++ line ∷ []) ≡ true
    all = list_all-append is_line (lines_of text) (line ∷ []) ∙ and_from _ _ (lines_of-lines text) (and_from _ _ one refl)

    lines : lines_of longer ≡ lines_of text ++ line ∷ []
    lines = ap lines_of is_text ∙ lines_of-text_of (lines_of text ++ line ∷ []) all

-- ---- a text whose lines are all ended

-- its lines are those that make it again
lines_in-whole : (text : List ℕ) → text_of_lines (lines_of text) ≡ text → lines_in text ≡ Some (lines_of text)
lines_in-whole text e = ap (λ b. cond b (Some (lines_of text)) None) ((bytes_eq-Decides (text_of_lines (lines_of text)) text).1 e)

pub lines_in-ended : (front : List ℕ) → lines_in (front ++ 10 ∷ []) ≡ Some (lines_of (front ++ 10 ∷ []))
lines_in-ended front = lines_in-whole (front ++ 10 ∷ []) (text_of-lines_of front)

pub lines_in-text_of : (lines : List (List ℕ)) → list_all is_line lines ≡ true → lines_in (text_of_lines lines) ≡ Some lines
lines_in-text_of lines h =
    let same = lines_of-text_of lines h in
    lines_in-whole (text_of_lines lines) (ap text_of_lines same) ∙ ap (λ (l : List (List ℕ)). Some l) same

-- the last byte of a text, or another where it has none
abbrev last_or : ℕ → List ℕ → ℕ
last_or other [] = other
last_or other (byte ∷ text) = last_or byte text

last_or-behind : (other : ℕ) (front : List ℕ) (byte : ℕ) (text : List ℕ) → last_or other (front ++ byte ∷ text) ≡ last_or byte text
last_or-behind other [] byte text = refl
last_or-behind other (first ∷ front) byte text = last_or-behind first front byte text

last_or-text_of : (lines : List (List ℕ)) → last_or 10 (text_of_lines lines) ≡ 10
last_or-text_of [] = refl
last_or-text_of (line ∷ lines) = last_or-behind 10 line 10 (text_of_lines lines) ∙ last_or-text_of lines

-- there are none where a text ends with another byte
pub lines_in-cut : (front : List ℕ) (last : ℕ) → (last == 10) ≡ false → lines_in (front ++ last ∷ []) ≡ None
lines_in-cut front last other = by (bytes_eq (text_of_lines (lines_of text)) text) refl
  where
    text : List ℕ
    text = front ++ last ∷ []

    by : (b : Bool) → bytes_eq (text_of_lines (lines_of text)) text ≡ b → cond b (Some (lines_of text)) None ≡ None
    by true is =
        let feed_last : last ≡ 10 = sym (last_or-behind 10 front last []) ∙ ap (last_or 10) (sym ((bytes_eq-Decides (text_of_lines (lines_of text)) text).0 is)) ∙ last_or-text_of (lines_of text) in
        absurd (grind (arith, nat_tests))
    by false is = refl

-- ---- the line of a name

name_bytes : (text : List ℕ) → list_all is_name_byte text ≡ true → is_line text ≡ true
name_bytes [] h = refl
name_bytes (byte ∷ text) h =
    let both = and_parts (is_name_byte byte) (list_all is_name_byte text) h in
    and_from _ _ (name_byte byte both.0) (name_bytes text both.1)
  where
    name_byte : (b : ℕ) → is_name_byte b ≡ true → not (b == 10) ≡ true
    name_byte b h = grind arith

pub name_is_line : (name : Name) → IsName name → is_line (name_text name) ≡ true
name_is_line name h = name_bytes (name_text name) (name_text-bytes name h)
