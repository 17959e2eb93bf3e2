-- The records of a text are its only rows.
use Rattle.std.specs.Prelude.{nat_eq, false, true}
use Rattle.std.proofs.Common.{Bor, ◌≡◌, ◌≢◌, ◌++◌, ◌∷◌, ◌∙◌, [], ℕ, List, Some, refl, ap, sym, inl, inr, All, append_assoc}
use Rattle.std.specs.List.{AllByRecursion, starts_with}
use Rattle.std.proofs.lemmas.Bool.{and_parts, cases_Bool, eqb-true}
use Rattle.std.proofs.lemmas.List.Elements.{recursion_from_All}
use Rattle.std.proofs.lemmas.Option.{same_Some}
use Rattle.csv.specs.Machine.{Read, next_record}
use Rattle.csv.specs.Reading.{AreRecords, ReadRecord, Reached, default_config, is_bom, source_of, strip_bom, took_first}
use Rattle.csv.specs.declared.reader.Reader.{Reader}
use Rattle.csv.proofs.ReadFacts.{rows-end, rows-more}
use Rattle.csv.specs.declared.parser.State.TheVariants as st
use Rattle.dnrd_csv.specs.inside.RowReading.{IsAtRow}
use Rattle.dnrd_csv.specs.Text.{IsRow, IsTextOf, byte_order_mark, row_text, table_text}
use Rattle.dnrd_csv.proofs.SpellingLemmas.{reads_row}

mark_found : (a b c : ℕ) (rest : List ℕ) → is_bom a b c ≡ true → starts_with nat_eq (a ∷ b ∷ c ∷ rest) byte_order_mark ≡ true
mark_found a b c rest e =
    let last = and_parts _ _ e in
    let first = and_parts _ _ last.0 in
    rw (eqb-true a 0xEF first.0, eqb-true b 0xBB first.1, eqb-true c 0xBF last.1) refl

-- a text that begins with no mark is read as it stands
pub unmarked_stays : (bytes : List ℕ) → starts_with nat_eq bytes byte_order_mark ≡ false → strip_bom bytes ≡ bytes
unfolding strip_bom
unmarked_stays [] unmarked = refl
unmarked_stays (a ∷ []) unmarked = refl
unmarked_stays (a ∷ b ∷ []) unmarked = refl
unmarked_stays (a ∷ b ∷ c ∷ rest) unmarked = elim (cases_Bool (is_bom a b c)) [
  | inl mark ↦ cc (mark_found a b c rest mark, unmarked)
  | inr other ↦ rw other refl
]

-- the records of rows' text are the rows
records_of : (rows : List (List (List ℕ))) → AllByRecursion IsRow rows → AreRecords default_config st.StartRecord (table_text rows) rows
unfolding Reached next_record
records_of [] each = (st.StartRecord, [], (refl, refl), refl)
records_of (row ∷ rows) each =
    let more = records_of rows each.1 in
    (more.0, more.1, ((row, st.StartRecord, table_text rows), reads_row row (table_text rows) each.0, refl, more.2), more.3)

-- and no others
only_records : (rows found : List (List (List ℕ))) → AllByRecursion IsRow rows
    → AreRecords default_config st.StartRecord (table_text rows) found → found ≡ rows
unfolding Reached next_record
only_records [] [] each are = refl
only_records [] (row ∷ found) each are = cc (are.2.1)
only_records (row ∷ rows) [] each are =
    let first = reads_row row (table_text rows) each.0 in
    cc (first, are.2.0, are.2.1, are.3)
only_records (row ∷ rows) (other ∷ found) each are =
    let first = reads_row row (table_text rows) each.0 in
    let next : are.2.0 ≡ (row, st.StartRecord, table_text rows) = cc (first, are.2.1) in
    let rest = only_records rows found each.1 (are.0, are.1, rw next at are.2.3, are.3) in
    let head : other ≡ row = are.2.2 ∙ ap (λ (p : Read). p.0) next in
    cc (head, rest)

-- two lists of rows with one text are one
pub one_text : (xs ys : List (List (List ℕ))) → All IsRow xs → All IsRow ys → table_text xs ≡ table_text ys → xs ≡ ys
one_text xs ys first second same =
    let are = records_of xs (recursion_from_All IsRow xs first) in
    only_records ys xs (recursion_from_All IsRow ys second) (rw same at are)

-- what is read of a text with a row at its front
front_is : (read : Read) (text : List ℕ) (row : List (List ℕ)) (tail : List ℕ) → next_record default_config st.StartRecord [] [] text ≡ Some read → IsRow row → text ≡ row_text row ++ tail
    → read ≡ (row, st.StartRecord, tail)
front_is read text row tail found is_row is =
    same_Some read (row, st.StartRecord, tail) (sym found ∙ ap (λ (t : List ℕ). next_record default_config st.StartRecord [] [] t) is ∙ reads_row row tail is_row)

-- two rows at the front of a text are one, and so is what follows
same_front : (x y : List (List ℕ)) (left right : List ℕ) → IsRow x → IsRow y → row_text x ++ left ≡ row_text y ++ right → (x ≡ y) × (left ≡ right)
same_front x y left right first second same =
    let one = front_is (x, st.StartRecord, left) (row_text x ++ left) y right (reads_row x left first) second same in
    (ap (λ (r : Read). r.0) one, ap (λ (r : Read). r.2) one)

not_empty : (x : List (List ℕ)) (left : List ℕ) → IsRow x → row_text x ++ left ≡ [] → ⊥
unfolding next_record
not_empty x left first none = cc (reads_row x left first, none)

-- what follows the text of some rows in a text of rows is a text of rows
front : (first rows : List (List (List ℕ))) (rest : List ℕ) → AllByRecursion IsRow first → AllByRecursion IsRow rows → table_text first ++ rest ≡ table_text rows
    → (more : List (List (List ℕ))) × AllByRecursion IsRow more × (rest ≡ table_text more)
front [] rows rest each others same = (rows, others, same)
front (x ∷ first) [] rest each others same = absurd (not_empty x (table_text first ++ rest) each.0 (sym (append_assoc (row_text x) (table_text first) rest) ∙ same))
front (x ∷ first) (y ∷ rows) rest each others same =
    let both = same_front x y (table_text first ++ rest) (table_text rows) each.0 others.0 (sym (append_assoc (row_text x) (table_text first) rest) ∙ same) in
    front first rows rest each.1 others.1 both.1

starts : (more : List (List (List ℕ))) (rest : List ℕ) → AllByRecursion IsRow more → rest ≡ table_text more → rest ≢ []
    → ((row : List (List ℕ)) (tail : List ℕ) → IsRow row → rest ≢ row_text row ++ tail) → ⊥
starts [] rest each is some none = some is
starts (row ∷ more) rest each is some none = none row (table_text more) each.0 is

-- a text with no row at the front of what follows some rows is the text of no rows
pub not_rows : (text : List ℕ) (first : List (List (List ℕ))) (rest : List ℕ) → All IsRow first → text ≡ table_text first ++ rest → rest ≢ []
    → ((row : List (List ℕ)) (tail : List ℕ) → IsRow row → rest ≢ row_text row ++ tail)
    → (rows : List (List (List ℕ))) → ¬ IsTextOf text rows
not_rows text first rest each is some none rows was =
    let (more, in_form, left) = front first rows rest (recursion_from_All IsRow first each) (recursion_from_All IsRow rows was.rows_in_form) (sym is ∙ was.text) in
    starts more rest in_form left some none

-- what a read of a record gives
record Gives (new : Reader (Bor (List ℕ))) (fields : List (List ℕ)) (text : List ℕ) : Type 0 where
  read : Read
  left : List ℕ
  source : source_of (λ s. Some s.now) new ≡ Some left
  found : next_record default_config st.StartRecord [] [] text ≡ Some read
  fields_are : fields ≡ read.0
  state_is : read.1 ≡ new.state
  left_is : read.2 ≡ left

read_is : (old new : Reader (Bor (List ℕ))) (fields : List (List ℕ)) (text : List ℕ) → IsAtRow old text → ReadRecord (λ s. Some s.now) old new true fields
    → Gives new fields text
unfolding Reached
read_is old new fields text at read =
    let (left, source, reached) =
    rows-more (λ (s : Bor (List ℕ)). Some s.now) old new fields default_config st.StartRecord text text [] at.config at.source (sym at.start, refl) read in
    let (p, is, same, ends) = reached in
    let (state, tail) = ends in
    record { read = p; left = left; source = source; found = is; fields_are = same; state_is = state; left_is = tail }

-- a row at the front is what is read
pub read_front : (old new : Reader (Bor (List ℕ))) (fields : List (List ℕ)) (text : List ℕ) → IsAtRow old text → ReadRecord (λ s. Some s.now) old new true fields
    → (row : List (List ℕ)) (tail : List ℕ) → IsRow row → text ≡ row_text row ++ tail → fields ≡ row
read_front old new fields text at read row tail is_row is =
    let given = read_is old new fields text at read in
    given.fields_are ∙ ap (λ (r : Read). r.0) (front_is given.read text row tail given.found is_row is)

-- a read of the row at the front stands after it
pub at_next : (old new : Reader (Bor (List ℕ))) (fields : List (List ℕ)) (text rest : List ℕ) → IsAtRow old text → ReadRecord (λ s. Some s.now) old new true fields
    → took_first new ≡ true → IsRow fields → text ≡ row_text fields ++ rest → IsAtRow new rest
at_next old new fields text rest at read first row is =
    let given = read_is old new fields text at read in
    let front = front_is given.read text fields rest given.found row is in
    record {
      untrimmed = read.3 ∙ at.untrimmed;
      ready = inl first;
      config = read.2 ∙ at.config;
      start = sym given.state_is ∙ ap (λ (r : Read). r.1) front;
      source = given.source ∙ ap Some (sym given.left_is ∙ ap (λ (r : Read). r.2) front);
    }

-- where no record is read, no row stands at the front
pub none_read : (old new : Reader (Bor (List ℕ))) (fields : List (List ℕ)) (text : List ℕ) → IsAtRow old text → ReadRecord (λ s. Some s.now) old new false fields
    → (row : List (List ℕ)) (tail : List ℕ) → IsRow row → text ≢ row_text row ++ tail
none_read old new fields text at read row tail is_row is =
    let none = rows-end (λ (s : Bor (List ℕ)). Some s.now) old new fields default_config text at.config at.source read in
    let known = reads_row row tail is_row in
    cc (none, at.start, known, is)
