-- What a writer holds after the texts of rows.
use Rattle.std.proofs.Common.{◌≡◌, ◌∙◌, ℕ, ◌+◌, ◌<◌, ◌≤◌, List, [], ◌∷◌, ◌++◌, Option, refl, length, map, take, drop, get_or, sym, ap, subst, append-nil, append_assoc}
use Rattle.std.proofs.KnownBytes.{Appends-trans}
use Rattle.std.proofs.lemmas.List.{take-append-drop, take_all, take_more}
use Rattle.std.specs.Prelude.{Result, Ok, Err, OnOk}
use Rattle.std.specs.Io.KnownBytes.{Appends}
use Rattle.std.specs.List.{flat_map}
use Rattle.desk.specs.Lines.{AppendsBeginning}
use Rattle.custody_records.specs.Tables.{row_entries}
use Rattle.answer_lines.specs.Lines.{line_text}
use Rattle.answer_lines.specs.declared.lines.Line.{Line}
use Rattle.answer_lines.specs.Printing.{as_line}
use Rattle.answer_lines.specs.State.{lines_text}
use Rattle.answer_lines.proofs.Beginnings.{begins_first, begins_second}

-- the text of rows is that of each, one after the other
pub record IsTextOf {Row : Type 0} (text : List Row → List ℕ) (row_text : Row → List ℕ) : Type 0 where
  pub none : text [] ≡ []
  pub more : (row : Row) (rows : List Row) → text (row ∷ rows) ≡ row_text row ++ text rows

-- each row as a line
pub are_lines : {Row K X : Type 0} (key : Row → K) (value : Row → X) (line_at : K × X → Line)
    → IsTextOf (λ (rows : List Row). lines_text (map line_at (row_entries key value rows))) (λ row. as_line (line_text (line_at (key row, value row))))
are_lines key value line_at = record { none = refl; more = λ row rows. refl }

-- each row as a text
pub are_texts : {Row K X : Type 0} (key : Row → K) (value : Row → X) (text : K × X → List ℕ) → IsTextOf (λ (rows : List Row). flat_map text (row_entries key value rows)) (λ row. text (key row, value row))
are_texts key value text = record { none = refl; more = λ row rows. refl }

module _ {Row : Type 0} (text : List Row → List ℕ) (row_text : Row → List ℕ) (is : IsTextOf text row_text) where
  text_join : (a b : List Row) → text (a ++ b) ≡ text a ++ text b
  text_join [] b = ap (λ (t : List ℕ). t ++ text b) (sym is.none)
  text_join (row ∷ a) b =
      is.more row (a ++ b) ∙ ap (λ (t : List ℕ). row_text row ++ t) (text_join a b) ∙ sym (append_assoc (row_text row) (text a) (text b))
      ∙ ap (λ (t : List ℕ). t ++ text b) (sym (is.more row a))

  -- all rows were taken
  pub rows_all : (old new : Option (List ℕ)) (rows : List Row) (i : ℕ) → length rows ≤ i → Appends old new (text (take i rows)) → Appends old new (text rows)
  rows_all old new rows i past taken = subst (λ (rs : List Row). Appends old new (text rs)) (take_all i rows past) taken

  module _ (old mid new : Option (List ℕ)) (rows : List Row) (i : ℕ) (row : Row) (lt : i < length rows) (at : row ≡ get_or rows i row) (before : Appends old mid (text (take i rows))) where
    -- one row more
    text_step : text (take i rows) ++ row_text row ≡ text (take (i + 1) rows)
    text_step =
        let one : text (row ∷ []) ≡ row_text row = is.more row [] ∙ ap (λ (t : List ℕ). row_text row ++ t) is.none ∙ append-nil (row_text row) in
        let more : take i rows ++ row ∷ [] ≡ take (i + 1) rows = ap (λ (r : Row). take i rows ++ r ∷ []) at ∙ sym (take_more rows i row lt) in
        ap (λ (t : List ℕ). text (take i rows) ++ t) (sym one) ∙ sym (text_join (take i rows) (row ∷ [])) ∙ ap text more

    -- the rows before one were taken, and it is
    pub rows_more : Appends mid new (row_text row) → Appends old new (text (take (i + 1) rows))
    rows_more here = subst (λ (t : List ℕ). Appends old new t) text_step (Appends-trans old mid new (text (take i rows)) (row_text row) before here)

    -- or a beginning of it is
    pub rows_begin : AppendsBeginning mid new (row_text row) → AppendsBeginning old new (text rows)
    rows_begin here =
        let begun = subst (λ (t : List ℕ). AppendsBeginning old new t) text_step (begins_second old mid new (text (take i rows)) (row_text row) before here) in
        let all : text (take (i + 1) rows) ++ text (drop (i + 1) rows) ≡ text rows = sym (text_join (take (i + 1) rows) (drop (i + 1) rows)) ∙ ap text (take-append-drop (i + 1) rows) in
        subst (λ (t : List ℕ). AppendsBeginning old new t) all (begins_first old new (text (take (i + 1) rows)) (text (drop (i + 1) rows)) begun)

-- the lines of a list and of another that stands behind it
pub lines_text-append : (a b : List Line) → lines_text (a ++ b) ≡ lines_text a ++ lines_text b
lines_text-append = text_join lines_text (λ line. as_line (line_text line)) (record { none = refl; more = λ line lines. refl })

pub on_ok : {T E : Type 0} (P : Type 0) (r : Result T E) → P → OnOk r P
on_ok P (Ok x) h = h
on_ok P (Err e) h = tt

pub ok_then : {T E : Type 0} {P Q : Type 0} (r : Result T E) → (P → Q) → OnOk r P → OnOk r Q
ok_then (Ok x) then h = then h
ok_then (Err e) then h = tt
