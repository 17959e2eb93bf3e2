-- What a writer holds that took the lines of `state`, or a beginning of them.
use Rattle.std.proofs.Common.{◌≡◌, ◌∙◌, ◌<◌, ◌≤◌, ℕ, true, get_or, length, take, List, [], ◌∷◌, ◌++◌, Option, append_assoc, ap, subst, sym}
use Rattle.std.proofs.KnownBytes.{Appends-trans}
use Rattle.std.specs.FinMap.{FinMap, entries}
use Rattle.std.specs.Io.KnownBytes.{Appends}
use Rattle.custody_records.specs.Keys.{text_cmp}
use Rattle.custody_records.specs.Tables.{row_entries, is_rising, table_map}
use Rattle.custody_records.proofs.TableLemmas.{entries-table_map}
use Rattle.desk.specs.Lines.{AppendsBeginning}
use Rattle.answer_lines.specs.Printing.{as_line}
use Rattle.answer_lines.specs.State.{lines_text}
use Rattle.answer_lines.specs.declared.lines.Line.{Line}
use Rattle.answer_lines.proofs.Beginnings.{begins_first, begins_second}
use Rattle.answer_lines.proofs.PrintLemmas.{IsTextOf, lines_text-append, rows_all, rows_begin}

-- ---- the entries of a table, which are its rows

module _ {Row X : Type 0} (key : Row → List ℕ) (value : Row → X) (text : List (List ℕ × X) → List ℕ) (row_text : Row → List ℕ)
    (is : IsTextOf (λ (rows : List Row). text (row_entries key value rows)) row_text)
    (kept : FinMap text_cmp X) (rows : List Row) (all : kept ≡ table_map text_cmp key value rows) (rising : is_rising text_cmp key rows ≡ true) where
  entries_text : text (row_entries key value rows) ≡ text (entries kept)
  entries_text = ap text (sym (ap entries all ∙ entries-table_map text_cmp key value rows rising))

  pub table_whole : (old new : Option (List ℕ)) (i : ℕ) → length rows ≤ i → Appends old new (text (row_entries key value (take i rows))) → Appends old new (text (entries kept))
  table_whole old new i past taken = subst (λ (t : List ℕ). Appends old new t) entries_text (rows_all _ row_text is old new rows i past taken)

  pub table_begins : (old mid new : Option (List ℕ)) (i : ℕ) (row : Row) → i < length rows → row ≡ get_or rows i row → Appends old mid (text (row_entries key value (take i rows)))
      → AppendsBeginning mid new (row_text row) → AppendsBeginning old new (text (entries kept))
  table_begins old mid new i row lt at before here =
      subst (λ (t : List ℕ). AppendsBeginning old new t) entries_text (rows_begin _ row_text is old mid new rows i row lt at before here)

-- ---- the lines of a registry: its own, those of its parts and those of its notices

pub parts_begin : (old mid new : Option (List ℕ)) (head : List ℕ) (parts notices : List Line) → Appends old mid head → AppendsBeginning mid new (lines_text parts)
    → AppendsBeginning old new (head ++ lines_text (parts ++ notices))
parts_begin old mid new head parts notices first begun =
    subst (λ (t : List ℕ). AppendsBeginning old new (head ++ t)) (sym (lines_text-append parts notices))
    (begins_second old mid new head (lines_text parts ++ lines_text notices) first (begins_first mid new (lines_text parts) (lines_text notices) begun))

pub notices_begin : (old mid then new : Option (List ℕ)) (head : List ℕ) (parts notices : List Line) → Appends old mid head → Appends mid then (lines_text parts) → AppendsBeginning then new (lines_text notices)
    → AppendsBeginning old new (head ++ lines_text (parts ++ notices))
notices_begin old mid then new head parts notices first second begun =
    subst (λ (t : List ℕ). AppendsBeginning old new (head ++ t)) (sym (lines_text-append parts notices))
    (begins_second old mid new head (lines_text parts ++ lines_text notices) first (begins_second mid then new (lines_text parts) (lines_text notices) second begun))

pub registry_is_whole : (old mid then new : Option (List ℕ)) (head : List ℕ) (parts notices : List Line) → Appends old mid head → Appends mid then (lines_text parts) → Appends then new (lines_text notices)
    → Appends old new (head ++ lines_text (parts ++ notices))
registry_is_whole old mid then new head parts notices first second third =
    subst (λ (t : List ℕ). Appends old new (head ++ t)) (sym (lines_text-append parts notices))
    (Appends-trans old mid new head (lines_text parts ++ lines_text notices) first (Appends-trans mid then new (lines_text parts) (lines_text notices) second third))

-- ---- the registries, the releases, the holds, and the line of the free blocks

pub registries_begin : (old new : Option (List ℕ)) (registries releases holds room : List ℕ) → AppendsBeginning old new registries → AppendsBeginning old new (as_line (registries ++ releases ++ holds ++ room))
registries_begin old new registries releases holds room begun =
    begins_first old new (registries ++ releases ++ holds ++ room) (10 ∷ [])
    (begins_first old new (registries ++ releases ++ holds) room (begins_first old new (registries ++ releases) holds (begins_first old new registries releases begun)))

pub releases_begin : (old mid new : Option (List ℕ)) (registries releases holds room : List ℕ) → Appends old mid registries → AppendsBeginning mid new releases
    → AppendsBeginning old new (as_line (registries ++ releases ++ holds ++ room))
releases_begin old mid new registries releases holds room first begun =
    begins_first old new (registries ++ releases ++ holds ++ room) (10 ∷ [])
    (begins_first old new (registries ++ releases ++ holds) room (begins_first old new (registries ++ releases) holds (begins_second old mid new registries releases first begun)))

pub holds_begin : (old mid then new : Option (List ℕ)) (registries releases holds room : List ℕ) → Appends old mid registries → Appends mid then releases → AppendsBeginning then new holds
    → AppendsBeginning old new (as_line (registries ++ releases ++ holds ++ room))
holds_begin old mid then new registries releases holds room first second begun =
    begins_first old new (registries ++ releases ++ holds ++ room) (10 ∷ [])
    (begins_first old new (registries ++ releases ++ holds) room (begins_second old then new (registries ++ releases) holds (Appends-trans old mid then registries releases first second) begun))

pub room_begins : (old mid then last new : Option (List ℕ)) (registries releases holds room : List ℕ) → Appends old mid registries → Appends mid then releases → Appends then last holds → AppendsBeginning last new (as_line room)
    → AppendsBeginning old new (as_line (registries ++ releases ++ holds ++ room))
room_begins old mid then last new registries releases holds room first second third begun =
    subst (λ (t : List ℕ). AppendsBeginning old new t) (sym (append_assoc (registries ++ releases ++ holds) room (10 ∷ [])))
    (begins_second old last new (registries ++ releases ++ holds) (as_line room) (Appends-trans old then last (registries ++ releases) holds (Appends-trans old mid then registries releases first second) third) begun)

pub state_is_whole : (old mid then last new : Option (List ℕ)) (registries releases holds room : List ℕ) → Appends old mid registries → Appends mid then releases → Appends then last holds → Appends last new (as_line room)
    → Appends old new (as_line (registries ++ releases ++ holds ++ room))
state_is_whole old mid then last new registries releases holds room first second third fourth =
    subst (λ (t : List ℕ). Appends old new t) (sym (append_assoc (registries ++ releases ++ holds) room (10 ∷ [])))
    (Appends-trans old last new (registries ++ releases ++ holds) (as_line room) (Appends-trans old then last (registries ++ releases) holds (Appends-trans old mid then registries releases first second) third) fourth)
