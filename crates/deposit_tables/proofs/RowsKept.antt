-- Rows whose objects are kept.
use Rattle.std.proofs.Common.{◌≡◌, ◌<◌, ◌+◌, ◌++◌, ◌∷◌, ◌∙◌, [], ℕ, Bool, List, ap, append_assoc, cond, false, filter, get_or, length, refl, sym, take, true}
use Rattle.std.proofs.lemmas.List.{append-nil}
use Rattle.std.proofs.lemmas.List.Concat.{flat_map-append}
use Rattle.std.proofs.lemmas.List.Elements.{All-append, All-filter, filter_more}
use Rattle.dnrd_csv.specs.Table.{HaveWidth}
use Rattle.dnrd_csv.proofs.RowLemmas.{flat}
use Rattle.deposit_tables.specs.RowsAfter.{is_kept, rows_after}
use Rattle.deposit_tables.proofs.Decisions.{Rows}

pub after_wide : (width : ℕ) (before contained : Rows) (renewed : List (List ℕ)) → HaveWidth width before → HaveWidth width contained → HaveWidth width (rows_after before contained renewed)
after_wide width before contained renewed wide too =
    All-append (λ (row : List (List ℕ)). length row ≡ width) (filter (is_kept renewed) before) contained (All-filter (is_kept renewed) (λ (row : List (List ℕ)). length row ≡ width) before wide) too

-- one row more of those that pass a test
pub kept_more : (p : List (List ℕ) → Bool) (rows : Rows) (i : ℕ) (before now next : List (List ℕ)) → i < length rows → now ≡ before ++ flat (filter p (take i rows)) → next ≡ now ++ cond (p (get_or rows i [])) (get_or rows i []) []
    → next ≡ before ++ flat (filter p (take (i + 1) rows))
kept_more p rows i before now next inside was is =
    let row = get_or rows i [] in
    let step : flat (filter p (take (i + 1) rows)) ≡ flat (filter p (take i rows)) ++ flat (cond (p row) (row ∷ []) []) =
    ap flat (filter_more p rows i [] inside) ∙ flat_map-append (λ r. r) (filter p (take i rows)) (cond (p row) (row ∷ []) []) in
    is ∙ ap (λ (t : List (List ℕ)). t ++ cond (p row) row []) was ∙ append_assoc before (flat (filter p (take i rows))) (cond (p row) row [])
    ∙ ap (λ (t : List (List ℕ)). before ++ (flat (filter p (take i rows)) ++ t)) (one (p row) row) ∙ ap (λ (t : List (List ℕ)). before ++ t) (sym step)
  where
    one : (b : Bool) (row : List (List ℕ)) → cond b row [] ≡ flat (cond b (row ∷ []) [])
    one true row = sym (append-nil row)
    one false row = refl

-- where no object is renewed, all rows are kept
pub kept_all : (rows : Rows) → filter (is_kept []) rows ≡ rows
kept_all [] = refl
kept_all (row ∷ rows) = ap (λ (t : Rows). row ∷ t) (kept_all rows)

-- the fields of both
pub after_fields : (before contained : Rows) (renewed : List (List ℕ)) (empty middle after : List (List ℕ)) → empty ≡ [] → middle ≡ empty ++ flat (filter (is_kept renewed) before)
    → after ≡ middle ++ flat (filter (is_kept []) contained) → after ≡ flat (rows_after before contained renewed)
after_fields before contained renewed empty middle after none first then =
    then ∙ ap (λ (t : List (List ℕ)). t ++ flat (filter (is_kept []) contained)) (first ∙ ap (λ (t : List (List ℕ)). t ++ flat (filter (is_kept renewed) before)) none)
    ∙ ap (λ (t : Rows). flat (filter (is_kept renewed) before) ++ flat t) (kept_all contained) ∙ sym (flat_map-append (λ r. r) (filter (is_kept renewed) before) contained)
