-- Columns of rows, one row more at a time.
use Rattle.std.proofs.lemmas.List.Elements.{All-more, All-same}
use Rattle.std.proofs.Common.{All, subst, ◌≤◌, ◌≡◌, ◌<◌, ◌+◌, ◌++◌, ◌∷◌, ◌∙◌, [], Bor, List, ℕ, ap, arith, get_or, length, sym, take}
use Rattle.std.proofs.lemmas.List.{get_or-map, length-map, map-append, take_more, take_all}
use Rattle.dnrd_csv.specs.inside.RowKeys.{borrowed_texts}
use Rattle.deposit_verify.specs.References.{column}

pub length-column : (i : ℕ) (rows : List (List (List ℕ))) → length (column i rows) ≡ length rows
length-column i rows = length-map rows (λ row. get_or row i [])

pub get_or-column : (i : ℕ) (rows : List (List (List ℕ))) (n : ℕ) (d : List ℕ) → n < length rows → get_or (column i rows) n d ≡ get_or (get_or rows n []) i []
get_or-column i rows n d inside = get_or-map (λ row. get_or row i []) rows n [] d inside

-- the texts of keys, and one more key
pub texts_more : (keys : List (Bor (List ℕ))) (key : Bor (List ℕ)) → borrowed_texts (keys ++ key ∷ []) ≡ borrowed_texts keys ++ key.now ∷ []
texts_more keys key = map-append (λ k. k.now) keys (key ∷ [])

-- the first of some texts, and the next
pub texts_next : (keys : List (Bor (List ℕ))) (key : Bor (List ℕ)) (texts : List (List ℕ)) (n : ℕ) → n < length texts → borrowed_texts keys ≡ take n texts → key.now ≡ get_or texts n []
    → borrowed_texts (keys ++ key ∷ []) ≡ take (n + 1) texts
texts_next keys key texts n inside before here =
    texts_more keys key ∙ ap (λ (ts : List (List ℕ)). ts ++ key.now ∷ []) before ∙ ap (λ (t : List ℕ). take n texts ++ t ∷ []) here ∙ sym (take_more texts n [] inside)

-- what holds of a column, one row more at a time
pub column_holds : (P : List ℕ → Type 0) (i : ℕ) (rows : List (List (List ℕ))) (n : ℕ) → n < length rows → All P (take n (column i rows)) → P (get_or (get_or rows n []) i []) → All P (take (n + 1) (column i rows))
column_holds P i rows n inside before here =
    let placed : n < length (column i rows) = omega (arith, length-column i rows) in
    All-more P (column i rows) n [] placed before (subst P (sym (get_or-column i rows n [] inside)) here)

pub column_at : (P : List ℕ → Type 0) (i : ℕ) (rows : List (List (List ℕ))) (n : ℕ) → n < length rows → All P (column i rows) → P (get_or (get_or rows n []) i [])
column_at P i rows n inside all =
    let placed : n < length (column i rows) = omega (arith, length-column i rows) in
    subst P (get_or-column i rows n [] inside) (all n [] placed)

pub column_whole : (P : List ℕ → Type 0) (i : ℕ) (rows : List (List (List ℕ))) (n : ℕ) → length rows ≤ n → All P (take n (column i rows)) → All P (column i rows)
column_whole P i rows n past all = All-same P _ _ (sym (take_all n (column i rows) (omega (arith, length-column i rows)))) all
