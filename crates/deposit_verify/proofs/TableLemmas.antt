-- Tables that are read one after the other.
use Rattle.std.proofs.lemmas.List.{get_or-map, length-map}
use Rattle.std.proofs.Common.{◌-◌, map, refl, zero, suc, ◌≡◌, ◌<◌, ◌≤◌, ◌+◌, ◌++◌, ◌∷◌, ◌∙◌, [], Bor, List, ℕ, ap, arith, get_or, length, subst, sym}
use Rattle.std.proofs.Math.ListN.{get_or-append}
use Rattle.std.proofs.Math.Seq.{get_or-append_seam}
use Rattle.dnrd_csv.specs.inside.RowKeys.{borrowed_texts}
use Rattle.deposit_name.specs.declared.table.TableName.{TableName}
use Rattle.envelope.specs.declared.envelope.FileEntry.{FileEntry}
use Rattle.deposit_verify.specs.Places.{all_tables, table_place}
use Rattle.deposit_verify.proofs.Lists.{below_next, file_at}

-- what the files below a place are read as
abbrev pub AreReadBelow : {X : Type 0} → (FileEntry → List ℕ → X → Type 0) → X → List FileEntry → List (List ℕ) → List X → ℕ → Type 0
AreReadBelow R none entries files tables i = (k : ℕ) (e : FileEntry) → k < i → R (get_or entries k e) (get_or files k []) (get_or tables k none)

pub read_more : {X : Type 0} (R : FileEntry → List ℕ → X → Type 0) (none : X) (entries : List FileEntry) (files : List (Bor (List ℕ))) (tables : List X) (rows : X) (i : ℕ) (d : FileEntry) (b : Bor (List ℕ))
    → length tables ≡ i → i < length entries → i < length files → AreReadBelow R none entries (borrowed_texts files) tables i → R (get_or entries i d) (get_or files i b).now rows
    → AreReadBelow R none entries (borrowed_texts files) (tables ++ rows ∷ []) (i + 1)
read_more {X} R none entries files tables rows i d b count inside within before here = λ k e below.
    let At : ℕ → FileEntry → X → Type 0 = λ k e rows. R (get_or entries k e) (get_or (borrowed_texts files) k []) rows in
    let last : get_or (tables ++ rows ∷ []) i none ≡ rows = ap (λ (n : ℕ). get_or (tables ++ rows ∷ []) n none) (sym count) ∙ get_or-append_seam tables rows [] none in
    below_next (λ (k : ℕ). (e : FileEntry) → At k e (get_or (tables ++ rows ∷ []) k none)) i
    (λ k below e. subst (At k e) (sym (get_or-append tables (rows ∷ []) none k (omega (arith, below, count)))) (before k e below))
    (λ e. subst (At i e) (sym last) (file_at (λ entry file. R entry file rows) entries files i d b inside within here e))
    k below e

-- the tables stand at their places
pub place_at : (i : ℕ) (d : TableName) → i < 8 → table_place (get_or all_tables i d) ≡ i
place_at zero d h = refl
place_at (suc zero) d h = refl
place_at (suc (suc zero)) d h = refl
place_at (suc (suc (suc zero))) d h = refl
place_at (suc (suc (suc (suc zero)))) d h = refl
place_at (suc (suc (suc (suc (suc zero))))) d h = refl
place_at (suc (suc (suc (suc (suc (suc zero)))))) d h = refl
place_at (suc (suc (suc (suc (suc (suc (suc zero))))))) d h = refl
place_at (suc (suc (suc (suc (suc (suc (suc (suc i)))))))) d h = absurd (omega arith)

-- the place of the file at a place, where all tables are there
pub listed_at : (files : List FileEntry) (i : ℕ) (e : FileEntry) → i < length files → i < 8 → map (λ f. f.name) files ≡ all_tables → table_place (get_or files i e).name ≡ i
listed_at files i e inside within same =
    ap table_place (sym (get_or-map (λ (f : FileEntry). f.name) files i e e.name inside) ∙ ap (λ (names : List TableName). get_or names i e.name) same) ∙ place_at i e.name within

-- the places of files
pub place_of : (files : List FileEntry) (i : ℕ) (e : FileEntry) → i < length files → get_or (map table_place (map (λ f. f.name) files)) i 0 ≡ table_place (get_or files i e).name
place_of files i e inside =
    let named : i < length (map (λ (f : FileEntry). f.name) files) = omega (arith, length-map files (λ (f : FileEntry). f.name)) in
    get_or-map table_place (map (λ (f : FileEntry). f.name) files) i e.name 0 named ∙ ap table_place (get_or-map (λ (f : FileEntry). f.name) files i e e.name inside)

-- the numbers at two places that follow each other
abbrev pub RisesAt : List FileEntry → ℕ → ℕ → Type 0
RisesAt files m n = get_or (map table_place (map (λ f. f.name) files)) m 0 < get_or (map table_place (map (λ f. f.name) files)) n 0

-- places that rise, one more
pub rise_more : (files : List FileEntry) (i : ℕ) (d e : FileEntry) (before here : ℕ) → before ≡ table_place (get_or files (i - 1) d).name → here ≡ table_place (get_or files i e).name
    → 1 ≤ i → i < length files → before < here → (k : ℕ) → k + 1 ≡ i → RisesAt files k (k + 1)
rise_more files i d e before here p q some inside rises k same =
    let at : RisesAt files (i - 1) i = omega (arith, place_of files (i - 1) d (omega arith), place_of files i e inside, rises, p, q) in
    let last : i - 1 ≡ k = omega arith in
    let next : i ≡ k + 1 = sym same in
    subst (λ (n : ℕ). RisesAt files k n) next (subst (λ (m : ℕ). RisesAt files m i) last at)
