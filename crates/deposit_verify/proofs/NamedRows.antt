-- The rows under the entry of a name, looked for from the first entry on.
use Rattle.std.proofs.Common.{add-one, ◌≡◌, ◌<◌, ◌≤◌, ◌+◌, ◌==◌, ◌∷◌, ◌∙◌, [], ℕ, List, ap, cond, drop, get_or, length, refl, sym}
use Rattle.std.proofs.lemmas.Bool.Decides.{Decides-eqb}
use Rattle.std.proofs.lemmas.List.{drop_all}
use Rattle.std.proofs.Math.Seq.{drop-cons}
use Rattle.deposit_name.specs.declared.table.TableName.{TableName}
use Rattle.dnrd_csv.specs.Text.{key_rows}
use Rattle.envelope.specs.declared.envelope.FileEntry.{FileEntry}
use Rattle.deposit_verify.specs.Places.{table_place}
use Rattle.deposit_verify.specs.References.{column}
use Rattle.deposit_verify.specs.Rows.{rows_under}
use Rattle.deposit_verify.proofs.KeyCounts.{false_from}

-- the entry at a place is that of the name, or the rows are looked for behind it
abbrev at_place : List FileEntry → List (List (List (List ℕ))) → TableName → ℕ → FileEntry → List (List (List ℕ))
at_place entries tables name i d =
    cond (table_place (get_or entries i d).name == table_place name) (get_or tables i []) (rows_under (drop (i + 1) entries) (drop (i + 1) tables) name)

from_place : (entries : List FileEntry) (tables : List (List (List (List ℕ)))) (name : TableName) (i : ℕ) (d : FileEntry) → i < length entries → i < length tables
    → rows_under (drop i entries) (drop i tables) name ≡ at_place entries tables name i d
from_place entries tables name i d inside within = rw (add-one, drop-cons entries i d inside, drop-cons tables i [] within) refl

pub found_under : (entries : List FileEntry) (tables : List (List (List (List ℕ)))) (name : TableName) (i : ℕ) (d : FileEntry) → i < length entries → i < length tables
    → rows_under (drop i entries) (drop i tables) name ≡ rows_under entries tables name → table_place (get_or entries i d).name ≡ table_place name → get_or tables i [] ≡ rows_under entries tables name
found_under entries tables name i d inside within before same =
    ap (λ b. cond b (get_or tables i []) (rows_under (drop (i + 1) entries) (drop (i + 1) tables) name)) (sym ((Decides-eqb _ _).1 same))
    ∙ sym (from_place entries tables name i d inside within) ∙ before

pub not_under : (entries : List FileEntry) (tables : List (List (List (List ℕ)))) (name : TableName) (i : ℕ) (d : FileEntry) → i < length entries → i < length tables
    → rows_under (drop i entries) (drop i tables) name ≡ rows_under entries tables name → (table_place (get_or entries i d).name ≡ table_place name → ⊥)
    → rows_under (drop (i + 1) entries) (drop (i + 1) tables) name ≡ rows_under entries tables name
not_under entries tables name i d inside within before other =
    ap (λ b. cond b (get_or tables i []) (rows_under (drop (i + 1) entries) (drop (i + 1) tables) name)) (sym (false_from _ (Decides-eqb _ _) other))
    ∙ sym (from_place entries tables name i d inside within) ∙ before

pub none_under : (entries : List FileEntry) (tables : List (List (List (List ℕ)))) (name : TableName) (i : ℕ) → length entries ≤ i
    → rows_under (drop i entries) (drop i tables) name ≡ rows_under entries tables name → [] ≡ column 0 (rows_under entries tables name)
none_under entries tables name i past before =
    ap (λ (es : List FileEntry). column 0 (rows_under es (drop i tables) name)) (sym (drop_all i entries past)) ∙ ap (column 0) before

pub column-key_rows : (keys : List (List ℕ)) → column 0 (key_rows keys) ≡ keys
column-key_rows [] = refl
column-key_rows (key ∷ keys) = ap (λ (ks : List (List ℕ)). key ∷ ks) (column-key_rows keys)
