-- The counts of a deposit that passes are the numbers of its rows, or of the keys after it.
use Rattle.std.proofs.Common.{◌≡◌, ◌==◌, ◌∷◌, ◌∙◌, [], ℕ, suc, All, Bool, true, false, Contains, List, Option, Some, ap, arith, cond, get_or, map, option_and_then, option_map, refl, subst, sym, take}
use Rattle.std.specs.Cmp.Lexicographic.{pointwise}
use Rattle.std.specs.List.{AllZip}
use Rattle.std.proofs.lemmas.Bool.Decides.{Decides-eqb}
use Rattle.std.proofs.lemmas.List.Elements.{All-cons, All-nil}
use Rattle.std.proofs.lemmas.Map.Made.{Contains-tail}
use Rattle.std.proofs.lemmas.Option.{same_Some}
use Rattle.deposit_name.specs.declared.table.TableName.{TableName}
use Rattle.dnrd_csv.specs.Readers.{IsTableReader}
use Rattle.dnrd_csv.specs.Table.{columns_of, key_columns_of}
use Rattle.dnrd_csv.proofs.Decided.{zip_decides}
use Rattle.envelope.specs.declared.envelope.Count.{Count}
use Rattle.envelope.specs.declared.envelope.FileEntry.{FileEntry}
use Rattle.deposit_verify.specs.Deposit.{AreTables, IsTableOf}
use Rattle.deposit_verify.specs.Places.{all_tables, table_place}
use Rattle.deposit_verify.specs.Rows.{rows_under}
use Rattle.deposit_verify.specs.Verdict.{deleted_keys_at, key_rows_at, rows_at, rows_of_each, tables_at}
use Rattle.deposit_verify.proofs.HeaderDecided.{same_place}
use Rattle.deposit_verify.proofs.Judged.{all_tables_right}
use Rattle.deposit_pack.specs.Packable.{AreKeyRows, AreTableRows}
use Rattle.deposit_pack.specs.Packing.{NamedRows, counts_with, packed_entry, file_of, table_names, rows_of}

abbrev Rows : Type 0
Rows = List (List (List ℕ))

-- ---- counts

-- counts are told by their URIs and their numbers
pub counts_parted : (counts : List Count) → counts ≡ counts_with (map (λ c. c.uri) counts) (map (λ c. c.count) counts)
counts_parted [] = refl
counts_parted (c ∷ cs) = ap (λ (others : List Count). c ∷ others) (counts_parted cs)

-- numbers that agree one by one
counts_same : (numbers : TableName → ℕ) (counts : List Count) (names : List TableName) → AllZip (λ c name. c.count ≡ numbers name) counts names → map (λ c. c.count) counts ≡ map numbers names
counts_same numbers [] [] all = refl
counts_same numbers (c ∷ cs) (name ∷ names) all =
    let first = all.0 in
    let rest = counts_same numbers cs names all.1 in
    λ i. first i ∷ rest i
counts_same numbers _ _ all = absurd all

-- ---- the rows of a full deposit

-- rows under their names are found under them
found_rows : (tables : TableName → Rows) (fs : List NamedRows) → All (λ f. tables f.name ≡ f.rows) fs → (name : TableName) → Contains (table_names fs) name → rows_under (map packed_entry fs) (rows_of fs) name ≡ tables name
found_rows tables [] all name has = absurd (omega (arith, has.1))
found_rows tables (f ∷ fs) all name has =
    by (table_place f.name == table_place name) refl (found_rows tables fs (λ k d inside. all (suc k) d (omega (arith, inside))) name)
  where
    by : (b : Bool) → (table_place f.name == table_place name) ≡ b → (Contains (table_names fs) name → rows_under (map packed_entry fs) (rows_of fs) name ≡ tables name)
        → cond b f.rows (rows_under (map packed_entry fs) (rows_of fs) name) ≡ tables name
    by true same more = sym (all 0 f (omega arith)) ∙ ap tables (same_place f.name name ((Decides-eqb (table_place f.name) (table_place name)).0 same))
    by false other more =
        more (Contains-tail f.name (table_names fs) name (λ same. let clash : true ≡ false = sym ((Decides-eqb (table_place f.name) (table_place name)).1 (ap table_place same)) ∙ other in cc clash) has)

-- each name is one of all
all_there : (name : TableName) → Contains all_tables name
all_there name = let right = all_tables_right name name in (table_place name, right.0, right.1)

module _ (reader : IsTableReader) where
  -- no file is a table of two lists of rows
  one_table : (name : TableName) (file : List ℕ) (xs ys : Rows) → IsTableOf name file xs → IsTableOf name file ys → xs ≡ ys
  one_table name file xs ys p q =
      let at = λ (rows : Rows). reader.some (columns_of name) (key_columns_of name) file rows in
      same_Some xs ys (sym ((at xs).1 p) ∙ (at ys).1 q)

  -- tables under the names of files in form
  same_rows : (tables : TableName → Rows) (fs : List NamedRows) → All AreTableRows fs → AreTables (map packed_entry fs) (map file_of fs) tables → All (λ f. tables f.name ≡ f.rows) fs
  same_rows tables [] right are = All-nil (λ (f : NamedRows). tables f.name ≡ f.rows)
  same_rows tables (f ∷ fs) right are =
      All-cons (λ (f : NamedRows). tables f.name ≡ f.rows) f fs (one_table f.name (file_of f) (tables f.name) f.rows are.0 (right 0 f (omega arith)))
      (same_rows tables fs (λ k d inside. right (suc k) d (omega (arith, inside))) are.1)

  -- tables of all names are those of the rows
  pub same_tables : (tables : TableName → Rows) (fs : List NamedRows) → table_names fs ≡ all_tables → All AreTableRows fs → AreTables (map packed_entry fs) (map file_of fs) tables → tables ≡ rows_under (map packed_entry fs) (rows_of fs)
  same_tables tables fs whole right are =
      λ i name. sym (found_rows tables fs (same_rows tables fs right are) name (subst (λ (names : List TableName). Contains names name) (sym whole) (all_there name))) i

  -- ---- what is read

  -- files that are read one by one
  each_read : (read : FileEntry → List ℕ → Option Rows) (fs : List NamedRows) → All (λ f. read (packed_entry f) (file_of f) ≡ Some f.rows) fs → rows_of_each read (map packed_entry fs) (map file_of fs) ≡ Some (rows_of fs)
  each_read read [] all = refl
  each_read read (f ∷ fs) all =
      ap (option_and_then (λ (rows : Rows). option_map (λ (tables : List Rows). rows ∷ tables) (rows_of_each read (map packed_entry fs) (map file_of fs)))) (all 0 f (omega arith))
      ∙ ap (option_map (λ (tables : List Rows). f.rows ∷ tables)) (each_read read fs (λ k d inside. all (suc k) d (omega (arith, inside))))

  -- the tables of contents, and the deleted keys
  pub tables_read : (fs : List NamedRows) → All AreTableRows fs → tables_at (map packed_entry fs) (map file_of fs) ≡ Some (rows_of fs)
  tables_read fs right =
      each_read rows_at fs (λ k d inside. let f = get_or fs k d in (reader.some (columns_of f.name) (key_columns_of f.name) (file_of f) f.rows).1 (right k d inside))

  pub keys_read : (fs : List NamedRows) → All AreKeyRows fs → deleted_keys_at (map packed_entry fs) (map file_of fs) ≡ Some (rows_of fs)
  keys_read fs right =
      each_read key_rows_at fs (λ k d inside. let f = get_or fs k d in (reader.some (take 1 (columns_of f.name)) 1 (file_of f) f.rows).1 (right k d inside))

-- ---- numbers by their test

-- the test of the counts, passed
pub counts_from_test : (numbers : TableName → ℕ) (counts : List Count) (names : List TableName) → pointwise (λ c name. c.count == numbers name) counts names ≡ true → map (λ c. c.count) counts ≡ map numbers names
counts_from_test numbers counts names test =
    counts_same numbers counts names ((zip_decides (λ c name. c.count == numbers name) (λ c name. c.count ≡ numbers name) (λ c name. Decides-eqb c.count (numbers name)) counts names).0 test)
