-- The tables of objects that were read, as those of an envelope.
use Rattle.std.proofs.Common.{◌≡◌, ◌≢◌, ◌<◌, ◌==◌, ◌∷◌, ◌∙◌, [], ℕ, zero, suc, All, AllPairs, Bool, true, false, IsTrue, List, ap, arith, cond, get_or, length, map, refl, subst, sym, take}
use Rattle.std.specs.Prelude.{unwrap_or}
use Rattle.std.proofs.lemmas.Bool.Decides.{Decides-eqb}
use Rattle.std.proofs.lemmas.List.{get_or-map, length-map}
use Rattle.std.proofs.lemmas.List.Elements.{All-head, All-tail}
use Rattle.deposit_name.specs.Tables.{has_deletes}
use Rattle.deposit_name.specs.declared.kinds.Kind.{Kind}
use Rattle.deposit_name.specs.declared.kinds.Kind.TheVariants.{Full}
use Rattle.deposit_name.specs.declared.table.TableName.{TableName}
use Rattle.deposit_name.specs.declared.table.TableName.TheVariants.{Domain}
use Rattle.dnrd_csv.specs.Table.{HaveWidth, IsTable, columns_of, key_columns_of}
use Rattle.dnrd_csv.specs.Text.{key_rows}
use Rattle.dnrd_csv.specs.declared.form.Form.{Form}
use Rattle.envelope.specs.Envelope.{Env}
use Rattle.envelope.specs.declared.envelope.FileEntry.{FileEntry}
use Rattle.deposit_verify.specs.Checks.{HasContents, HasMenu}
use Rattle.deposit_verify.specs.Deposit.{IsTableOf}
use Rattle.deposit_verify.specs.Places.{all_tables, table_place}
use Rattle.deposit_verify.specs.References.{column}
use Rattle.deposit_verify.specs.Rows.{rows_under}
use Rattle.deposit_verify.specs.Tables.{AreAllTables, AreCountable, table_of}
use Rattle.deposit_verify.specs.TablesReasons.{row_numbers}
use Rattle.deposit_verify.specs.declared.base.Base.{Base}
use Rattle.deposit_verify.specs.declared.files_read.FilesRead.{FilesRead}
use Rattle.deposit_verify.proofs.Columns.{get_or-column, length-column}
use Rattle.deposit_verify.proofs.HeaderDecided.{same_place}
use Rattle.deposit_verify.proofs.Judged.{all_tables_right}
use Rattle.deposit_verify.proofs.KeyCounts.{false_from}
use Rattle.deposit_verify.proofs.Lists.{no_entry}
use Rattle.deposit_verify.proofs.TableLemmas.{listed_at}
use Rattle.deposit_pack.specs.Packable.{AreTableRows}
use Rattle.deposit_pack.specs.Packing.{NamedRows, Objects, contents_rows, deletes_member, packed_entry, env_counting, file_of, table_names, numbers_of, rows_of}
use Rattle.deposit_pack.specs.declared.source.Attributes.{Attributes}
use Rattle.deposit_pack.specs.inside.Steps.{AreRead}

no_rows : NamedRows
no_rows = record { name = Domain; rows = [] }

-- ---- names

pub names_entered : (fs : List NamedRows) → map (λ e. e.name) (map packed_entry fs) ≡ table_names fs
names_entered [] = refl
names_entered (f ∷ fs) = ap (λ (names : List TableName). f.name ∷ names) (names_entered fs)

-- ---- the rows under the first entry of a name

under_at : (es : List FileEntry) (ts : List (List (List (List ℕ)))) (name : TableName) (i : ℕ) (d : FileEntry) → i < length es
    → ((k : ℕ) → k < i → table_place (get_or es k d).name ≢ table_place name) → table_place (get_or es i d).name ≡ table_place name
    → rows_under es ts name ≡ get_or ts i []
under_at [] ts name i d inside before same = absurd (omega (arith, inside))
under_at (e ∷ es) [] name i d inside before same = refl
under_at (e ∷ es) (t ∷ ts) name zero d inside before same = ap (λ (b : Bool). cond b t (rows_under es ts name)) ((Decides-eqb _ _).1 same)
under_at (e ∷ es) (t ∷ ts) name (suc i) d inside before same =
    ap (λ (b : Bool). cond b t (rows_under es ts name)) (false_from _ (Decides-eqb (table_place e.name) (table_place name)) (before 0 (omega arith)))
    ∙ under_at es ts name i d (omega (arith, inside)) (λ k below. before (suc k) (omega (arith, below))) same

-- of all tables, the rows under a name are those at its place
pub under_entries : (es : List FileEntry) (ts : List (List (List (List ℕ)))) → map (λ e. e.name) es ≡ all_tables → (name : TableName) → rows_under es ts name ≡ table_of ts name
under_entries es ts named name =
    let eight : length es ≡ 8 = sym (length-map es (λ (e : FileEntry). e.name)) ∙ ap length named in
    let place = all_tables_right name Domain in
    let at : (k : ℕ) → k < 8 → table_place (get_or es k no_entry).name ≡ k = λ k below. listed_at es k no_entry (omega (arith, eight, below)) below named in
    under_at es ts name (table_place name) no_entry (omega (arith, eight, place.0))
    (λ k below is. omega (arith, below, sym (at k (omega (arith, below, place.0))) ∙ is))
    (at (table_place name) place.0)

pub under_all : (fs : List NamedRows) → table_names fs ≡ all_tables → (name : TableName) → rows_under (map packed_entry fs) (rows_of fs) name ≡ table_of (rows_of fs) name
under_all fs same = under_entries (map packed_entry fs) (rows_of fs) (names_entered fs ∙ same)

-- all eight tables, with their columns
pub all_eight : (fs : List NamedRows) → table_names fs ≡ all_tables → All AreTableRows fs → AreAllTables (rows_of fs)
all_eight fs same right = record {
  eight = length-map fs (λ (f : NamedRows). f.rows) ∙ eight;
  columns_right = λ name.
      let place = all_tables_right name Domain in
      let inside : table_place name < length fs = omega (arith, eight, place.0) in
      let f = get_or fs (table_place name) no_rows in
      let named : f.name ≡ name = sym (get_or-map (λ (f : NamedRows). f.name) fs (table_place name) no_rows Domain inside) ∙ ap (λ (names : List TableName). get_or names (table_place name) Domain) same ∙ place.1 in
      let rows : get_or (rows_of fs) (table_place name) [] ≡ f.rows = get_or-map (λ (f : NamedRows). f.rows) fs (table_place name) no_rows [] inside in
      let wide : HaveWidth (length (columns_of f.name)) f.rows = (right (table_place name) no_rows inside).columns_right in
      subst (HaveWidth (length (columns_of name))) (sym rows) (subst (λ (n : TableName). HaveWidth (length (columns_of n)) f.rows) named wide);
}
  where
    eight : length fs ≡ 8
    eight = sym (length-map fs (λ (f : NamedRows). f.name)) ∙ ap length same

-- ---- tables whose keys can be counted

take_one : (row : List (List ℕ)) → 0 < length row → take 1 row ≡ get_or row 0 [] ∷ []
take_one [] some = absurd (omega arith)
take_one (x ∷ xs) some = refl

column_once : (columns : List Form) (file : List ℕ) (rows : List (List (List ℕ))) → 0 < length columns → IsTable columns 1 file rows → AllPairs (λ one other. one ≢ other) (column 0 rows)
column_once columns file rows some table = λ i j d below inside same.
    let size = length-column 0 rows in
    let far : j < length rows = omega (arith, inside, size) in
    let near : i < length rows = omega (arith, below, far) in
    let at : (k : ℕ) → k < length rows → get_or (map (take 1) rows) k [] ≡ get_or (column 0 rows) k d ∷ [] = λ k within.
    let filled : 0 < length (get_or rows k []) = omega (arith, table.columns_right k [] within, some) in
    get_or-map (take 1) rows k [] [] within ∙ take_one (get_or rows k []) filled ∙ ap (λ (x : List ℕ). x ∷ []) (sym (get_or-column 0 rows k d within)) in
    table.keys_right i j [] below (omega (arith, far, length-map rows (take {A = List ℕ} 1)))
    (at i near ∙ ap (λ (x : List ℕ). x ∷ []) same ∙ sym (at j far))

some_columns : (name : TableName) → 0 < length (columns_of name)
some_columns Domain = omega arith
some_columns _ = omega arith

one_key : (name : TableName) → IsTrue (has_deletes name) → key_columns_of name ≡ 1
one_key Domain keyed = refl
one_key _ keyed = cc

once_under : (name : TableName) → IsTrue (has_deletes name) → (fs : List NamedRows) → All AreTableRows fs → AllPairs (λ one other. one ≢ other) (column 0 (rows_under (map packed_entry fs) (rows_of fs) name))
once_under name keyed [] right = λ i j d below inside. absurd (omega (arith, inside))
once_under name keyed (f ∷ fs) right = by (table_place f.name == table_place name) refl (once_under name keyed fs (All-tail AreTableRows f fs right))
  where
    by : (b : Bool) → (table_place f.name == table_place name) ≡ b → AllPairs (λ one other. one ≢ other) (column 0 (rows_under (map packed_entry fs) (rows_of fs) name))
        → AllPairs (λ one other. one ≢ other) (column 0 (cond b f.rows (rows_under (map packed_entry fs) (rows_of fs) name)))
    by true same rest =
        let named : f.name ≡ name = same_place f.name name ((Decides-eqb (table_place f.name) (table_place name)).0 same) in
        let keys : key_columns_of f.name ≡ 1 = ap key_columns_of named ∙ one_key name keyed in
        column_once (columns_of f.name) (file_of f) f.rows (some_columns f.name) (subst (λ (n : ℕ). IsTable (columns_of f.name) n (file_of f) f.rows) keys (All-head AreTableRows f fs right))
    by false same rest = rest

fields_there : (fs : List NamedRows) → All AreTableRows fs → All (λ rows. All (λ row. 0 < length row) rows) (rows_of fs)
fields_there fs right = λ k d inside.
    let placed : k < length fs = omega (arith, inside, length-map fs (λ (f : NamedRows). f.rows)) in
    let f = get_or fs k no_rows in
    let table : IsTableOf f.name (file_of f) f.rows = right k no_rows placed in
    subst (λ (rows : List (List (List ℕ))). All (λ row. 0 < length row) rows) (sym (get_or-map (λ (f : NamedRows). f.rows) fs k no_rows d placed))
    (λ i row within. omega (arith, table.columns_right i row within, some_columns f.name))

deletes_listed : (kind : Kind) (entries : List FileEntry) → kind ≢ Full → unwrap_or (deletes_member kind entries) [] ≡ entries
deletes_listed Full entries other = absurd (other refl)
deletes_listed _ entries other = refl

-- what was read can be counted
pub countable : (v : Env) (a : Attributes) (o : Objects) (numbers : List ℕ) (files : FilesRead) → v ≡ env_counting a o numbers → a.name.kind ≢ Full → AreRead o files
    → AreCountable v files.tables.items files.deleted.items
countable v a o numbers files is other read = subst (λ (w : Env). AreCountable w files.tables.items files.deleted.items) (sym is) (record {
  tables_count = ap length read.tables ∙ length-map o.contents (λ (f : NamedRows). f.rows) ∙ sym (length-map o.contents packed_entry);
  deleted_count =
      sym (length-map files.deleted.items key_rows) ∙ ap length read.deleted ∙ length-map o.deletes (λ (f : NamedRows). f.rows) ∙ sym (length-map o.deletes packed_entry)
      ∙ ap length (sym (deletes_listed a.name.kind (map packed_entry o.deletes) other));
  fields = subst (λ (tables : List (List (List (List ℕ)))). All (λ rows. All (λ row. 0 < length row) rows) tables) (sym read.tables) (fields_there o.contents read.tables_right);
  once = λ name keyed. subst (λ (tables : List (List (List (List ℕ)))). AllPairs (λ one other. one ≢ other) (column 0 (rows_under (map packed_entry o.contents) tables name))) (sym read.tables) (once_under name keyed o.contents read.tables_right);
})

-- ---- the menu

pub menu_contents : (v : Env) (a : Attributes) (o : Objects) (numbers : List ℕ) → v ≡ env_counting a o numbers → HasMenu v → HasContents a.name.kind (table_names o.contents)
menu_contents v a o numbers is menu = let here : HasMenu (env_counting a o numbers) = subst HasMenu is menu in subst (HasContents a.name.kind) (names_entered o.contents) here.contents

pub all_named : (kind : Kind) (names : List TableName) → kind ≡ Full → HasContents kind names → names ≡ all_tables
all_named kind names full has = subst (λ (k : Kind). HasContents k names) full has

-- the tables of a full deposit
pub full_named : (v : Env) (a : Attributes) (o : Objects) (numbers : List ℕ) → v ≡ env_counting a o numbers → HasMenu v → v.kind ≡ Full → table_names o.contents ≡ all_tables
full_named v a o numbers is menu full = all_named a.name.kind (table_names o.contents) (sym (ap (λ (w : Env). w.kind) is) ∙ full) (menu_contents v a o numbers is menu)

pub all_read : (v : Env) (a : Attributes) (o : Objects) (numbers : List ℕ) (files : FilesRead) → v ≡ env_counting a o numbers → AreRead o files → HasMenu v → v.kind ≡ Full → AreAllTables files.tables.items
all_read v a o numbers files is read menu full = subst AreAllTables (sym read.tables) (all_eight o.contents (full_named v a o numbers is menu full) read.tables_right)

-- of a full deposit, the rows of contents are the tables that were read
pub contents_read : (o : Objects) (files : FilesRead) → AreRead o files → table_names o.contents ≡ all_tables → contents_rows o ≡ table_of files.tables.items
contents_read o files read same = λ i name. (under_all o.contents same name ∙ ap (λ (tables : List (List (List (List ℕ)))). table_of tables name) (sym read.tables)) i

-- ---- the numbers of the rows of a full deposit

pub full_numbers : (a : Attributes) (o : Objects) (before : Base) (files : FilesRead) → AreRead o files → a.name.kind ≡ Full → table_names o.contents ≡ all_tables
    → row_numbers (table_of files.tables.items) ≡ numbers_of a.name.kind a o before
full_numbers a o before files read full same =
    ap row_numbers (sym (contents_read o files read same)) ∙ ap (λ (kind : Kind). numbers_of kind a o before) (sym full)
