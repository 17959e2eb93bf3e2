-- What was read of files is what the functions give, and the keys among it are those that the deposit names.
use Rattle.std.proofs.Common.{◌≡◌, ◌≢◌, ◌<◌, ◌==◌, ◌↔◌, ◌∷◌, ◌∙◌, [], ℕ, suc, All, AllPairs, Bool, true, false, IsTrue, List, Option, Some, Contains, ap, arith, cond, get_or, inl, inr, length, map, option_and_then, option_map, refl, subst, sym, take}
use Rattle.std.specs.List.{AllByRecursion}
use Rattle.std.proofs.lemmas.Bool.Decides.{Decides-eqb}
use Rattle.std.proofs.lemmas.List.{get_or-map, get_or_default, length-map}
use Rattle.std.proofs.lemmas.List.Kept.{AllPairs-from_increasing}
use Rattle.std.proofs.lemmas.Option.{same_Some}
use Rattle.deposit_name.specs.Tables.{has_deletes}
use Rattle.deposit_name.specs.declared.kinds.Kind.{Kind}
use Rattle.deposit_name.specs.declared.kinds.Kind.TheVariants.{Full}
use Rattle.deposit_name.specs.declared.table.TableName.{TableName}
use Rattle.deposit_name.specs.declared.table.TableName.TheVariants.{Domain}
use Rattle.dnrd_csv.specs.Readers.{IsTableReader}
use Rattle.dnrd_csv.specs.Table.{IsTable, columns_of, key_columns_of}
use Rattle.dnrd_csv.specs.Text.{key_rows}
use Rattle.dnrd_csv.specs.declared.form.Form.{Form}
use Rattle.envelope.specs.Envelope.{Env}
use Rattle.envelope.specs.declared.envelope.FileEntry.{FileEntry}
use Rattle.deposit_verify.specs.Checks.{HasContents, HasMenu, StandInOrder}
use Rattle.deposit_verify.specs.Deposit.{AreFiles, contents_files, deletes_files, deletes_of, all_entries}
use Rattle.deposit_verify.specs.Keys.{AnyZip, HasKey}
use Rattle.deposit_verify.specs.Places.{all_tables, table_place}
use Rattle.deposit_verify.specs.References.{column}
use Rattle.deposit_verify.specs.Rows.{rows_under}
use Rattle.deposit_verify.specs.Tables.{AreCountable, AreKeysReadAs, AreReadAs, AreReadFrom}
use Rattle.deposit_verify.specs.Verdict.{deleted_keys_at, rows_of_each, key_rows_at, rows_at, tables_at}
use Rattle.deposit_verify.proofs.Columns.{get_or-column, length-column}
use Rattle.deposit_verify.proofs.FilesDecided.{each_nothing, each_parts}
use Rattle.deposit_verify.proofs.HeaderDecided.{order_decides, same_place}
use Rattle.deposit_verify.proofs.Judged.{files_parted}
use Rattle.deposit_verify.proofs.KeyCounts.{false_from}
use Rattle.deposit_verify.proofs.Lists.{no_entry}

abbrev Rows : Type 0
Rows = List (List (List ℕ))

-- ---- the functions

each_are : (read : FileEntry → List ℕ → Option Rows) (entries : List FileEntry) (files : List (List ℕ)) (tables : List Rows) → length tables ≡ length entries → length files ≡ length entries
    → ((i : ℕ) (e : FileEntry) → i < length entries → read (get_or entries i e) (get_or files i []) ≡ Some (get_or tables i [])) → rows_of_each read entries files ≡ Some tables
each_are read [] [] [] n m each = refl
each_are read (e ∷ es) (f ∷ fs) (t ∷ ts) n m each =
    ap (λ (o : Option Rows). option_and_then (λ (rows : Rows). option_map (λ (others : List Rows). rows ∷ others) (rows_of_each read es fs)) o) (each 0 e (omega arith))
    ∙ ap (option_map (λ (others : List Rows). t ∷ others)) (each_are read es fs ts (omega arith) (omega arith) (λ i d inside. each (suc i) d (omega arith)))
each_are read _ _ _ n m each = absurd (omega arith)

pub tables_are : IsTableReader → (v : Env) (rest : List ℕ) (files : List (List ℕ)) (tables : List Rows) → AreFiles (all_entries v) rest files → AreReadAs v.contents (contents_files v files) tables
    → tables_at v.contents (contents_files v files) ≡ Some tables
tables_are reader v rest files tables are read =
    each_are rows_at v.contents (contents_files v files) tables read.count (files_parted v rest files are).1
    (λ i e inside. (reader.some _ _ _ _).1 (read.each i e inside))

pub deleted_are : IsTableReader → (v : Env) (rest : List ℕ) (files : List (List ℕ)) (deleted : List (List (List ℕ))) → AreFiles (all_entries v) rest files → AreKeysReadAs (deletes_of v) (deletes_files v files) deleted
    → deleted_keys_at (deletes_of v) (deletes_files v files) ≡ Some (map key_rows deleted)
deleted_are reader v rest files deleted are read =
    each_are key_rows_at (deletes_of v) (deletes_files v files) (map key_rows deleted) (length-map deleted key_rows ∙ read.count) (files_parted v rest files are).2
    (λ i e inside. (reader.some _ _ _ _).1 (read.each i e inside) ∙ ap Some (sym (get_or-map key_rows deleted i [] [] (omega (arith, inside, read.count)))))

-- ---- entries whose names are apart

abbrev pub AreApart : List FileEntry → Type 0
AreApart [] = Unit {0}
AreApart (e ∷ es) = AllByRecursion (λ (f : FileEntry). table_place e.name < table_place f.name) es × AreApart es

abbrev places : List FileEntry → List ℕ
places es = map table_place (map (λ f. f.name) es)

later : (n : ℕ) (es : List FileEntry) → ((i : ℕ) → i < length (places es) → n < get_or (places es) i 0) → AllByRecursion (λ (f : FileEntry). n < table_place f.name) es
later n [] all = tt
later n (e ∷ es) all = (all 0 (omega arith), later n es (λ i inside. all (suc i) (omega arith)))

apart_from : (es : List FileEntry) → AllPairs (λ x y. x < y) (places es) → AreApart es
apart_from [] all = tt
apart_from (e ∷ es) all = (
  later (table_place e.name) es (λ i inside. all 0 (suc i) 0 (omega arith) (omega arith)),
  apart_from es (λ i j d below inside. all (suc i) (suc j) d (omega arith) (omega arith)),
)

pub apart_in_order : (es : List FileEntry) → StandInOrder (map (λ f. f.name) es) → AreApart es
apart_in_order es order = apart_from es (AllPairs-from_increasing (places es) order)

pub apart_contents : (v : Env) → HasMenu v → AreApart v.contents
apart_contents v menu = by v.kind menu.contents
  where
    by : (k : Kind) → HasContents k (map (λ (f : FileEntry). f.name) v.contents) → AreApart v.contents
    by Full same = apart_in_order v.contents (subst StandInOrder (sym same) ((order_decides all_tables).0 refl))
    by _ order = apart_in_order v.contents order

-- ---- the keys under a name

module _ (read : FileEntry → List ℕ → Option Rows) (Reads : TableName → List ℕ → Rows → Type 0) (law : (e : FileEntry) (f : List ℕ) (rows : Rows) → (read e f ≡ Some rows) ↔ Reads e.name f rows) (name : TableName) (key : List ℕ) where
  later_place : (n : ℕ) (es : List FileEntry) (fs : List (List ℕ)) → AllByRecursion (λ (f : FileEntry). n < table_place f.name) es → AnyZip (HasKey Reads name key) es fs → n < table_place name
  later_place n (e ∷ es) (f ∷ fs) all (inl here) = subst (λ (m : TableName). n < table_place m) here.0 all.0
  later_place n (e ∷ es) (f ∷ fs) all (inr there) = later_place n es fs all.1 there
  later_place n _ _ all any = absurd any

  pub key_there : (es : List FileEntry) (fs : List (List ℕ)) (ts : List Rows) → AreApart es → rows_of_each read es fs ≡ Some ts → AnyZip (HasKey Reads name key) es fs → Contains (column 0 (rows_under es ts name)) key
  key_there [] fs ts apart whole any = absurd any
  key_there (e ∷ es) [] ts apart whole any = absurd any
  key_there (e ∷ es) (f ∷ fs) [] apart whole any = absurd (each_nothing read e es f fs whole)
  key_there (e ∷ es) (f ∷ fs) (t ∷ ts) apart whole (inl here) =
      let parts = each_parts read e es f fs t ts whole in
      let same : here.1 ≡ t = same_Some _ _ (sym ((law e f here.1).1 here.2) ∙ parts.0) in
      let chosen : rows_under (e ∷ es) (t ∷ ts) name ≡ t = ap (λ (b : Bool). cond b t (rows_under es ts name)) ((Decides-eqb (table_place e.name) (table_place name)).1 (ap table_place here.0)) in
      subst (λ (rows : Rows). Contains (column 0 rows) key) (same ∙ sym chosen) here.3
  key_there (e ∷ es) (f ∷ fs) (t ∷ ts) apart whole (inr there) =
      let parts = each_parts read e es f fs t ts whole in
      let above = later_place (table_place e.name) es fs apart.0 there in
      let other : (table_place e.name == table_place name) ≡ false = false_from _ (Decides-eqb (table_place e.name) (table_place name)) (λ same. absurd (omega (arith, same, above))) in
      let chosen : rows_under (e ∷ es) (t ∷ ts) name ≡ rows_under es ts name = ap (λ (b : Bool). cond b t (rows_under es ts name)) other in
      subst (λ (rows : Rows). Contains (column 0 rows) key) (sym chosen) (key_there es fs ts apart.1 parts.1 there)

  nothing : Contains {X = List ℕ} [] key → ⊥
  nothing has = absurd (omega (arith, has.1))

  pub key_back : (es : List FileEntry) (fs : List (List ℕ)) (ts : List Rows) → rows_of_each read es fs ≡ Some ts → Contains (column 0 (rows_under es ts name)) key → AnyZip (HasKey Reads name key) es fs
  key_back [] fs ts whole has = absurd (nothing has)
  key_back (e ∷ es) [] ts whole has = cc whole
  key_back (e ∷ es) (f ∷ fs) [] whole has = absurd (nothing has)
  key_back (e ∷ es) (f ∷ fs) (t ∷ ts) whole has = by (table_place e.name == table_place name) refl has (key_back es fs ts parts.1)
    where
      parts : (read e f ≡ Some t) × (rows_of_each read es fs ≡ Some ts)
      parts = each_parts read e es f fs t ts whole

      by : (b : Bool) → (table_place e.name == table_place name) ≡ b → Contains (column 0 (cond b t (rows_under es ts name))) key
          → (Contains (column 0 (rows_under es ts name)) key → AnyZip (HasKey Reads name key) es fs) → AnyZip (HasKey Reads name key) (e ∷ es) (f ∷ fs)
      by true same has more = inl (same_place e.name name ((Decides-eqb (table_place e.name) (table_place name)).0 same), t, (law e f t).0 parts.0, has)
      by false same has more = inr (more has)

-- ---- the keys of a table, each once

take_one : (row : List (List ℕ)) → 0 < length row → take 1 row ≡ get_or row 0 [] ∷ []
take_one [] some = absurd (omega arith)
take_one (x ∷ xs) some = refl

column_once : (columns : List Form) (file : List ℕ) (rows : Rows) → 0 < length columns → IsTable columns 1 file rows → AllPairs (λ one other. one ≢ other) (column 0 rows)
column_once columns file rows some table = λ i j d below inside same.
    let size = length-column 0 rows in
    let far : j < length rows = omega (arith, inside, size) in
    let near : i < length rows = omega (arith, below, far) in
    let at : (k : ℕ) → k < length rows → get_or (map (take 1) rows) k [] ≡ get_or (column 0 rows) k d ∷ [] = λ k within.
    let filled : 0 < length (get_or rows k []) = omega (arith, table.columns_right k [] within, some) in
    get_or-map (take 1) rows k [] [] within ∙ take_one (get_or rows k []) filled ∙ ap (λ (x : List ℕ). x ∷ []) (sym (get_or-column 0 rows k d within)) in
    table.keys_right i j [] below (omega (arith, far, length-map rows (take {A = List ℕ} 1)))
    (at i near ∙ ap (λ (x : List ℕ). x ∷ []) same ∙ sym (at j far))

some_columns : (name : TableName) → 0 < length (columns_of name)
some_columns Domain = omega arith
some_columns _ = omega arith

one_key : (name : TableName) → IsTrue (has_deletes name) → key_columns_of name ≡ 1
one_key Domain h = refl
one_key _ h = cc h

pub under_once : IsTableReader → (name : TableName) → IsTrue (has_deletes name) → (es : List FileEntry) (fs : List (List ℕ)) (ts : List Rows) → tables_at es fs ≡ Some ts → AllPairs (λ one other. one ≢ other) (column 0 (rows_under es ts name))
under_once reader name keyed [] fs ts whole = λ i j d below inside. absurd (omega (arith, inside))
under_once reader name keyed (e ∷ es) fs [] whole = λ i j d below inside. absurd (omega (arith, inside))
under_once reader name keyed (e ∷ es) [] (t ∷ ts) whole = cc whole
under_once reader name keyed (e ∷ es) (f ∷ fs) (t ∷ ts) whole = by (table_place e.name == table_place name) refl (under_once reader name keyed es fs ts parts.1)
  where
    parts : (rows_at e f ≡ Some t) × (tables_at es fs ≡ Some ts)
    parts = each_parts rows_at e es f fs t ts whole

    by : (b : Bool) → (table_place e.name == table_place name) ≡ b → AllPairs (λ one other. one ≢ other) (column 0 (rows_under es ts name)) → AllPairs (λ one other. one ≢ other) (column 0 (cond b t (rows_under es ts name)))
    by true same rest =
        let named : e.name ≡ name = same_place e.name name ((Decides-eqb (table_place e.name) (table_place name)).0 same) in
        let table : IsTable (columns_of e.name) (key_columns_of e.name) f t = (reader.some (columns_of e.name) (key_columns_of e.name) f t).0 parts.0 in
        let keys : key_columns_of e.name ≡ 1 = ap key_columns_of named ∙ one_key name keyed in
        column_once (columns_of e.name) f t (some_columns e.name) (subst (λ (n : ℕ). IsTable (columns_of e.name) n f t) keys table)
    by false same rest = rest

fields_there : (entries : List FileEntry) (files : List (List ℕ)) (tables : List Rows) → AreReadAs entries files tables → All (λ rows. All (λ row. 0 < length row) rows) tables
fields_there entries files tables read = λ k d inside.
    let placed : k < length entries = omega (arith, inside, read.count) in
    let table = read.each k no_entry placed in
    subst (λ (rows : Rows). All (λ row. 0 < length row) rows) (get_or_default tables k [] d inside)
    (λ i row within. omega (arith, table.columns_right i row within, some_columns (get_or entries k no_entry).name))

pub countable : IsTableReader → (v : Env) (rest : List ℕ) (tables : List Rows) (deleted : List (List (List ℕ))) → AreReadFrom v rest tables deleted → AreCountable v tables deleted
countable reader v rest tables deleted from = record {
  tables_count = from.tables_read.count;
  deleted_count = from.deleted_read.count;
  fields = fields_there v.contents (contents_files v from.files) tables from.tables_read;
  once = λ name keyed. under_once reader name keyed v.contents (contents_files v from.files) tables (tables_are reader v rest from.files tables from.are from.tables_read);
}
