-- What is packed passes each check.
use Rattle.std.specs.Prelude.{IfSome}
use Rattle.std.proofs.Common.{◌≡◌, ◌≢◌, ◌<◌, ◌==◌, ◌↔◌, ◌∷◌, ◌∙◌, [], ℕ, zero, suc, All, List, Option, Some, None, ap, arith, cond, false, get_or, length, map, option_and_then, option_map, refl, subst, sym}
use Rattle.std.specs.List.{AllByRecursion, AllZip}
use Rattle.std.specs.Set.{distinct_count}
use Rattle.std.specs.Str.{bytes_eq}
use Rattle.std.proofs.lemmas.Bool.Decides.{Decides-eqb}
use Rattle.std.proofs.lemmas.List.Elements.{All-head, All-tail}
use Rattle.desk.specs.declared.checks.Check.{Check}
use Rattle.desk.specs.declared.checks.Check.TheVariants as check
use Rattle.deposit_name.specs.declared.kinds.Kind.{Kind}
use Rattle.deposit_name.specs.declared.kinds.Kind.TheVariants.{Full}
use Rattle.deposit_name.specs.declared.table.TableName.{TableName}
use Rattle.deposit_name.specs.declared.table.TableName.TheVariants.{Domain, Host, Contact, Registrar}
use Rattle.dnrd_csv.specs.Readers.{IsTableReader}
use Rattle.dnrd_csv.specs.Table.{columns_of, key_columns_of}
use Rattle.envelope.specs.Envelope.{Env, env_text}
use Rattle.envelope.specs.declared.envelope.FileEntry.{FileEntry}
use Rattle.deposit_verify.specs.Checks.{AgreesWithName, AreChainCounts, AreKeyCounts, AreRowCounts, CheckSays, HasContents, HasMenu, HasTables, PassesCheck, StandInOrder, counted_tables, counted_uris}
use Rattle.deposit_verify.specs.Deposit.{AreTables, HasDeletes, HasFiles, IsKeyFile, IsTableFile, IsTableOf, contents_files, deletes_files, deletes_of}
use Rattle.deposit_verify.specs.Keys.{IsKeyAfter, IsNumberOf, keys_in}
use Rattle.deposit_verify.specs.Known.{Known}
use Rattle.deposit_verify.specs.Places.{table_place}
use Rattle.deposit_verify.specs.References.{AreReferencesKept}
use Rattle.deposit_verify.specs.Rows.{rows_under}
use Rattle.deposit_verify.specs.Verdict.{deleted_keys_at, key_numbers, key_rows_at, keys_after_files, rows_at, rows_of_each, tables_at, verdict}
use Rattle.deposit_verify.specs.declared.base.Base.{Base}
use Rattle.deposit_verify.specs.declared.verdict.Verdict.TheVariants.{Pass}
use Rattle.deposit_verify.proofs.CountsDecided.{after_is}
use Rattle.deposit_verify.proofs.HeaderDecided.{order_decides}
use Rattle.deposit_verify.proofs.KeyCounts.{false_from, number_decides}
use Rattle.deposit_verify.proofs.Readings.{AreApart, apart_contents}
use Rattle.deposit_pack.specs.Packable.{AreKeyRows, AreTableRows, IsKnownFor, IsPackable, MayDelete}
use Rattle.deposit_pack.specs.Packing.{NamedRows, Objects, contents_rows, counts_with, packed_entry, env_counting, file_of, files_text_of, table_names, numbers_of, packed, packed_env, rows_of}
use Rattle.deposit_pack.specs.declared.source.Attributes.{Attributes}
use Rattle.deposit_pack.proofs.PackedFiles.{are_packed_files, contents_files_are, deletes_are, deletes_files_are, names_kept, packed_files, packed_framed, packed_is_deposit, zip_entries}
use Rattle.deposit_pack.proofs.PackedForm.{numbers_four}

abbrev Rows : Type 0
Rows = List (List (List ℕ))

-- ---- the counts

-- as many numbers as are counted, each under its URI
counted_as : (numbers : List ℕ) → length numbers ≡ 4 → map (λ c. c.uri) (counts_with counted_uris numbers) ≡ counted_uris
counted_as (p ∷ q ∷ r ∷ s ∷ []) four = refl
counted_as _ four = absurd (omega arith)

numbers_kept : (numbers : List ℕ) → length numbers ≡ 4 → map (λ c. c.count) (counts_with counted_uris numbers) ≡ numbers
numbers_kept (p ∷ q ∷ r ∷ s ∷ []) four = refl
numbers_kept _ four = absurd (omega arith)

-- what holds of the number of each counted table
zip_counts : (P : TableName → ℕ → Type 0) (number : TableName → ℕ) (numbers : List ℕ) → numbers ≡ map number counted_tables → ((name : TableName) → P name (number name))
    → AllZip (λ count name. P name count.count) (counts_with counted_uris numbers) counted_tables
zip_counts P number numbers are each =
    subst (λ (ns : List ℕ). AllZip (λ count name. P name count.count) (counts_with counted_uris ns) counted_tables) (sym are)
    (each Contact, (each Domain, (each Host, (each Registrar, tt))))

-- the numbers of a deposit that is not full
partial_numbers : (kind : Kind) (a : Attributes) (o : Objects) (before : Base) → kind ≢ Full
    → numbers_of kind a o before ≡ key_numbers (env_counting a o []) before (rows_of o.contents) (rows_of o.deletes)
partial_numbers Full a o before partial = absurd (partial refl)
partial_numbers _ a o before partial = refl

-- ---- the files as they are read

each_read : (read : FileEntry → List ℕ → Option Rows) (fs : List NamedRows) → All (λ f. read (packed_entry f) (file_of f) ≡ Some f.rows) fs
    → rows_of_each read (map packed_entry fs) (map file_of fs) ≡ Some (rows_of fs)
each_read read [] all = refl
each_read read (f ∷ fs) all =
    let IsRead : NamedRows → Type 0 = λ f. read (packed_entry f) (file_of f) ≡ Some f.rows in
    ap (λ (found : Option Rows). option_and_then (λ (rows : Rows). option_map (λ (others : List Rows). rows ∷ others) (rows_of_each read (map packed_entry fs) (map file_of fs))) found) (All-head IsRead f fs all)
    ∙ ap (option_map (λ (others : List Rows). f.rows ∷ others)) (each_read read fs (All-tail IsRead f fs all))

module _ (reader : IsTableReader) where
  tables_read : (fs : List NamedRows) → All AreTableRows fs → tables_at (map packed_entry fs) (map file_of fs) ≡ Some (rows_of fs)
  tables_read fs all = each_read rows_at fs (λ k d inside. let f : NamedRows = get_or fs k d in (reader.some (columns_of f.name) (key_columns_of f.name) (file_of f) f.rows).1 (all k d inside))

  keys_read : (fs : List NamedRows) → All AreKeyRows fs → deleted_keys_at (map packed_entry fs) (map file_of fs) ≡ Some (rows_of fs)
  keys_read fs all = each_read key_rows_at fs (λ k d inside. let f : NamedRows = get_or fs k d in (reader.some _ 1 (file_of f) f.rows).1 (all k d inside))

-- ---- the rows under the names of tables

-- a file behind others has a later place
later_of : (n : ℕ) (fs : List NamedRows) (k : ℕ) (d : NamedRows) → AllByRecursion (λ (e : FileEntry). n < table_place e.name) (map packed_entry fs) → k < length fs → n < table_place (get_or fs k d).name
later_of n [] k d all inside = absurd (omega arith)
later_of n (f ∷ fs) zero d all inside = all.0
later_of n (f ∷ fs) (suc k) d all inside = later_of n fs k d all.1 (omega arith)

-- the rows of each file are those under its name
rows_found : (fs : List NamedRows) → AreApart (map packed_entry fs) → (k : ℕ) (d : NamedRows) → k < length fs → rows_under (map packed_entry fs) (rows_of fs) (get_or fs k d).name ≡ (get_or fs k d).rows
rows_found [] apart k d inside = absurd (omega arith)
rows_found (f ∷ fs) apart zero d inside =
    ap (λ b. cond b f.rows (rows_under (map packed_entry fs) (rows_of fs) f.name)) ((Decides-eqb (table_place f.name) (table_place f.name)).1 refl)
rows_found (f ∷ fs) apart (suc k) d inside =
    let name : TableName = (get_or fs k d).name in
    let above : table_place f.name < table_place name = later_of (table_place f.name) fs k d apart.0 (omega arith) in
    let other : (table_place f.name == table_place name) ≡ false = false_from _ (Decides-eqb (table_place f.name) (table_place name)) (λ same. absurd (omega (arith, same, above))) in
    ap (λ b. cond b f.rows (rows_under (map packed_entry fs) (rows_of fs) name)) other ∙ rows_found fs apart.1 k d (omega arith)

-- ---- the checks

deletes_in_order : (kind : Kind) (names : List TableName) → MayDelete kind names → StandInOrder names
deletes_in_order Full names none = subst StandInOrder (sym none) ((order_decides []).0 refl)
deletes_in_order _ names may = may.0

module _ (reader : IsTableReader) (a : Attributes) (o : Objects) (before : Base) (packable : IsPackable a o before) where
  -- its envelope
  abbrev v : Env
  v = packed_env a o before

  -- the menu and the files
  packed_menu : HasMenu v
  packed_menu = record {
    objects = refl;
    counted = counted_as (numbers_of a.name.kind a o before) (numbers_four a.name.kind a o before);
    contents = subst (HasContents a.name.kind) (sym (names_kept o.contents)) packable.contents;
    deletes =
        subst StandInOrder (sym (ap (map (λ (e : FileEntry). e.name)) (deletes_are a o before packable) ∙ names_kept o.deletes))
        (deletes_in_order a.name.kind (table_names o.deletes) packable.deletes);
  }

  has_files : (P : List (List ℕ) → Type 0) → P (packed_files o) → HasFiles v (files_text_of o) P
  has_files P holds = (packed_files o, are_packed_files a o before packable, holds)

  tables_are : AllZip IsTableFile v.contents (contents_files v (packed_files o))
  tables_are =
      subst (AllZip IsTableFile (map packed_entry o.contents)) (sym (contents_files_are a o before packable))
      (zip_entries IsTableFile o.contents (λ k d inside. ((get_or o.contents k d).rows, packable.tables k d inside)))

  are_tables : AreTables v.contents (contents_files v (packed_files o)) (contents_rows o)
  are_tables =
      subst (AllZip (λ (e : FileEntry) file. IsTableOf e.name file (contents_rows o e.name)) (map packed_entry o.contents)) (sym (contents_files_are a o before packable))
      (zip_entries (λ e file. IsTableOf e.name file (contents_rows o e.name)) o.contents (λ k d inside.
      let f : NamedRows = get_or o.contents k d in
      subst (λ (rows : Rows). IsTableOf f.name (file_of f) rows) (sym (rows_found o.contents (apart_contents v packed_menu) k d inside)) (packable.tables k d inside)))

  has_deletes : HasDeletes v (files_text_of o)
  has_deletes =
      has_files (λ files. AllZip IsKeyFile (deletes_of v) (deletes_files v files))
      (subst (λ (es : List FileEntry). AllZip IsKeyFile es (deletes_files v (packed_files o))) (sym (deletes_are a o before packable))
      (subst (AllZip IsKeyFile (map packed_entry o.deletes)) (sym (deletes_files_are a o before packable))
      (zip_entries IsKeyFile o.deletes (λ k d inside. ((get_or o.deletes k d).rows, packable.keys k d inside)))))

  has_tables : (P : (TableName → Rows) → Type 0) → P (contents_rows o) → HasTables v (files_text_of o) P
  has_tables P holds = has_files (λ files. (tables : TableName → Rows) × AreTables v.contents (contents_files v files) tables × P tables) (contents_rows o, are_tables, holds)

  -- a full deposit counts its rows
  row_counts : a.name.kind ≡ Full → AreRowCounts v.count (contents_rows o)
  row_counts full = numbers_kept (numbers_of a.name.kind a o before) (numbers_four a.name.kind a o before) ∙ ap (λ (kind : Kind). numbers_of kind a o before) full

  -- and any other its keys
  contents_read : tables_at v.contents (contents_files v (packed_files o)) ≡ Some (rows_of o.contents)
  contents_read = ap (tables_at (map packed_entry o.contents)) (contents_files_are a o before packable) ∙ tables_read reader o.contents packable.tables

  deletes_read : deleted_keys_at (deletes_of v) (deletes_files v (packed_files o)) ≡ Some (rows_of o.deletes)
  deletes_read =
      ap (λ (es : List FileEntry). deleted_keys_at es (deletes_files v (packed_files o))) (deletes_are a o before packable)
      ∙ ap (deleted_keys_at (map packed_entry o.deletes)) (deletes_files_are a o before packable) ∙ keys_read reader o.deletes packable.keys

  key_number : (name : TableName)
      → IsNumberOf (IsKeyAfter v (files_text_of o) (keys_in before name) name) (distinct_count bytes_eq (keys_after_files v (keys_in before name) (rows_of o.contents) (rows_of o.deletes) name))
  key_number name =
      let keys : List (List ℕ) = keys_after_files v (keys_in before name) (rows_of o.contents) (rows_of o.deletes) name in
      (number_decides (IsKeyAfter v (files_text_of o) (keys_in before name) name) keys (distinct_count bytes_eq keys)
      (after_is reader v (files_text_of o) (packed_files o) packed_menu (are_packed_files a o before packable) (rows_of o.contents) (rows_of o.deletes) contents_read deletes_read (keys_in before name) name)).0
      ((Decides-eqb (distinct_count bytes_eq keys) (distinct_count bytes_eq keys)).1 refl)

  key_counts : a.name.kind ≢ Full → AreKeyCounts v (files_text_of o) before
  key_counts partial =
      zip_counts (λ name number. IsNumberOf (IsKeyAfter v (files_text_of o) (keys_in before name) name) number)
      (λ name. distinct_count bytes_eq (keys_after_files v (keys_in before name) (rows_of o.contents) (rows_of o.deletes) name))
      (numbers_of a.name.kind a o before) (partial_numbers a.name.kind a o before partial) key_number

  -- each check, and so the verdict
  module _ (known : Known) (is : IsKnownFor a before known) where
    chain_counts : a.name.kind ≢ Full → AreChainCounts v (files_text_of o) known
    chain_counts partial = by known.base (is.base partial)
      where
        by : (base : Option Base) → IfSome base (λ b. b ≡ before) → IfSome base (λ b. HasDeletes v (files_text_of o) → AreKeyCounts v (files_text_of o) b)
        by None same = tt
        by (Some base) same = λ has. subst (AreKeyCounts v (files_text_of o)) (sym same) (key_counts partial)

    check_says : (c : Check) → CheckSays v (files_text_of o) known c
    check_says check.Frame = tt
    check_says check.Envelope = tt
    check_says check.Name = subst (AgreesWithName v) (sym is.name) (record { kind = refl; tld = refl; day = refl; resend = refl })
    check_says check.Statement = sym is.id
    check_says check.Weekday = packable.weekday
    check_says check.PrevId = is.follows
    check_says check.IdTaken = is.free
    check_says check.Menu = packed_menu
    check_says check.Files = has_files (λ files. Unit {0}) tt
    check_says check.Table = has_files (λ files. AllZip IsTableFile v.contents (contents_files v files)) tables_are
    check_says check.Counts = (λ full. has_tables (AreRowCounts v.count) (row_counts full), chain_counts)
    check_says check.References = λ full. has_tables AreReferencesKept (packable.references full)
    check_says check.Deletes = has_deletes

    pub passes_check : (c : Check) → PassesCheck (packed a o before) known c
    passes_check check.Frame = (env_text v, files_text_of o, packed_framed a o before packable)
    passes_check c = (v, files_text_of o, packed_is_deposit a o before packable, check_says c)

    pub passes : ((joined : List ℕ) (k : Known) → (verdict joined k ≡ Pass) ↔ ((c : Check) → PassesCheck joined k c)) → verdict (packed a o before) known ≡ Pass
    passes law = (law (packed a o before) known).1 passes_check
