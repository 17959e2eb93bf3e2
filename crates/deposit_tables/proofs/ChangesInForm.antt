-- The changes between tables that are in form may stand in files of their tables, and are those since the chains of the earlier ones.
use Rattle.std.proofs.Common.{◌≡◌, ◌⊎◌, ◌<◌, ◌∷◌, ◌∙◌, [], ℕ, Bor, Contains, List, Vec, ap, arith, get_or, inl, inr, length, map, refl, subst, sym, take}
use Rattle.std.specs.List.{AllByRecursion, AllZip}
use Rattle.std.proofs.lemmas.Simd.{map-map}
use Rattle.std.proofs.lemmas.List.{get_or-map, length-map, take_all}
use Rattle.std.proofs.lemmas.List.Elements.{All-contains, All-from_recursion, Contains-get_or}
use Rattle.deposit_name.specs.declared.kinds.Kind.{Kind}
use Rattle.deposit_name.specs.declared.table.TableName.{TableName}
use Rattle.deposit_name.specs.declared.table.TableName.TheVariants.{Domain, DomainContacts, DomainStatuses, DomainNameServers, Host, HostAddresses, Contact, Registrar}
use Rattle.dnrd_csv.specs.Form.{HasForm}
use Rattle.dnrd_csv.specs.Readers.{is_table}
use Rattle.dnrd_csv.specs.Table.{HaveDistinctKeys, columns_of, key_columns_of}
use Rattle.dnrd_csv.specs.Text.{key_rows, table_text}
use Rattle.dnrd_csv.specs.declared.form.Form.{Form}
use Rattle.dnrd_csv.specs.inside.Spellings.{BeginsWithKey}
use Rattle.dnrd_csv.proofs.Decided.{table_decides}
use Rattle.dnrd_csv.proofs.FormTexts.{table_of_forms}
use Rattle.dnrd_csv.proofs.KeyLemmas.{ascend_differ}
use Rattle.deposit_verify.specs.Deposit.{IsKeyFileOf, IsTableOf}
use Rattle.deposit_verify.specs.Tables.{table_of}
use Rattle.deposit_verify.specs.declared.base.Base.{Base}
use Rattle.deposit_pack.specs.Packing.{Objects, objects_in}
use Rattle.deposit_pack.specs.declared.pack_error.PackError.{PackError}
use Rattle.deposit_pack.specs.declared.source.Attributes.{Attributes}
use Rattle.deposit_pack.specs.declared.source.Source.{Source}
use Rattle.deposit_tables.specs.Changes.{AreSomeChanges}
use Rattle.deposit_tables.specs.Owners.{owner_key, owner_table}
use Rattle.deposit_tables.specs.Restored.{AreRestored, AreRows, AreTablesOf, HasRowsOf}
use Rattle.deposit_tables.specs.Unchanged.{IsChangedRow, IsGoneKey, IsUnchanged}
use Rattle.deposit_tables.specs.Whole.{AreChangesSince, IsPackedSince, IsWholeError, chains_before, tables_in}
use Rattle.deposit_tables.specs.declared.whole_error.WholeError.TheVariants.{Pack}
use Rattle.deposit_tables.specs.declared.changes.Changes.{Changes}
use Rattle.deposit_tables.specs.inside.Changing.{AreChangesOf, keys_of_table}
use Rattle.deposit_tables.specs.inside.Packing.{MayBeWritten, ArePackedChanges, IsChangesError}
use Rattle.deposit_tables.proofs.Decisions.{Rows, Tables, decided}
use Rattle.deposit_tables.proofs.RestoredForm.{begins, row_at, tell}

-- each table is in form
abbrev pub InForm : Tables → Type 0
InForm tables = (name : TableName) → IsTableOf name (table_text (tables name)) (tables name)

-- ---- tables after chains

pub old_in_form : AreRestored → (chains : List (List (List ℕ))) (olds : List Tables) → AllZip AreTablesOf chains olds → AllByRecursion InForm olds
old_in_form law [] [] are = tt
old_in_form law [] (old ∷ olds) are = absurd are
old_in_form law (chain ∷ chains) [] are = absurd are
old_in_form law (chain ∷ chains) (old ∷ olds) are = (law.in_form chain old are.0, old_in_form law chains olds are.1)

pub old_rows : (chains : List (List (List ℕ))) (olds : List Tables) → AllZip AreTablesOf chains olds → AllZip HasRowsOf chains olds
old_rows [] [] are = tt
old_rows [] (old ∷ olds) are = absurd are
old_rows (chain ∷ chains) [] are = absurd are
old_rows (chain ∷ chains) (old ∷ olds) are = (λ name row. (are.0.rows name).same row, old_rows chains olds are.1)

-- ---- rows of one key

-- rows whose keys differ have one of each key
same_of_key : (key : ℕ) (rows : Rows) → HaveDistinctKeys key rows → (one other : List (List ℕ)) → Contains rows one → Contains rows other → take key one ≡ take key other → one ≡ other
same_of_key key rows once one other (i, in_i, at_i) (j, in_j, at_j) same = elim (tell i j) [
  | inl below ↦ absurd (once i j [] below (omega (arith, in_j, size)) (key_at i one in_i at_i ∙ same ∙ sym (key_at j other in_j at_j)))
  | inr more ↦ elim more [
    | inl equal ↦ sym (row_at rows i one in_i at_i) ∙ ap (λ (k : ℕ). get_or rows k []) equal ∙ row_at rows j other in_j at_j
    | inr above ↦ absurd (once j i [] above (omega (arith, in_i, size)) (key_at j other in_j at_j ∙ sym same ∙ sym (key_at i one in_i at_i)))
  ]
]
  where
    size : length (map (take key) rows) ≡ length rows
    size = length-map rows (take {A = List ℕ} key)

    key_at : (k : ℕ) (row : List (List ℕ)) → k < length rows → get_or rows k row ≡ row → get_or (map (take key) rows) k [] ≡ take key row
    key_at k row inside is = get_or-map (take key) rows k [] [] inside ∙ ap (take key) (row_at rows k row inside is)

-- rows that ascend have different keys, where rows of one key are one
distinct_if : (key : ℕ) (P : List (List ℕ) → Type 0) (rows : Rows) → AreRows P rows → ((one other : List (List ℕ)) → P one → P other → take key one ≡ take key other → one ≡ other) → HaveDistinctKeys key rows
distinct_if key P rows are one_of i j d below inside same =
    let size = length-map rows (take {A = List ℕ} key) in
    let in_j : j < length rows = omega (arith, inside, size) in
    let in_i : i < length rows = omega (arith, below, in_j) in
    let holds = λ (k : ℕ) (within : k < length rows). (are.same (get_or rows k [])).0 (Contains-get_or rows k [] within) in
    ascend_differ rows are.ascend i j [] below in_j
    (one_of (get_or rows i []) (get_or rows j []) (holds i in_i) (holds j in_j) (sym (get_or-map (take key) rows i [] d in_i) ∙ same ∙ get_or-map (take key) rows j [] d in_j))

-- ---- the rows of contents

pub contents_in_form : (olds : List Tables) (new : Tables) (name : TableName) (rows : Rows) → InForm new → AreRows (IsChangedRow olds new name) rows → IsTableOf name (table_text rows) rows
contents_in_form olds new name rows formed are =
    let there = λ (k : ℕ) (d : List (List ℕ)) (inside : k < length rows). ((are.same (get_or rows k d)).0 (Contains-get_or rows k d inside)).0 in
    let table = formed name in
    table_of_forms (columns_of name) (key_columns_of name) rows (begins name)
    (λ k d inside. All-contains (λ row. length row ≡ length (columns_of name)) (new name) (get_or rows k d) table.columns_right (there k d inside))
    (λ k d inside. All-contains (λ row. AllZip HasForm (columns_of name) row) (new name) (get_or rows k d) table.forms_right (there k d inside))
    (distinct_if (key_columns_of name) (IsChangedRow olds new name) rows are (λ one other has too same. same_of_key (key_columns_of name) (new name) table.keys_right one other has.0 too.0 same))

-- ---- deleted keys

-- a key has the form of the first column
abbrev HasKeyForm : TableName → List ℕ → Type 0
HasKeyForm name key = AllZip HasForm (take 1 (columns_of name)) (key ∷ [])

begins_key : (name : TableName) → BeginsWithKey (take 1 (columns_of name))
begins_key Domain = tt
begins_key DomainContacts = tt
begins_key DomainStatuses = tt
begins_key DomainNameServers = tt
begins_key Host = tt
begins_key HostAddresses = tt
begins_key Contact = tt
begins_key Registrar = tt

one_column : (name : TableName) → length (take 1 (columns_of name)) ≡ 1
one_column Domain = refl
one_column _ = refl

-- the file of the key alone
abbrev IsKeyAlone : TableName → List ℕ → Type 0
IsKeyAlone name key = IsKeyFileOf name (table_text ((key ∷ []) ∷ [])) ((key ∷ []) ∷ [])

key_alone : (name : TableName) (key : List ℕ) → HasKeyForm name key → IsKeyAlone name key
key_alone name key form =
    table_of_forms (take 1 (columns_of name)) 1 ((key ∷ []) ∷ []) (begins_key name)
    (All-from_recursion (λ row. length row ≡ length (take 1 (columns_of name))) ((key ∷ []) ∷ []) (sym (one_column name), tt))
    (All-from_recursion (λ row. AllZip HasForm (take 1 (columns_of name)) row) ((key ∷ []) ∷ []) (form, tt))
    (λ i j d below inside. absurd (omega (arith, below, inside)))

key_form_decided : (name : TableName) (key : List ℕ) → HasKeyForm name key ⊎ ¬ HasKeyForm name key
key_form_decided name key =
    elim (decided (IsKeyAlone name key) (is_table (take 1 (columns_of name)) 1 (table_text ((key ∷ []) ∷ [])) ((key ∷ []) ∷ []))
    (table_decides (take 1 (columns_of name)) 1 (table_text ((key ∷ []) ∷ [])) ((key ∷ []) ∷ []))) [
      | inl table ↦ inl (table.forms_right 0 [] (omega arith))
      | inr none ↦ inr (λ form. none (key_alone name key form))
    ]

first_form : (columns : List Form) (row : List (List ℕ)) → length (take 1 columns) ≡ 1 → AllZip HasForm columns row → AllZip HasForm (take 1 columns) (owner_key row ∷ [])
first_form [] row one forms = absurd (omega (arith, one))
first_form (f ∷ columns) [] one forms = absurd forms
first_form (f ∷ columns) (field ∷ row) one forms = (forms.0, tt)

-- a table's first column is that of its owner's table
own_column : (name : TableName) → take 1 (columns_of name) ≡ take 1 (columns_of (owner_table name))
own_column Domain = refl
own_column _ = refl

-- the key of a row has the form of its owner's key
key_form : (name : TableName) (row : List (List ℕ)) → AllZip HasForm (columns_of name) row → HasKeyForm (owner_table name) (owner_key row)
key_form name row forms = subst (λ (columns : List Form). AllZip HasForm columns (owner_key row ∷ [])) (own_column name) (first_form (columns_of name) row (one_column name) forms)

module _ (owner : TableName) (key : List ℕ) (none : ¬ HasKeyForm owner key) where
  -- no table in form has a row of a key out of form
  no_row : (tables : Tables) → InForm tables → (name : TableName) → owner_table name ≡ owner → (row : List (List ℕ)) → owner_key row ≡ key → Contains (tables name) row → ⊥
  no_row tables formed name owns row same has =
      let forms = All-contains (λ row. AllZip HasForm (columns_of name) row) (tables name) row (formed name).forms_right has in
      none (subst (λ (k : List ℕ). HasKeyForm owner k) same (subst (λ (n : TableName). HasKeyForm n (owner_key row)) owns (key_form name row forms)))

  unchanged_if : (olds : List Tables) (new : Tables) → AllByRecursion InForm olds → InForm new → IsUnchanged olds new owner key
  unchanged_if [] new formed_olds formed = tt
  unchanged_if (old ∷ olds) new formed_olds formed = (
    λ name owns row same. (λ has. absurd (no_row old formed_olds.0 name owns row same has), λ has. absurd (no_row new formed name owns row same has)),
    unchanged_if olds new formed_olds.1 formed,
  )

module _ (olds : List Tables) (new : Tables) (formed_olds : AllByRecursion InForm olds) (formed : InForm new) where
  gone_form : (name : TableName) (row : List (List ℕ)) → IsGoneKey olds new name row → AllZip HasForm (take 1 (columns_of name)) row
  gone_form name row gone = elim (key_form_decided name gone.0) [
    | inl form ↦ subst (λ (r : List (List ℕ)). AllZip HasForm (take 1 (columns_of name)) r) (sym gone.1) form
    | inr none ↦ absurd (gone.2 (unchanged_if name gone.0 none olds new formed_olds formed))
  ]

  deletes_in_form : (name : TableName) (rows : Rows) → AreRows (IsGoneKey olds new name) rows → IsKeyFileOf name (table_text rows) rows
  deletes_in_form name rows are =
      let gone = λ (k : ℕ) (d : List (List ℕ)) (inside : k < length rows). (are.same (get_or rows k d)).0 (Contains-get_or rows k d inside) in
      table_of_forms (take 1 (columns_of name)) 1 rows (begins_key name)
      (λ k d inside. ap length (gone k d inside).1 ∙ sym (one_column name))
      (λ k d inside. gone_form name (get_or rows k d) (gone k d inside))
      (distinct_if 1 (IsGoneKey olds new name) rows are (λ one other g h same. sym (whole one g) ∙ same ∙ whole other h))
    where
      whole : (row : List (List ℕ)) → IsGoneKey olds new name row → take 1 row ≡ row
      whole row g = let one = ap length g.1 in take_all 1 row (omega (arith, one))

  pub changes_in_form : (c : Changes) → AreChangesOf olds new c → MayBeWritten c
  changes_in_form c is = record {
    eight = is.all.eight;
    keys_eight = is.eight;
    none = is.none;
    contents = λ name. contents_in_form olds new name (table_of c.contents.items name) formed (is.contents name);
    deletes = λ name keyed. deletes_in_form name (key_rows (keys_of_table c.deletes.items name)) (is.deletes name keyed);
  }

-- ---- changes since the tables after chains

-- they are what takes the tables after these chains to the new ones
pub record AreSinceChains (chains : List (List (List ℕ))) (new : Tables) (c : Changes) : Type 0 where
  pub olds : List Tables
  pub restored : AllZip AreTablesOf chains olds
  pub changes : AreChangesOf olds new c

module _ {Z : Type 0} (olds : List (Vec Rows Z)) where
  borrowed_tables : (before : List (Bor (List Rows))) → map (λ b. b.now) before ≡ map (λ old. old.items) olds → map (λ b. table_of b.now) before ≡ map (λ old. table_of old.items) olds
  borrowed_tables before same =
      sym (map-map table_of (λ (b : Bor (List Rows)). b.now) before) ∙ ap (map table_of) same ∙ map-map table_of (λ (old : Vec Rows Z). old.items) olds

  pub since_chains : (given kind : Kind) (chain : List (List ℕ)) (before : List (Bor (List Rows))) (now : List Rows) (new : Tables) (c : Changes) → AllZip AreTablesOf (chains_before given chain) (map (λ old. table_of old.items) olds)
      → given ≡ kind → map (λ b. b.now) before ≡ map (λ old. old.items) olds → table_of now ≡ new → AreChangesOf (map (λ b. table_of b.now) before) (table_of now) c → AreSinceChains (chains_before kind chain) new c
  since_chains given kind chain before now new c restored same_kind same same_new is = record {
    olds = map (λ old. table_of old.items) olds;
    restored = subst (λ (k : Kind). AllZip AreTablesOf (chains_before k chain) (map (λ old. table_of old.items) olds)) same_kind restored;
    changes = subst (λ (ts : List Tables). AreChangesOf ts new c) (borrowed_tables before same) (subst (λ (t : Tables). AreChangesOf (map (λ b. table_of b.now) before) t c) same_new is);
  }

module _ (chains : List (List (List ℕ))) (new : Tables) (c : Changes) (since : AreSinceChains chains new c) where
  pub since_in_form : AreRestored → InForm new → MayBeWritten c
  since_in_form law formed = changes_in_form since.olds new (old_in_form law chains since.olds since.restored) formed c since.changes

  some_since : (o : Objects) → AreSomeChanges since.olds new o → AreChangesSince chains new o
  some_since o some = record { olds = since.olds; after = old_rows chains since.olds since.restored; changes = some }

module _ (chain : List (List ℕ)) (a : Attributes) (source : Source) (before : Base) (c : Changes) (since : AreSinceChains (chains_before a.name.kind chain) (tables_in source) c) where
  -- their deposit
  pub packed_since : (bytes : List ℕ) → ArePackedChanges since.olds (tables_in source) a before bytes → IsPackedSince chain a (tables_in source) before bytes
  packed_since bytes packed = record {
    objects = packed.0;
    since = some_since (chains_before a.name.kind chain) (tables_in source) c since packed.0 packed.1;
    packable = packed.2;
    bytes_right = packed.3;
  }

  -- and an error of it
  pub error_since : (error : PackError) → IsChangesError since.olds (tables_in source) a before error → IsWholeError chain a source before (Pack error)
  error_since error said = inr (said.0, some_since (chains_before a.name.kind chain) (tables_in source) c since (objects_in said.0) said.1, said.2)
