-- What has changed, packed: the files of the tables that have a row, and what is read of them again.
use Rattle.std.proofs.Common.{◌≡◌, ◌≢◌, ◌⊎◌, ◌<◌, ◌≤◌, ◌+◌, ◌==◌, ◌++◌, ◌∷◌, ◌∙◌, [], ℕ, All, Bool, Err, IsTrue, List, Ok, Result, Some, Vec, add-one, ap, arith, cond, false, get_or, inl, inr, length, map, refl, subst, suc, sym, take, true, zero}
use Rattle.std.specs.Prelude.{IfErr, IfOk, IsErrAnd}
use Rattle.std.specs.List.{AllByRecursion}
use Rattle.std.proofs.lemmas.Bool.Decides.{Decides-eqb}
use Rattle.std.proofs.lemmas.List.{get_or_default, map_push}
use Rattle.std.proofs.lemmas.List.Elements.{All-append, All-nil, All-push, All-weaker, recursion_from_All}
use Rattle.std.proofs.lemmas.Option.{cond_some}
use Rattle.csv.specs.Reading.{default_config, records}
use Rattle.deposit_name.specs.Tables.{has_deletes}
use Rattle.deposit_name.specs.declared.table.TableName.{TableName}
use Rattle.deposit_name.specs.declared.table.TableName.TheVariants.{Domain}
use Rattle.dnrd_csv.specs.AnySpelling.{rows_below_header}
use Rattle.dnrd_csv.specs.Readers.{IsTableReader, table_at}
use Rattle.dnrd_csv.specs.Table.{IsTable, columns_of, key_columns_of}
use Rattle.dnrd_csv.specs.Text.{key_rows, table_text}
use Rattle.dnrd_csv.specs.declared.form.Form.{Form}
use Rattle.dnrd_csv.proofs.Records.{unmarked_stays}
use Rattle.deposit_verify.specs.Places.{all_tables, table_place}
use Rattle.deposit_verify.specs.Tables.{table_of}
use Rattle.deposit_verify.specs.declared.base.Base.{Base}
use Rattle.deposit_verify.proofs.HeaderDecided.{same_place}
use Rattle.deposit_verify.proofs.KeyCounts.{false_from}
use Rattle.deposit_verify.proofs.TableLemmas.{place_at}
use Rattle.deposit_pack.specs.Packable.{IsPackable}
use Rattle.deposit_pack.specs.PackErrors.{IsPackError}
use Rattle.deposit_pack.specs.Packing.{NamedRows, Objects, named_rows, objects_in, packed}
use Rattle.deposit_pack.specs.declared.pack_error.PackError.{PackError}
use Rattle.deposit_pack.specs.declared.pack_error.PackError.TheVariants.{Memory}
use Rattle.deposit_pack.specs.declared.source.Attributes.{Attributes}
use Rattle.deposit_pack.specs.declared.source.Source.{Source}
use Rattle.deposit_pack.specs.declared.source.TableFile.{TableFile}
use Rattle.deposit_tables.specs.Changes.{AreSomeChanges}
use Rattle.deposit_tables.specs.Restored.{AreRows}
use Rattle.deposit_tables.specs.Unchanged.{IsChangedRow, IsGoneKey}
use Rattle.deposit_tables.specs.declared.changes.Changes.{Changes}
use Rattle.deposit_tables.specs.inside.Changing.{AreChangesOf, keys_of_table}
use Rattle.deposit_tables.specs.inside.Packing.{MayBeWritten, ArePackedChanges, IsChangesError, named_rows_under}
use Rattle.deposit_tables.proofs.Decisions.{Rows, Tables}
use Rattle.deposit_tables.proofs.TablesThen.{place_below}

-- ---- reading

read_of_table : (columns : List Form) (key : ℕ) (bytes : List ℕ) (rows : Rows) → table_at columns key bytes ≡ Some rows → records default_config bytes ≡ rows
unfolding table_at
read_of_table columns key bytes rows e = (cond_some _ _ _ e).1

-- the file of a table is read as its rows
pub read_again : IsTableReader → (columns : List Form) (key : ℕ) (bytes : List ℕ) (rows : Rows) → IsTable columns key bytes rows → rows_below_header false bytes ≡ rows
read_again reader columns key bytes rows is =
    ap (records default_config) (unmarked_stays bytes is.text.unmarked) ∙ read_of_table columns key bytes rows ((reader.some columns key bytes rows).1 is)

-- ---- the rows under a name

other_name : (f : NamedRows) (name : TableName) → (table_place f.name ≡ table_place name → ⊥) → (table_place f.name == table_place name) ≡ false
other_name f name apart = false_from _ (Decides-eqb (table_place f.name) (table_place name)) apart

-- of files whose names stand before this one, none has it
none_named : (fs : List NamedRows) (name : TableName) → AllByRecursion (λ (f : NamedRows). table_place f.name < table_place name) fs → named_rows_under fs name ≡ []
none_named [] name before = refl
none_named (f ∷ fs) name before =
    ap (λ (b : Bool). cond b f.rows (named_rows_under fs name)) (other_name f name (λ same. absurd (omega (arith, same, before.0)))) ∙ none_named fs name before.1

-- one more file, of this name
last_named : (fs : List NamedRows) (f : NamedRows) → AllByRecursion (λ (g : NamedRows). table_place g.name < table_place f.name) fs → named_rows_under (fs ++ f ∷ []) f.name ≡ f.rows
last_named [] f before = ap (λ (b : Bool). cond b f.rows []) ((Decides-eqb (table_place f.name) (table_place f.name)).1 refl)
last_named (g ∷ fs) f before =
    ap (λ (b : Bool). cond b g.rows (named_rows_under (fs ++ f ∷ []) f.name)) (other_name g f.name (λ same. absurd (omega (arith, same, before.0)))) ∙ last_named fs f before.1

-- and of another one
others_named : (fs : List NamedRows) (f : NamedRows) (name : TableName) → (table_place f.name ≡ table_place name → ⊥) → named_rows_under (fs ++ f ∷ []) name ≡ named_rows_under fs name
others_named [] f name apart = ap (λ (b : Bool). cond b f.rows []) (other_name f name apart)
others_named (g ∷ fs) f name apart = ap (λ (rows : Rows). cond (table_place g.name == table_place name) g.rows rows) (others_named fs f name apart)

-- ---- the files so far

-- of the tables at the places so far, these are those that have a row
pub record AreTextsSoFar (tables : Tables) (fs : List NamedRows) (place : ℕ) : Type 0 where
  pub before : All (λ f. table_place f.name < place) fs
  pub rows : (name : TableName) → table_place name < place → named_rows_under fs name ≡ tables name
  pub some : All (λ f. f.rows ≢ []) fs

pub no_texts : (tables : Tables) → AreTextsSoFar tables [] 0
no_texts tables = record {
  before = All-nil (λ (f : NamedRows). table_place f.name < 0);
  rows = λ name below. absurd (omega (arith, below));
  some = All-nil (λ (f : NamedRows). f.rows ≢ []);
}

up_to : (m n : ℕ) → m < n + 1 → (m ≡ n) ⊎ (m < n)
up_to m n h = grind arith

-- a table without a row has none
pub texts_kept : (tables : Tables) (fs : List NamedRows) (place : ℕ) → AreTextsSoFar tables fs place → ((name : TableName) → table_place name ≡ place → tables name ≡ []) → AreTextsSoFar tables fs (place + 1)
texts_kept tables fs place so_far none = record {
  before = All-weaker (λ (f : NamedRows). table_place f.name < place) (λ (f : NamedRows). table_place f.name < place + 1) (λ f below. omega (arith, below)) fs so_far.before;
  rows = λ name below. elim (up_to (table_place name) place below) [
    | inl here ↦
        let before = All-weaker (λ (f : NamedRows). table_place f.name < place) (λ (f : NamedRows). table_place f.name < table_place name) (λ f less. omega (arith, less, here)) fs so_far.before in
        none_named fs name (recursion_from_All _ fs before) ∙ sym (none name here)
    | inr earlier ↦ so_far.rows name earlier
  ];
  some = so_far.some;
}

module _ (tables : Tables) (fs : List NamedRows) (place : ℕ) (name : TableName) (here : table_place name ≡ place) (so_far : AreTextsSoFar tables fs place) where
  before_name : AllByRecursion (λ (f : NamedRows). table_place f.name < table_place name) fs
  before_name = recursion_from_All _ fs (All-weaker (λ (f : NamedRows). table_place f.name < place) (λ (f : NamedRows). table_place f.name < table_place name) (λ f below. omega (arith, below, here)) fs so_far.before)

  further : (f : NamedRows) → table_place f.name < place → table_place f.name < place + 1
  further f below = omega (arith, below)

  -- a name up to this one is this one, or before it
  name_tells : (other : TableName) → table_place other < place + 1 → (other ≡ name) ⊎ ((table_place name ≡ table_place other → ⊥) × (table_place other < place))
  name_tells other below = elim (up_to (table_place other) place below) [
    | inl same ↦ inl (same_place other name (same ∙ sym here))
    | inr less ↦ inr ((λ same. absurd (omega (arith, same, less, here))), less)
  ]

  -- a table with a row has a file
  pub texts_more : tables name ≢ [] → AreTextsSoFar tables (fs ++ record { name = name; rows = tables name } ∷ []) (place + 1)
  texts_more filled =
      let last : NamedRows = record { name = name; rows = tables name } in
      record {
        before = All-push (λ (f : NamedRows). table_place f.name < place + 1) fs last
            (All-weaker (λ (f : NamedRows). table_place f.name < place) (λ (f : NamedRows). table_place f.name < place + 1) further fs so_far.before) (omega (arith, here));
        rows = λ other below. elim (name_tells other below) [
          | inl same ↦ subst (λ (n : TableName). named_rows_under (fs ++ last ∷ []) n ≡ tables n) (sym same) (last_named fs last before_name)
          | inr apart ↦ others_named fs last other apart.0 ∙ so_far.rows other apart.1
        ];
        some = All-push (λ (f : NamedRows). f.rows ≢ []) fs last so_far.some filled;
      }

pub named_as : (f : NamedRows) (name : TableName) (rows : Rows) → f.name ≡ name → f.rows ≡ rows → f ≡ record { name = name; rows = rows }
named_as f name rows named same = λ i. record { name = named i; rows = same i }

-- one more file, as it is read
pub text_pushed : {X : Type 0} (read : X → NamedRows) (tables : Tables) (texts after : List X) (t : X) (place : ℕ) (name : TableName) → AreTextsSoFar tables (map read texts) place → table_place name ≡ place
    → after ≡ texts ++ t ∷ [] → read t ≡ record { name = name; rows = tables name } → tables name ≢ [] → AreTextsSoFar tables (map read after) (place + 1)
text_pushed read tables texts after t place name so_far here pushed is filled =
    subst (λ (fs : List NamedRows). AreTextsSoFar tables fs (place + 1)) (sym (ap (map read) pushed ∙ map_push read texts t ∙ ap (λ (f : NamedRows). map read texts ++ f ∷ []) is))
    (texts_more tables (map read texts) place name here so_far filled)

-- all places
pub all_texts : (tables : Tables) (fs : List NamedRows) (place : ℕ) → 8 ≤ place → AreTextsSoFar tables fs place → (name : TableName) → named_rows_under fs name ≡ tables name
all_texts tables fs place past so_far name = let below = place_below name in so_far.rows name (omega (arith, below, past))

-- ---- lists that are empty

pub is_none : {X : Type 0} (xs : List X) → (length xs == 0) ≡ true → xs ≡ []
is_none [] e = refl
is_none (x ∷ xs) e = let none = (Decides-eqb (length (x ∷ xs)) 0).0 e in absurd (omega (arith, none))

pub is_some : {X : Type 0} (xs : List X) → (length xs == 0) ≡ false → xs ≢ []
is_some [] e none = cc e
is_some (x ∷ xs) e none = cc none

-- what is written of rows is read again
pub read_written : IsTableReader → (columns : List Form) (key : ℕ) (written before : List ℕ) (rows there : Rows) → IsTable columns key (table_text there) there → before ≡ [] → written ≡ before ++ table_text rows
    → rows ≡ there → rows_below_header false written ≡ there
read_written reader columns key written before rows there is none all same =
    ap (rows_below_header false) (all ∙ ap (λ (bs : List ℕ). bs ++ table_text rows) none ∙ ap table_text same) ∙ read_again reader columns key (table_text there) there is

-- the keys at a place are those of its table
pub keys_at : (deletes : List (List (List ℕ))) (name : TableName) (place : ℕ) (keys : List (List ℕ)) → length deletes ≡ 8 → place < 8 → table_place name ≡ place → keys ≡ get_or deletes place keys
    → keys ≡ keys_of_table deletes name
keys_at deletes name place keys eight below here is =
    let inside : place < length deletes = omega (arith, eight, below) in
    is ∙ get_or_default deletes place keys [] inside ∙ ap (λ (k : ℕ). get_or deletes k []) (sym here)

pub some_rows : (keys : List (List ℕ)) → keys ≢ [] → key_rows keys ≢ []
some_rows [] some none = some refl
some_rows (key ∷ keys) some none = cc none

-- a table of which keys are deleted is one of those of which some may be
pub may_delete : (b : Bool) (keys : List (List ℕ)) → (b ≡ false → keys ≡ []) → keys ≢ [] → IsTrue b
may_delete true keys none some = refl
may_delete false keys none some = absurd (some (none refl))

-- ---- files that are read as some tables

no_rows : (rows : Rows) → (rows ≡ []) ⊎ (rows ≢ [])
no_rows [] = inl refl
no_rows (row ∷ rows) = inr (λ e. cc e)

file_of_rows : TableName → Rows → TableFile
file_of_rows name rows = record { name = name; text = record { ref_ptr = (0, 0); now = table_text rows } }

module _ (reader : IsTableReader) (tables : Tables) (columns : TableName → List Form) (key : TableName → ℕ)
    (formed : (name : TableName) → tables name ≢ [] → IsTable (columns name) (key name) (table_text (tables name)) (tables name)) where
  read_as : (name : TableName) → tables name ≢ [] → named_rows false (file_of_rows name (tables name)) ≡ record { name = name; rows = tables name }
  unfolding file_of_rows
  read_as name filled = named_as (named_rows false (file_of_rows name (tables name))) name (tables name) refl (read_again reader (columns name) (key name) (table_text (tables name)) (tables name) (formed name filled))

  files_so_far : (place : ℕ) → place ≤ 8 → (files : List TableFile) × AreTextsSoFar tables (map (named_rows false) files) place
  files_so_far zero below = ([], no_texts tables)
  files_so_far (suc place) below =
      let name = get_or all_tables place Domain in
      let here : table_place name ≡ place = place_at place Domain (omega (arith, below)) in
      let before = files_so_far place (omega (arith, below)) in
      rw (sym (add-one place))
      (elim (no_rows (tables name)) [
        | inl none ↦ (before.0, texts_kept tables (map (named_rows false) before.0) place before.1 (λ other at. ap tables (same_place other name (at ∙ sym here)) ∙ none))
        | inr filled ↦ (
          before.0 ++ file_of_rows name (tables name) ∷ [],
          text_pushed (named_rows false) tables before.0 (before.0 ++ file_of_rows name (tables name) ∷ []) (file_of_rows name (tables name)) place name before.1 here refl (read_as name filled) filled,
        )
      ])

  pub all_files : (files : List TableFile) × AreTextsSoFar tables (map (named_rows false) files) 8
  all_files = files_so_far 8 (omega arith)

-- ---- the deposit

module _ (olds : List Tables) (new : Tables) where
  pub some_changes : (c : Changes) (o : Objects) → AreChangesOf olds new c → ((name : TableName) → named_rows_under o.contents name ≡ table_of c.contents.items name)
      → ((name : TableName) → named_rows_under o.deletes name ≡ key_rows (keys_of_table c.deletes.items name)) → All (λ f. f.rows ≢ []) o.contents → All (λ f. f.rows ≢ []) o.deletes → AreSomeChanges olds new o
  some_changes c o is contents deletes some some_keys = record {
    changes = record {
      contents = λ name. subst (AreRows (IsChangedRow olds new name)) (sym (contents name)) (is.contents name);
      deletes = λ name keyed. subst (AreRows (IsGoneKey olds new name)) (sym (deletes name)) (is.deletes name keyed);
    };
    some = All-append (λ (f : NamedRows). f.rows ≢ []) o.contents o.deletes some some_keys;
  }

  pub packed_changes : {E Z : Type 0} (r : Result (Vec ℕ Z) E) (a : Attributes) (before : Base) (o : Objects) → AreSomeChanges olds new o → IfOk r (λ _. IsPackable a o before) → IfOk r (λ bytes. bytes.items ≡ packed a o before)
      → IfOk r (λ bytes. ArePackedChanges olds new a before bytes.items)
  packed_changes (Ok bytes) a before o is packable right = (o, is, packable, right)
  packed_changes (Err e) a before o is packable right = tt

  pub refused_changes : {V : Type 0} (r : Result V PackError) (a : Attributes) (before : Base) (source : Source) → AreSomeChanges olds new (objects_in source) → IfErr r (IsPackError a source (Some before))
      → IfErr r (IsChangesError olds new a before)
  refused_changes (Ok v) a before source is refused = tt
  refused_changes (Err e) a before source is refused = (source, is, refused)

  -- there is a source of them, with which memory may run out
  some_source : IsTableReader → (c : Changes) → MayBeWritten c → AreChangesOf olds new c → (source : Source) × AreSomeChanges olds new (objects_in source)
  some_source reader c formed is =
      let rows_in : Tables = table_of c.contents.items in
      let keys_in : Tables = λ name. key_rows (keys_of_table c.deletes.items name) in
      let contents = all_files reader rows_in columns_of key_columns_of (λ name filled. formed.contents name) in
      let deletes = all_files reader keys_in (λ name. take 1 (columns_of name)) (λ name. 1) (λ name filled.
      formed.deletes name (may_delete (has_deletes name) (keys_of_table c.deletes.items name) (formed.none name) (λ none. filled (ap key_rows none)))) in
      let source : Source = record { contents = record { ref_ptr = (0, 0); now = contents.0 }; deletes = record { ref_ptr = (0, 0); now = deletes.0 }; has_headers = false } in (
        source,
        some_changes c (objects_in source) is (all_texts rows_in (map (named_rows false) contents.0) 8 (omega arith) contents.1) (all_texts keys_in (map (named_rows false) deletes.0) 8 (omega arith) deletes.1)
            contents.1.some deletes.1.some,
      )

  pub out_of_memory : {V : Type 0} (r : Result V PackError) (a : Attributes) (before : Base) → IsTableReader → (c : Changes) → MayBeWritten c → AreChangesOf olds new c → IsErrAnd r (λ e. e ≡ Memory)
      → IfErr r (IsChangesError olds new a before)
  out_of_memory (Ok v) a before reader c formed is memory = tt
  out_of_memory (Err e) a before reader c formed is memory =
      let there = some_source reader c formed is in
      (there.0, there.1, subst (IsPackError a there.0 (Some before)) (sym memory) tt)
