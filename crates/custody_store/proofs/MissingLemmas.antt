-- A table that is not there has no rows, and where one is not there that both schemas have, and meta is, the rows are out of form.
use Rattle.std.proofs.Common.{◌≡◌, inl, inr, ℕ, ◌&&◌, Bool, true, false, List, [], ◌∷◌, codes, bytes_eq, Option, None, Some, refl, sym, ap, ◌∙◌}
use Rattle.std.specs.Prelude.{slice_get, is_some}
use Rattle.std.specs.FinMap.{FinMap}
use Rattle.std.specs.List.{list_any, AllZip}
use Rattle.std.specs.Option.{option_and_then}
use Rattle.std.proofs.lemmas.Bool.{false≢true, cases_Bool, or_parts}
use Rattle.std.proofs.lemmas.Slice.Eq.{bytes_eq-Decides}
use Rattle.sqlite.specs.Order.{Row, column, bytes}
use Rattle.sqlite.specs.Schema.{Schema}
use Rattle.sqlite.specs.State.{State}
use Rattle.sqlite.specs.Tree.{Trees}
use Rattle.sqlite.specs.Table.{Table}
use Rattle.sqlite_catalog.specs.Listing.{IsTableRow, IsSound}
use Rattle.sqlite_catalog.proofs.StepLemmas.{same_itself}
use Rattle.sqlite_schema.specs.Names.{same_name}
use Rattle.custody_records.specs.declared.damage.RowDamage.TheVariants as damage
use Rattle.custody_records.specs.Keys.{text_cmp, part_cmp, notice_cmp}
use Rattle.custody_records.specs.Records.{PartRecord, Notice, Release, Hold}
use Rattle.custody_records.specs.Rows.{MetaRow, Rows, first_meta}
use Rattle.custody_records.specs.Form.{all_records, are_none, form_after, form_of, gathered_table, is_known, is_meta, notice_in, part_in, records_in, registry_in, OutOfForm}
use Rattle.custody_records.proofs.ReadLemmas.{some_same}
use Rattle.custody_store.specs.Schema.{meta_schema}
use Rattle.custody_store.specs.Reading.{has_table, rows_in, tree_named}
use Rattle.custody_store.specs.StoreState.{HasFirstTables, HasSchemaTablesFirst, as_store_state, has_all_tables}
use Rattle.custody_store.proofs.FormLemmas.{form_is}
use Rattle.custody_store.proofs.ReadLemmas.{meta_there}
use Rattle.custody_store.proofs.TableLemmas.{named, named_in, holds_first}

-- ---- a table that is not there

not_listed : (name : List ℕ) (objects : List Row) (tables : List Table) → AllZip IsTableRow objects tables → list_any (λ (t : Table). same_name t.name name) tables ≡ false → named_in name objects ≡ None
not_listed name [] tables h none = refl
not_listed name (object ∷ objects) [] h none = absurd h
not_listed name (object ∷ objects) (t ∷ tables) h none =
    let apart = or_parts (same_name t.name name) (list_any (λ (t : Table). same_name t.name name) tables) none in
    let is : bytes (column object 2) ≡ t.name = ap bytes h.0.described.name_is in
    elim (cases_Bool (bytes_eq (bytes (column object 2)) name)) [
      | inl same ↦
          let named_so : t.name ≡ name = sym is ∙ (bytes_eq-Decides (bytes (column object 2)) name).0 same in
          absurd (false≢true (sym apart.0 ∙ ap (λ n. same_name n name) named_so ∙ same_itself name))
      | inr other ↦ rw other (not_listed name objects tables h.1 apart.1)
    ]

pub not_there : (trees : Trees) (schema : Schema) (name : List ℕ) → IsSound schema trees → has_table name schema ≡ false → tree_named name trees ≡ None
not_there trees schema name sound none = named name trees ∙ not_listed name _ schema.tables sound.lists.listed.tables none

-- ---- a table without rows

pub no_parts : (number blocks : ℕ) (r : Option (FinMap text_cmp ℕ)) (n : Option (FinMap notice_cmp Notice)) (o : Option (FinMap text_cmp Release)) (h : Option (FinMap text_cmp Hold)) → all_records number blocks r None n o h ≡ None
no_parts number blocks None n o h = refl
no_parts number blocks (Some r) n o h = refl

pub no_notices : (number blocks : ℕ) (r : Option (FinMap text_cmp ℕ)) (p : Option (FinMap part_cmp PartRecord)) (o : Option (FinMap text_cmp Release)) (h : Option (FinMap text_cmp Hold)) → all_records number blocks r p None o h ≡ None
no_notices number blocks None p o h = refl
no_notices number blocks (Some r) None o h = refl
no_notices number blocks (Some r) (Some p) o h = refl

pub no_releases : (number blocks : ℕ) (r : Option (FinMap text_cmp ℕ)) (p : Option (FinMap part_cmp PartRecord)) (n : Option (FinMap notice_cmp Notice)) (h : Option (FinMap text_cmp Hold)) → all_records number blocks r p n None h ≡ None
no_releases number blocks None p n h = refl
no_releases number blocks (Some r) None n h = refl
no_releases number blocks (Some r) (Some p) None h = refl
no_releases number blocks (Some r) (Some p) (Some n) h = refl

abbrev HasNoRecords : Rows → Type 0
HasNoRecords rows = (with_holds : Bool) (number blocks : ℕ) → records_in with_holds number blocks rows ≡ None

-- one of the four other tables that both schemas have is not there
lacks_one : (s : State) → HasFirstTables meta_schema.tables s → has_all_tables (as_store_state s) ≡ false → HasNoRecords (rows_in s.now.trees)
lacks_one s at none with_holds number blocks =
    let rows = rows_in s.now.trees in
    let there = meta_there s at in
    let gone = λ (name : List ℕ). not_there s.now.trees s.now.schema name at.sound in
    let rest : (has_table (codes "registry") s.now.schema && has_table (codes "part") s.now.schema && has_table (codes "notice") s.now.schema && has_table (codes "handover") s.now.schema) ≡ false = rw there at none in
    elim (cases_Bool (has_table (codes "registry") s.now.schema)) [
      | inr registry ↦ let is = gone (codes "registry") registry in rw is refl
      | inl registry ↦ elim (cases_Bool (has_table (codes "part") s.now.schema)) [
        | inr part ↦ let is = gone (codes "part") part in rw is (no_parts number blocks (gathered_table registry_in rows.registries) _ _ _)
        | inl part ↦ elim (cases_Bool (has_table (codes "notice") s.now.schema)) [
          | inr notice ↦ let is = gone (codes "notice") notice in rw is (no_notices number blocks (gathered_table registry_in rows.registries) (gathered_table part_in rows.parts) _ _)
          | inl notice ↦
              let handover = rw (registry, part, notice) at rest in
              let is = gone (codes "handover") handover in
              rw is (no_releases number blocks (gathered_table registry_in rows.registries) (gathered_table part_in rows.parts) (gathered_table notice_in rows.notices) _)
        ]
      ]
    ]

-- ---- what the rows say

out_of_form : (rows : Rows) (meta : MetaRow) (others : List MetaRow) → is_known meta ≡ true → HasNoRecords rows → form_after (meta ∷ others) rows ≡ OutOfForm damage.Form
out_of_form rows meta others known none = elim (cases_Bool (is_meta meta && are_none others)) [
  | inl good ↦ rw (known, good, none _ _ _) refl
  | inr bad ↦ rw (known, bad) refl
]

lacking : (rows : Rows) (meta : MetaRow) → first_meta rows ≡ Some meta → is_known meta ≡ true → HasNoRecords rows → form_of rows ≡ OutOfForm damage.Form
lacking rows meta first known none = by rows.meta refl first
  where
    by : (metas : Option (List MetaRow)) → rows.meta ≡ metas → option_and_then (λ (all : List MetaRow). slice_get all 0) metas ≡ Some meta → form_of rows ≡ OutOfForm damage.Form
    by None at is = absurd (let clash = is in cc)
    by (Some []) at is = absurd (let clash = is in cc)
    by (Some (row ∷ others)) at is = form_is (row ∷ others) rows at ∙ out_of_form rows row others (ap is_known (some_same row meta is) ∙ known) none

-- where meta has a row with a known schema, and another table is not there
pub missing_form : (s : State) → HasFirstTables meta_schema.tables s → has_all_tables (as_store_state s) ≡ false → (meta : MetaRow) → first_meta (rows_in s.now.trees) ≡ Some meta → is_known meta ≡ true → form_of (rows_in s.now.trees) ≡ OutOfForm damage.Form
missing_form s at none meta first known = lacking (rows_in s.now.trees) meta first known (lacks_one s at none)

-- ---- the table of holds

-- without it there are none
pub holds_missing : (s : State) → HasSchemaTablesFirst s → has_table (codes "hold") s.now.schema ≡ false → (rows_in s.now.trees).holds ≡ None
holds_missing s first none = rw (not_there s.now.trees s.now.schema (codes "hold") first.0.sound none) refl

-- there are rows of holds just where the table is there
pub holds_there : (s : State) → HasSchemaTablesFirst s → is_some (rows_in s.now.trees).holds ≡ has_table (codes "hold") s.now.schema
holds_there s first = elim (cases_Bool (has_table (codes "hold") s.now.schema)) [
  | inl there ↦ let at = first.1 there in rw (there, holds_first s.now.trees s.now.schema at.begins at.sound) refl
  | inr none ↦ rw (none, holds_missing s first none) refl
]
