-- What has an error of its attributes or of its objects may not be packed.
use Rattle.std.specs.Prelude.{unwrap_or}
use Rattle.std.proofs.Common.{◌≡◌, ◌≢◌, ◌<◌, ◌⊎◌, ◌^◌, ◌∷◌, ◌∙◌, [], ℕ, All, Contains, IsTrue, List, Some, true, false, ap, arith, inl, inr, map, refl, slice_get, subst, sym}
use Rattle.std.proofs.lemmas.Option.{get_or_from_slice_get, slice_get_within}
use Rattle.schedule.specs.Schedule.{is_sunday}
use Rattle.deposit_name.specs.Tables.{has_deletes}
use Rattle.deposit_name.specs.declared.kinds.Kind.{Kind}
use Rattle.deposit_name.specs.declared.kinds.Kind.TheVariants.{Full, Diff, Incr}
use Rattle.deposit_name.specs.declared.table.TableName.{TableName}
use Rattle.dnrd_csv.specs.AnySpelling.{RefusesTableRows}
use Rattle.dnrd_csv.specs.Table.{IsTable}
use Rattle.dnrd_csv.specs.declared.errors.TableError.{TableError}
use Rattle.dnrd_csv.specs.declared.errors.TableError.TheVariants.{NotUtf8, NotRows, ColumnCount, FieldForm, DuplicateKey, OutOfMemory}
use Rattle.dnrd_csv.specs.declared.form.Form.{Form}
use Rattle.deposit_verify.specs.Checks.{HasContents, HasMenu, StandInOrder}
use Rattle.deposit_verify.specs.declared.files_reason.FileList.{FileList}
use Rattle.deposit_verify.specs.declared.files_reason.FileList.TheVariants.{Contents, Deletes as DeletesList}
use Rattle.deposit_verify.proofs.MenuLemmas.{menu_fails}
use Rattle.deposit_pack.specs.PackErrors.{AreRefusals, RefusesRowsOf, rows_listed}
use Rattle.deposit_pack.specs.Packable.{AreKeyRows, AreTableRows, MayDelete, MayFollow}
use Rattle.deposit_pack.specs.Packing.{NamedRows, Objects, deletes_member, packed_entry, env_counting, table_names, objects_in}
use Rattle.deposit_pack.specs.declared.pack_error.PackError.TheVariants.{Sunday, PrevId, Deletes, Header, Table, Menu, Reference, NoBase, Count, Length, Memory}
use Rattle.deposit_pack.specs.declared.source.Attributes.{Attributes}

-- what holds of each holds of the one at a place
at_place : {X : Type 0} (P : X → Type 0) (xs : List X) (k : ℕ) (x : X) → All P xs → slice_get xs k ≡ Some x → P x
at_place P xs k x all there = subst P (get_or_from_slice_get xs k x x there) (all k x (slice_get_within xs k x there))

-- ---- the menu

-- the names of entries are those of the files
named_so : (fs : List NamedRows) → map (λ f. f.name) (map packed_entry fs) ≡ table_names fs
named_so [] = refl
named_so (f ∷ fs) = ap (λ (names : List TableName). f.name ∷ names) (named_so fs)

-- keys that may be deleted stand in order
ordered : (kind : Kind) (fs : List NamedRows) → MayDelete kind (table_names fs) → StandInOrder (map (λ f. f.name) (unwrap_or (deletes_member kind (map packed_entry fs)) []))
ordered Full fs may = λ k inside. absurd (omega (arith, inside))
ordered Diff fs may = subst StandInOrder (sym (named_so fs)) may.0
ordered Incr fs may = subst StandInOrder (sym (named_so fs)) may.0

-- the menu of what may be packed
menu_right : (a : Attributes) (o : Objects) → HasContents a.name.kind (table_names o.contents) → MayDelete a.name.kind (table_names o.deletes) → HasMenu (env_counting a o (0 ∷ 0 ∷ 0 ∷ 0 ∷ []))
menu_right a o contents deletes = record {
  objects = refl;
  counted = refl;
  contents = subst (HasContents a.name.kind) (sym (named_so o.contents)) contents;
  deletes = ordered a.name.kind o.deletes deletes;
}

-- ---- deleted keys, and rows

-- a table without deletes among those with
not_deleted : (names : List TableName) (table : TableName) → Contains names table → has_deletes table ≡ false → All (λ name. IsTrue (has_deletes name)) names → ⊥
not_deleted names table has kept all =
    let yes : has_deletes table ≡ true = subst (λ (name : TableName). IsTrue (has_deletes name)) has.2 (all has.0 table has.1) in
    let clash : true ≡ false = sym yes ∙ kept in
    cc clash

-- keys that may not be deleted
undeletable : (kind : Kind) (names : List TableName) (table : TableName) → Contains names table → kind ≡ Full ⊎ has_deletes table ≡ false → MayDelete kind names → ⊥
undeletable Full names table has why may = let none = subst (λ (ns : List TableName). Contains ns table) may has in absurd (omega (arith, none.1))
undeletable Diff names table has (inl full) may = cc full
undeletable Diff names table has (inr kept) may = not_deleted names table has kept may.1
undeletable Incr names table has (inl full) may = cc full
undeletable Incr names table has (inr kept) may = not_deleted names table has kept may.1

-- a table has no fault
no_table : (columns : List Form) (key : ℕ) (file : List ℕ) (rows : List (List (List ℕ))) (fault : TableError) → IsTable columns key file rows → RefusesTableRows columns key rows fault → fault ≢ OutOfMemory → ⊥
no_table columns key file rows (NotUtf8 offset) table refused other = refused
no_table columns key file rows (NotRows row) table refused other = refused
no_table columns key file rows (ColumnCount row fields) table refused other = refused.0 table.columns_right
no_table columns key file rows (FieldForm row column field) table refused other = refused.1 table.forms_right
no_table columns key file rows (DuplicateKey row earlier) table refused other = refused.2 table.keys_right
no_table columns key file rows OutOfMemory table refused other = other refl

-- nor has a file of either list
no_rows : (o : Objects) (list : FileList) (place : ℕ) (f : NamedRows) (fault : TableError) → slice_get (rows_listed o list) place ≡ Some f → RefusesRowsOf list f fault → fault ≢ OutOfMemory
    → All AreTableRows o.contents → All AreKeyRows o.deletes → ⊥
no_rows o Contents place f fault there refused other tables keys = no_table _ _ _ f.rows fault (at_place AreTableRows o.contents place f tables there) refused other
no_rows o DeletesList place f fault there refused other tables keys = no_table _ _ _ f.rows fault (at_place AreKeyRows o.deletes place f keys there) refused other

-- ---- each error

pub refusals : AreRefusals
refusals a source base (Sunday day) is here may = is.2 (may.weekday (subst (λ (d : ℕ). IsTrue (is_sunday d)) is.0 is.1))
refusals a source base (PrevId kind) is here may = is.1 (subst (λ (k : Kind). MayFollow k a.prev_id) (sym is.0) may.prev_id)
refusals a source base (Deletes kind table) is here may =
    undeletable kind (table_names (objects_in source).deletes) table is.1 is.2 (subst (λ (k : Kind). MayDelete k (table_names (objects_in source).deletes)) (sym is.0) may.deletes)
refusals a source base (Table t) is here may = no_rows (objects_in source) t.file.list t.file.place is.0 t.fault is.1 is.3 is.4 may.tables may.keys
refusals a source base (Menu reason) is here may = menu_fails (env_counting a (objects_in source) (0 ∷ 0 ∷ 0 ∷ 0 ∷ [])) reason is (menu_right a (objects_in source) may.contents may.deletes)
refusals a source base (Reference missing) is here may = is.2 (may.references is.0)
refusals a source base (Count table) is here may =
    let below = at_place (λ (n : ℕ). n < 2 ^ 32) _ is.0 is.1 may.counts is.3 in
    absurd (omega (arith, below, is.4))
refusals a source base (Header place) is here may = here
refusals a source base NoBase is here may = here
refusals a source base Length is here may = here
refusals a source base Memory is here may = here
