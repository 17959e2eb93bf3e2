-- The rows of a deposit that is read are those under the names of its tables.
use Rattle.std.proofs.Common.{◌≡◌, ◌↔◌, ◌==◌, ◌<◌, ◌∷◌, ◌∙◌, [], ℕ, Bool, Contains, List, Some, ap, arith, cond, false, inl, inr, refl, subst, sym, true}
use Rattle.std.specs.List.{AllByRecursion}
use Rattle.std.proofs.lemmas.Bool.Decides.{Decides-eqb}
use Rattle.std.proofs.lemmas.Option.{same_Some}
use Rattle.deposit_name.specs.declared.table.TableName.{TableName}
use Rattle.dnrd_csv.specs.Readers.{IsTableReader}
use Rattle.dnrd_csv.specs.Table.{columns_of, key_columns_of}
use Rattle.envelope.specs.Envelope.{Env}
use Rattle.envelope.specs.declared.envelope.FileEntry.{FileEntry}
use Rattle.deposit_verify.specs.Checks.{HasMenu}
use Rattle.deposit_verify.specs.Deposit.{AreFiles, HasFiles, IsDeposit, IsTableOf, all_entries, contents_files}
use Rattle.deposit_verify.specs.Keys.{AnyZip}
use Rattle.deposit_verify.specs.Places.{table_place}
use Rattle.deposit_verify.specs.Rows.{rows_under}
use Rattle.deposit_verify.specs.Verdict.{rows_at, tables_at}
use Rattle.deposit_verify.specs.inside.Reading.{OneReading}
use Rattle.deposit_verify.proofs.FilesDecided.{each_nothing, each_parts}
use Rattle.deposit_verify.proofs.HeaderDecided.{same_place}
use Rattle.deposit_verify.proofs.KeyCounts.{false_from}
use Rattle.deposit_verify.proofs.Lifted.{in_envelope}
use Rattle.deposit_verify.proofs.Readings.{AreApart, apart_contents}
use Rattle.deposit_verify.proofs.Uniques.{same_files}
use Rattle.deposit_tables.specs.Restored.{DepositHasRow, HasRow}
use Rattle.deposit_tables.proofs.Decisions.{Rows, nothing}

module _ (reader : IsTableReader) (name : TableName) (row : List (List ℕ)) where
  table_law : (e : FileEntry) (f : List ℕ) (rows : Rows) → (rows_at e f ≡ Some rows) ↔ IsTableOf e.name f rows
  table_law e f rows = reader.some (columns_of e.name) (key_columns_of e.name) f rows

  later_place : (n : ℕ) (es : List FileEntry) (fs : List (List ℕ)) → AllByRecursion (λ (f : FileEntry). n < table_place f.name) es → AnyZip (HasRow name row) es fs → n < table_place name
  later_place n (e ∷ es) (f ∷ fs) all (inl here) = subst (λ (m : TableName). n < table_place m) here.0 all.0
  later_place n (e ∷ es) (f ∷ fs) all (inr there) = later_place n es fs all.1 there
  later_place n _ _ all any = absurd any

  row_there : (es : List FileEntry) (fs : List (List ℕ)) (ts : List Rows) → AreApart es → tables_at es fs ≡ Some ts → AnyZip (HasRow name row) es fs → Contains (rows_under es ts name) row
  row_there [] fs ts apart whole any = absurd any
  row_there (e ∷ es) [] ts apart whole any = absurd any
  row_there (e ∷ es) (f ∷ fs) [] apart whole any = absurd (each_nothing rows_at e es f fs whole)
  row_there (e ∷ es) (f ∷ fs) (t ∷ ts) apart whole (inl here) =
      let parts = each_parts rows_at e es f fs t ts whole in
      let same : here.1 ≡ t = same_Some _ _ (sym ((table_law e f here.1).1 here.2) ∙ parts.0) in
      let chosen : rows_under (e ∷ es) (t ∷ ts) name ≡ t = ap (λ (b : Bool). cond b t (rows_under es ts name)) ((Decides-eqb (table_place e.name) (table_place name)).1 (ap table_place here.0)) in
      subst (λ (rows : Rows). Contains rows row) (same ∙ sym chosen) here.3
  row_there (e ∷ es) (f ∷ fs) (t ∷ ts) apart whole (inr there) =
      let parts = each_parts rows_at e es f fs t ts whole in
      let above = later_place (table_place e.name) es fs apart.0 there in
      let other : (table_place e.name == table_place name) ≡ false = false_from _ (Decides-eqb (table_place e.name) (table_place name)) (λ same. absurd (omega (arith, same, above))) in
      let chosen : rows_under (e ∷ es) (t ∷ ts) name ≡ rows_under es ts name = ap (λ (b : Bool). cond b t (rows_under es ts name)) other in
      subst (λ (rows : Rows). Contains rows row) (sym chosen) (row_there es fs ts apart.1 parts.1 there)

  row_back : (es : List FileEntry) (fs : List (List ℕ)) (ts : List Rows) → tables_at es fs ≡ Some ts → Contains (rows_under es ts name) row → AnyZip (HasRow name row) es fs
  row_back [] fs ts whole has = absurd (nothing row has)
  row_back (e ∷ es) [] ts whole has = cc whole
  row_back (e ∷ es) (f ∷ fs) [] whole has = absurd (nothing row has)
  row_back (e ∷ es) (f ∷ fs) (t ∷ ts) whole has = by (table_place e.name == table_place name) refl has (row_back es fs ts parts.1)
    where
      parts : (rows_at e f ≡ Some t) × (tables_at es fs ≡ Some ts)
      parts = each_parts rows_at e es f fs t ts whole

      by : (b : Bool) → (table_place e.name == table_place name) ≡ b → Contains (cond b t (rows_under es ts name)) row
          → (Contains (rows_under es ts name) row → AnyZip (HasRow name row) es fs) → AnyZip (HasRow name row) (e ∷ es) (f ∷ fs)
      by true same has more = inl (same_place e.name name ((Decides-eqb (table_place e.name) (table_place name)).0 same), t, (table_law e f t).0 parts.0, has)
      by false same has more = inr (more has)

  module _ (one : OneReading) (joined : List ℕ) (v : Env) (rest : List ℕ) (deposit : IsDeposit joined v rest) (menu : HasMenu v) (files : List (List ℕ)) (are : AreFiles (all_entries v) rest files)
      (tables : List Rows) (whole : tables_at v.contents (contents_files v files) ≡ Some tables) where
    abbrev InFiles : Type 0
    InFiles = HasFiles v rest (λ fs. AnyZip (HasRow name row) v.contents (contents_files v fs))

    in_files : Contains (rows_under v.contents tables name) row ↔ InFiles
    in_files = (
      λ has. (files, are, row_back v.contents (contents_files v files) tables whole has),
      λ h.
          let any = subst (λ (fs : List (List ℕ)). AnyZip (HasRow name row) v.contents (contents_files v fs)) (same_files (all_entries v) rest h.0 files h.1 are) h.2 in
          row_there v.contents (contents_files v files) tables (apart_contents v menu) whole any,
    )

    pub deposit_row : DepositHasRow joined name row ↔ Contains (rows_under v.contents tables name) row
    deposit_row =
        let here = in_envelope one joined v rest deposit (λ w more. HasFiles w more (λ fs. AnyZip (HasRow name row) w.contents (contents_files w fs))) in
        (λ has. in_files.1 (here.0 has), λ has. here.1 (in_files.0 has))
