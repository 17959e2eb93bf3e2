-- The tests of the counts of a deposit that is not full decide what is said of the keys after it.
use Rattle.std.specs.Prelude.{is_some, unwrap_or}
use Rattle.std.proofs.Common.{◌≡◌, ◌==◌, ◌↔◌, ◌⊎◌, ◌&&◌, ◌||◌, get_or, ◌∷◌, ◌∙◌, [], ℕ, true, false, IfSome, List, Option, Some, None, Contains, ap, inl, inr, map, refl, subst, sym}
use Rattle.std.specs.Bool.{Decides}
use Rattle.std.specs.Cmp.Lexicographic.{pointwise}
use Rattle.std.specs.List.{AllZip}
use Rattle.std.specs.Set.{distinct_count}
use Rattle.std.specs.Str.{bytes_eq}
use Rattle.std.proofs.lemmas.Bool.Decides.{Decides-at, not_from_Decides}
use Rattle.deposit_name.specs.declared.table.TableName.{TableName}
use Rattle.dnrd_csv.specs.Readers.{IsTableReader}
use Rattle.dnrd_csv.specs.Table.{columns_of, key_columns_of}
use Rattle.dnrd_csv.proofs.Decided.{zip_decides}
use Rattle.envelope.specs.Envelope.{Env}
use Rattle.envelope.specs.declared.envelope.FileEntry.{FileEntry}
use Rattle.deposit_verify.specs.declared.base.Base.{Base}
use Rattle.deposit_verify.specs.Checks.{AreChainCounts, AreKeyCounts, PassesBelow, HasMenu, IsLeast, CheckSays, counted_tables}
use Rattle.deposit_verify.specs.Deposit.{AreFiles, IsKeyFileOf, HasDeletes, HasFiles, IsKeyFile, IsTableFile, IsTableOf, contents_files, deletes_files, deletes_of, all_entries}
use Rattle.deposit_verify.specs.Keys.{AnyZip, HasKey, IsContained, IsDeleted, IsKeyAfter, IsNumberOf, keys_in}
use Rattle.deposit_verify.specs.Known.{Known}
use Rattle.deposit_verify.specs.References.{column}
use Rattle.deposit_verify.specs.Rows.{rows_under}
use Rattle.deposit_verify.specs.Verdict.{are_key_counts, chain_counts, deleted_keys_at, rows_of_each, is_full, key_rows_at, keys_after_files, rows_at, tables_at}
use Rattle.deposit_verify.proofs.FilesDecided.{both_some, deletes_decide, some_of, table_decides}
use Rattle.deposit_verify.proofs.KeyCounts.{false_from, false_parts, members_after, number_decides}
use Rattle.deposit_verify.proofs.Readings.{apart_contents, apart_in_order, deleted_are, key_back, key_there, tables_are}
use Rattle.deposit_name.proofs.KindLemmas.{same_kind_decides}
use Rattle.deposit_verify.proofs.Judged.{AreRead, chain_fails, deletes_hold, files_parted}
use Rattle.deposit_verify.proofs.Lists.{no_entry, zip_from}
use Rattle.deposit_verify.specs.Tables.{AreReadFrom, TablesSay}
use Rattle.deposit_verify.specs.declared.verdict.Verdict.TheVariants.{Fail, Pass}
use Rattle.desk.specs.declared.checks.Check.TheVariants as check
use Rattle.deposit_name.specs.declared.kinds.Kind.TheVariants.{Full}
use Rattle.dnrd_csv.specs.Text.{key_rows}
use Rattle.deposit_verify.proofs.Uniques.{same_files}

abbrev Rows : Type 0
Rows = List (List (List ℕ))

-- files are read where each of them is
each_some : (read : FileEntry → List ℕ → Option Rows) (es : List FileEntry) (fs : List (List ℕ)) → is_some (rows_of_each read es fs) ≡ pointwise (λ e f. is_some (read e f)) es fs
each_some read [] [] = refl
each_some read [] (f ∷ fs) = refl
each_some read (e ∷ es) [] = refl
each_some read (e ∷ es) (f ∷ fs) = both_some (λ (rows : Rows) (tables : List Rows). rows ∷ tables) (read e f) (rows_of_each read es fs) ∙ ap (λ b. is_some (read e f) && b) (each_some read es fs)

module _ (reader : IsTableReader) where
  table_law : (e : FileEntry) (f : List ℕ) (rows : Rows) → (rows_at e f ≡ Some rows) ↔ IsTableOf e.name f rows
  table_law e f rows = reader.some (columns_of e.name) (key_columns_of e.name) f rows

  keys_law : (e : FileEntry) (f : List ℕ) (rows : Rows) → (key_rows_at e f ≡ Some rows) ↔ IsKeyFileOf e.name f rows
  keys_law e f rows = reader.some _ 1 f rows

  module _ (v : Env) (rest : List ℕ) (files : List (List ℕ)) (menu : HasMenu v) (are : AreFiles (all_entries v) rest files) where
    pub contained_is : (tables : List Rows) → tables_at v.contents (contents_files v files) ≡ Some tables → (name : TableName) (key : List ℕ) → Contains (column 0 (rows_under v.contents tables name)) key ↔ IsContained v rest name key
    contained_is tables whole name key = (
      λ has. (files, are, key_back rows_at IsTableOf table_law name key v.contents (contents_files v files) tables whole has),
      λ h.
          let any = subst (λ (fs : List (List ℕ)). AnyZip (HasKey IsTableOf name key) v.contents (contents_files v fs)) (same_files (all_entries v) rest h.0 files h.1 are) h.2 in
          key_there rows_at IsTableOf table_law name key v.contents (contents_files v files) tables (apart_contents v menu) whole any,
    )

    pub deleted_is : (deleted : List Rows) → deleted_keys_at (deletes_of v) (deletes_files v files) ≡ Some deleted → (name : TableName) (key : List ℕ) → Contains (column 0 (rows_under (deletes_of v) deleted name)) key ↔ IsDeleted v rest name key
    deleted_is deleted whole name key = (
      λ has. (files, are, key_back key_rows_at IsKeyFileOf keys_law name key (deletes_of v) (deletes_files v files) deleted whole has),
      λ h.
          let any = subst (λ (fs : List (List ℕ)). AnyZip (HasKey IsKeyFileOf name key) (deletes_of v) (deletes_files v fs)) (same_files (all_entries v) rest h.0 files h.1 are) h.2 in
          key_there key_rows_at IsKeyFileOf keys_law name key (deletes_of v) (deletes_files v files) deleted (apart_in_order (deletes_of v) menu.deletes) whole any,
    )

    module _ (tables deleted : List Rows) (whole : tables_at v.contents (contents_files v files) ≡ Some tables) (keyed : deleted_keys_at (deletes_of v) (deletes_files v files) ≡ Some deleted) where
      pub after_is : (before : List (List ℕ)) (name : TableName) (key : List ℕ) → Contains (keys_after_files v before tables deleted name) key ↔ IsKeyAfter v rest before name key
      after_is before name key =
          let contained = contained_is tables whole name key in
          let deletes = deleted_is deleted keyed name key in
          let members = members_after before (column 0 (rows_under v.contents tables name)) (column 0 (rows_under (deletes_of v) deleted name)) key in (
            λ has. there contained deletes (members.0 has),
            λ after. members.1 (back contained deletes after),
          )
        where
          Inside : Type 0
          Inside = Contains (column 0 (rows_under v.contents tables name)) key

          Gone : Type 0
          Gone = Contains (column 0 (rows_under (deletes_of v) deleted name)) key

          there : (Inside ↔ IsContained v rest name key) → (Gone ↔ IsDeleted v rest name key) → Inside ⊎ (Contains before key × ¬ (Inside ⊎ Gone)) → IsKeyAfter v rest before name key
          there contained deletes (inl c) = inl (contained.0 c)
          there contained deletes (inr h) = inr (h.0, λ named. h.1 (elim named [ inl c ↦ inl (contained.1 c) | inr d ↦ inr (deletes.1 d) ]))

          back : (Inside ↔ IsContained v rest name key) → (Gone ↔ IsDeleted v rest name key) → IsKeyAfter v rest before name key → Inside ⊎ (Contains before key × ¬ (Inside ⊎ Gone))
          back contained deletes (inl c) = inl (contained.1 c)
          back contained deletes (inr h) = inr (h.0, λ some. h.1 (elim some [ inl c ↦ inl (contained.0 c) | inr d ↦ inr (deletes.0 d) ]))

      pub key_counts_decide : (base : Base) → Decides (are_key_counts v base tables deleted) (AreKeyCounts v rest base)
      key_counts_decide base =
          zip_decides (λ count name. count.count == distinct_count bytes_eq (keys_after_files v (keys_in base name) tables deleted name))
          (λ count name. IsNumberOf (IsKeyAfter v rest (keys_in base name) name) count.count)
          (λ count name. number_decides (IsKeyAfter v rest (keys_in base name) name) (keys_after_files v (keys_in base name) tables deleted name) count.count (after_is (keys_in base name) name)) v.count counted_tables

      -- where the deleted keys are read
      pub read_chain_decides : HasDeletes v rest → (base : Option Base) → Decides (chain_counts v base tables (Some deleted)) (IfSome base (λ b. HasDeletes v rest → AreKeyCounts v rest b))
      read_chain_decides has None = (λ _. tt, λ _. refl)
      read_chain_decides has (Some base) = (λ e _. (key_counts_decide base).0 e, λ f. (key_counts_decide base).1 (f has))

    pub deletes_there : is_some (deleted_keys_at (deletes_of v) (deletes_files v files)) ≡ true → HasDeletes v rest
    deletes_there e = (deletes_decide reader v rest files are).0 (sym (each_some key_rows_at (deletes_of v) (deletes_files v files)) ∙ e)

    pub deletes_some : HasDeletes v rest → is_some (deleted_keys_at (deletes_of v) (deletes_files v files)) ≡ true
    deletes_some has = each_some key_rows_at (deletes_of v) (deletes_files v files) ∙ (deletes_decide reader v rest files are).1 has

    pub chain_decides : (k : Known) → HasFiles v rest (λ fs. AllZip IsTableFile v.contents (contents_files v fs))
        → Decides (chain_counts v k.base (unwrap_or (tables_at v.contents (contents_files v files)) []) (deleted_keys_at (deletes_of v) (deletes_files v files))) (AreChainCounts v rest k)
    chain_decides k all =
        let there = some_of (tables_at v.contents (contents_files v files)) ((table_decides reader v rest files are).1 all) in
        Decides-at _ _ (ap (λ o. chain_counts v k.base (unwrap_or o []) (deleted_keys_at (deletes_of v) (deletes_files v files))) there.1)
        (by there.0 there.1 k.base (deleted_keys_at (deletes_of v) (deletes_files v files)) refl)
      where
        by : (tables : List Rows) → tables_at v.contents (contents_files v files) ≡ Some tables → (base : Option Base) (o : Option (List Rows)) → deleted_keys_at (deletes_of v) (deletes_files v files) ≡ o
            → Decides (chain_counts v base tables o) (IfSome base (λ b. HasDeletes v rest → AreKeyCounts v rest b))
        by tables whole None o is = (λ _. tt, λ _. refl)
        by tables whole (Some base) None is = (λ _ has. let clash : true ≡ false = sym (deletes_some has) ∙ ap is_some is in cc clash, λ _. refl)
        by tables whole (Some base) (Some deleted) is = read_chain_decides tables deleted whole is (deletes_there (ap is_some is)) (Some base)

-- ---- the last checks of a deposit, from what was read of it

module _ (reader : IsTableReader) (v : Env) (rest : List ℕ) (k : Known) (tables : List Rows) (deleted : List (List (List ℕ))) (menu : HasMenu v) (from : AreReadFrom v rest tables deleted) where
  read_keys : AllZip IsKeyFile (deletes_of v) (deletes_files v from.files)
  read_keys =
      zip_from IsKeyFile (deletes_of v) (deletes_files v from.files) no_entry [] (sym (files_parted v rest from.files from.are).2)
      (λ i inside. (key_rows (get_or deleted i []), from.deleted_read.each i no_entry inside))

  pub was_read : AreRead v rest from.files tables
  was_read = record { menu = menu; are = from.are; read = from.tables_read }

  chain_is : (base : Option Base) → k.base ≡ base → Decides (chain_counts v base tables (Some (map key_rows deleted))) (AreChainCounts v rest k)
  chain_is base same =
      subst (λ (b : Option Base). Decides (chain_counts v base tables (Some (map key_rows deleted))) (IfSome b (λ b. HasDeletes v rest → AreKeyCounts v rest b))) (sym same)
      (read_chain_decides reader v rest from.files menu from.are tables (map key_rows deleted) (tables_are reader v rest from.files tables from.are from.tables_read) (deleted_are reader v rest from.files deleted from.are from.deleted_read)
      (from.files, from.are, read_keys) base)

  pub counts_wrong : (base : Option Base) → k.base ≡ base → (is_full v.kind || chain_counts v base tables (Some (map key_rows deleted))) ≡ false → PassesBelow (CheckSays v rest k) 9 → IsLeast (CheckSays v rest k) (Fail check.Counts)
  counts_wrong base same wrong below =
      let parts = false_parts _ _ wrong in
      chain_fails v rest k from.files tables was_read (not_from_Decides _ (same_kind_decides v.kind Full) parts.0) (not_from_Decides _ (chain_is base same) parts.1) below

  pub counts_right : (base : Option Base) → k.base ≡ base → (is_full v.kind || chain_counts v base tables (Some (map key_rows deleted))) ≡ true → TablesSay v tables None → PassesBelow (CheckSays v rest k) 9 → IsLeast (CheckSays v rest k) Pass
  counts_right base same right says below =
      deletes_hold v rest k from.files tables was_read says
      (λ partial. (chain_is base same).0 (sym (ap (λ b. b || chain_counts v base tables (Some (map key_rows deleted))) (false_from _ (same_kind_decides v.kind Full) partial)) ∙ right))
      read_keys below
