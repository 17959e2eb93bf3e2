-- A packed deposit of what has changed has the rows and the keys of the changes.
use Rattle.std.proofs.Common.{◌≡◌, ◌↔◌, ◌∷◌, ◌∙◌, [], ℕ, Contains, IsTrue, List, Some, ap, map, refl, subst, sym}
use Rattle.deposit_name.specs.Tables.{has_deletes}
use Rattle.deposit_name.specs.declared.table.TableName.{TableName}
use Rattle.dnrd_csv.specs.Readers.{IsTableReader}
use Rattle.envelope.specs.Envelope.{Env}
use Rattle.envelope.specs.declared.envelope.FileEntry.{FileEntry}
use Rattle.deposit_verify.specs.Deposit.{contents_files, deletes_files, deletes_of}
use Rattle.deposit_verify.specs.Keys.{IsDeleted}
use Rattle.deposit_verify.specs.References.{column}
use Rattle.deposit_verify.specs.Rows.{rows_under}
use Rattle.deposit_verify.specs.Verdict.{deleted_keys_at, tables_at}
use Rattle.deposit_verify.specs.declared.base.Base.{Base}
use Rattle.deposit_verify.specs.inside.Reading.{OneReading}
use Rattle.deposit_verify.proofs.CountsDecided.{deleted_is}
use Rattle.deposit_verify.proofs.Lifted.{in_envelope}
use Rattle.deposit_pack.specs.Packable.{IsPackable}
use Rattle.deposit_pack.specs.Packing.{Objects, contents_rows, files_text_of, packed, packed_entry, packed_env, rows_of}
use Rattle.deposit_pack.specs.declared.source.Attributes.{Attributes}
use Rattle.deposit_pack.proofs.OnlyPackedNumbers.{keys_read, tables_read}
use Rattle.deposit_pack.proofs.PackedFiles.{are_packed_files, contents_files_are, deletes_are, deletes_files_are, packed_files, packed_is_deposit}
use Rattle.deposit_pack.proofs.PackedMenu.{packed_menu}
use Rattle.deposit_tables.specs.Changes.{AreChanges, AreChangesRestored, deletes_rows}
use Rattle.deposit_tables.specs.Owners.{owner_key}
use Rattle.deposit_tables.specs.Restored.{DepositHasRow}
use Rattle.deposit_tables.specs.Unchanged.{IsGoneKey}
use Rattle.deposit_tables.proofs.Brought.{DepositDeletes, HasChanges, brought}
use Rattle.deposit_tables.proofs.ChainRows.{key_of_row, row_of_key}
use Rattle.deposit_tables.proofs.Decisions.{Rows, Tables}
use Rattle.deposit_tables.proofs.RowReadings.{deposit_row}

module _ (reader : IsTableReader) (one : OneReading) (a : Attributes) (o : Objects) (before : Base) (packable : IsPackable a o before) where
  abbrev v : Env
  v = packed_env a o before

  contents_read : tables_at v.contents (contents_files v (packed_files o)) ≡ Some (rows_of o.contents)
  contents_read = ap (tables_at (map packed_entry o.contents)) (contents_files_are a o before packable) ∙ tables_read reader o.contents packable.tables

  deletes_read : deleted_keys_at (deletes_of v) (deletes_files v (packed_files o)) ≡ Some (rows_of o.deletes)
  deletes_read =
      ap (λ (es : List FileEntry). deleted_keys_at es (deletes_files v (packed_files o))) (deletes_are a o before packable)
      ∙ ap (deleted_keys_at (map packed_entry o.deletes)) (deletes_files_are a o before packable) ∙ keys_read reader o.deletes packable.keys

  -- it has the rows of its objects
  pub packed_row : (name : TableName) (row : List (List ℕ)) → DepositHasRow (packed a o before) name row ↔ Contains (contents_rows o name) row
  packed_row name row =
      deposit_row reader name row one (packed a o before) v (files_text_of o) (packed_is_deposit a o before packable) (packed_menu a o before packable) (packed_files o)
      (are_packed_files a o before packable) (rows_of o.contents) contents_read

  -- and deletes their keys
  packed_deleted : (name : TableName) (key : List ℕ) → DepositDeletes (packed a o before) name key ↔ Contains (column 0 (deletes_rows o name)) key
  packed_deleted name key =
      let here = in_envelope one (packed a o before) v (files_text_of o) (packed_is_deposit a o before packable) (λ w rest. IsDeleted w rest name key) in
      let found = deleted_is reader v (files_text_of o) (packed_files o) (packed_menu a o before packable) (are_packed_files a o before packable) (rows_of o.deletes) deletes_read name key in
      let same : rows_under (deletes_of v) (rows_of o.deletes) name ≡ deletes_rows o name = ap (λ (es : List FileEntry). rows_under es (rows_of o.deletes) name) (deletes_are a o before packable) in (
        λ deletes. subst (λ (rows : Rows). Contains (column 0 rows) key) same (found.1 (here.0 deletes)),
        λ has. here.1 (found.0 (subst (λ (rows : Rows). Contains (column 0 rows) key) (sym same) has)),
      )

  module _ (olds : List Tables) (new : Tables) (are : AreChanges olds new o) where
    gone_there : (name : TableName) (key : List ℕ) → IsTrue (has_deletes name) → Contains (column 0 (deletes_rows o name)) key → IsGoneKey olds new name (key ∷ [])
    gone_there name key keyed has =
        let found = row_of_key (deletes_rows o name) key has in
        let gone = ((are.deletes name keyed).same found.0).0 found.1 in
        let same : gone.0 ≡ key = sym (ap owner_key gone.1) ∙ found.2 in
        subst (λ (k : List ℕ). IsGoneKey olds new name (k ∷ [])) same (gone.0, refl, gone.2, gone.3)

    gone_back : (name : TableName) (key : List ℕ) → IsTrue (has_deletes name) → IsGoneKey olds new name (key ∷ []) → Contains (column 0 (deletes_rows o name)) key
    gone_back name key keyed gone = key_of_row (deletes_rows o name) (key ∷ []) (((are.deletes name keyed).same (key ∷ [])).1 gone)

    pub has_changes : HasChanges olds new (packed a o before)
    has_changes = record {
      rows = λ name row.
          let here = packed_row name row in
          let there = (are.contents name).same row in
          (λ has. there.0 (here.0 has), λ changed. here.1 (there.1 changed));
      keys = λ name key keyed.
          let here = packed_deleted name key in
          (λ deletes. gone_there name key keyed (here.0 deletes), λ gone. here.1 (gone_back name key keyed gone));
    }

pub changes_restored : IsTableReader → OneReading → AreChangesRestored
changes_restored reader one chain olds old new a o before was among are packable =
    brought olds old new chain (packed a o before) was among (has_changes reader one a o before packable olds new are)
