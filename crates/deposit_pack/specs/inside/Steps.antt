-- The steps of packing, for private clauses.
use Rattle.std.specs.Prelude.{◌≡◌, ◌≤◌, ◌++◌, [], All, length, map}
use Rattle.std.specs.Prelude.{IsTrue}
use Rattle.schedule.specs.Schedule.{is_sunday}
use Rattle.deposit_name.specs.Tables.{has_deletes}
use Rattle.deposit_name.specs.declared.kinds.Kind.TheVariants.{Full}
use Rattle.dnrd_csv.specs.Text.{key_rows}
use Rattle.envelope.specs.Envelope.{file_length_max}
use Rattle.deposit_verify.specs.declared.files_read.FilesRead.{FilesRead}
use Rattle.deposit_pack.specs.Packable.{AreKeyRows, AreTableRows, MayFollow}
use Rattle.deposit_pack.specs.Packing.{Objects, packed_entry, file_of, files_text_of, rows_of}
use Rattle.deposit_pack.specs.declared.source.Attributes.{Attributes}
use Rattle.deposit_pack.specs.declared.writing.WrittenFiles.{WrittenFiles}

-- the attributes may stand, and only keys that may be deleted are
pub record HasNoFault (a : Attributes) (o : Objects) : Type 0 where
  pub weekday : IsTrue (is_sunday a.name.day) → a.name.kind ≡ Full
  pub prev_id : MayFollow a.name.kind a.prev_id
  pub none_of_full : a.name.kind ≡ Full → o.deletes ≡ []
  pub deletes : All (λ f. IsTrue (has_deletes f.name)) o.deletes

-- the objects were read, and are in form
pub record AreRead (o : Objects) (files : FilesRead) : Type 0 where
  pub tables : files.tables.items ≡ rows_of o.contents
  pub deleted : map key_rows files.deleted.items ≡ rows_of o.deletes
  pub tables_right : All AreTableRows o.contents
  pub keys_right : All AreKeyRows o.deletes

-- their files were written
pub record AreWritten (o : Objects) (written : WrittenFiles) : Type 0 where
  pub bytes : written.bytes.items ≡ files_text_of o
  pub contents : written.contents.items ≡ map packed_entry o.contents
  pub deletes : written.deletes.items ≡ map packed_entry o.deletes
  pub lengths : All (λ f. length (file_of f) ≤ file_length_max) (o.contents ++ o.deletes)
