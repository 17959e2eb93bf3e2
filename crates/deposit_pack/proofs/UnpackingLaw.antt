-- What is packed is unpacked as the rows that were packed.
use Rattle.std.proofs.Common.{◌≡◌, ◌++◌, ◌∷◌, ◌∙◌, [], List, ℕ, ap, arith, length, map, refl, subst}
use Rattle.std.proofs.lemmas.List.{length-map, map-append}
use Rattle.envelope.specs.Envelope.{Env, env_text}
use Rattle.envelope.specs.declared.envelope.FileEntry.{FileEntry}
use Rattle.deposit_verify.specs.Deposit.{AreFiles, IsDeposit, all_entries, deletes_of}
use Rattle.deposit_verify.specs.declared.base.Base.{Base}
use Rattle.deposit_verify.specs.inside.Reading.{OneReading}
use Rattle.deposit_verify.proofs.Lifted.{one_envelope}
use Rattle.deposit_verify.proofs.Uniques.{same_files}
use Rattle.deposit_pack.specs.Packable.{IsPackable}
use Rattle.deposit_pack.specs.Packing.{NamedRows, Objects, file_of, files_text_of, table_names, packed, packed_env}
use Rattle.deposit_pack.specs.Unpacking.{AreFilesOfRows, IsUnpacked, IsUnpackingLaw, MayUnpack, file_names, file_texts}
use Rattle.deposit_pack.specs.declared.source.Attributes.{Attributes}
use Rattle.deposit_pack.specs.declared.source.TableFile.{TableFile}
use Rattle.deposit_pack.specs.declared.unpacking.Unpacked.{Unpacked}
use Rattle.deposit_pack.proofs.PackedFiles.{are_packed_files, names_kept, packed_files, packed_is_deposit}
use Rattle.deposit_pack.proofs.PackedMenu.{deletes_named, packed_menu}

-- ---- what is unpacked

-- of this envelope and of these bytes
record IsFrom (v : Env) (rest : List ℕ) (unpacked : Unpacked) : Type 0 where
  text : unpacked.envelope.now ≡ env_text v
  files : AreFiles (all_entries v) rest (file_texts unpacked.contents.items ++ file_texts unpacked.deletes.items)
  contents_named : file_names unpacked.contents.items ≡ map (λ (entry : FileEntry). entry.name) v.contents
  deletes_named : file_names unpacked.deletes.items ≡ map (λ (entry : FileEntry). entry.name) (deletes_of v)

-- a deposit is unpacked from its envelope, and from the bytes behind it
unpacked_from : OneReading → (joined : List ℕ) (v : Env) (rest : List ℕ) (unpacked : Unpacked) → IsDeposit joined v rest → IsUnpacked joined unpacked → IsFrom v rest unpacked
unpacked_from one joined v rest unpacked deposit is =
    let same = one_envelope one joined v is.envelope rest is.rest deposit is.deposit in
    let here : IsFrom is.envelope is.rest unpacked = record { text = is.text; files = is.files; contents_named = is.contents_named; deletes_named = is.deletes_named } in
    subst (λ (more : List ℕ). IsFrom v more unpacked) same.1 (subst (λ (w : Env). IsFrom w is.rest unpacked) same.0 here)

-- ---- lists in two parts

-- the same whole, parted at the same place
same_parts : {X : Type 0} (xs ys us vs : List X) → length xs ≡ length us → xs ++ ys ≡ us ++ vs → (xs ≡ us) × (ys ≡ vs)
same_parts [] ys [] vs long same = (refl, same)
same_parts [] ys (u ∷ us) vs long same = absurd (omega arith)
same_parts (x ∷ xs) ys [] vs long same = absurd (omega arith)
same_parts (x ∷ xs) ys (u ∷ us) vs long same =
    let head : x ≡ u = cc same in
    let tail : xs ++ ys ≡ us ++ vs = cc same in
    let rest = same_parts xs ys us vs (omega arith) tail in
    (λ k. head k ∷ rest.0 k, rest.1)

-- files that have the names of rows are as many
as_many : (files : List TableFile) (rows : List NamedRows) → file_names files ≡ table_names rows → length (file_texts files) ≡ length (map file_of rows)
as_many files rows named =
    omega (arith, ap length named, length-map files (λ (f : TableFile). f.name), length-map files (λ (f : TableFile). f.text.now), length-map rows (λ (f : NamedRows). f.name), length-map rows file_of)

-- ---- the law

module _ (a : Attributes) (o : Objects) (before : Base) (packable : IsPackable a o before) where
  may_unpack : MayUnpack (packed a o before)
  may_unpack = (packed_env a o before, files_text_of o, packed_is_deposit a o before packable, (packed_menu a o before packable, (packed_files o, are_packed_files a o before packable, tt)))

  from_packed : OneReading → (unpacked : Unpacked) → IsUnpacked (packed a o before) unpacked → IsFrom (packed_env a o before) (files_text_of o) unpacked
  from_packed one unpacked is = unpacked_from one (packed a o before) (packed_env a o before) (files_text_of o) unpacked (packed_is_deposit a o before packable) is

  same_rows : (unpacked : Unpacked) → IsFrom (packed_env a o before) (files_text_of o) unpacked → AreFilesOfRows o.contents unpacked.contents.items × AreFilesOfRows o.deletes unpacked.deletes.items
  same_rows unpacked from =
      let contained : file_names unpacked.contents.items ≡ table_names o.contents = from.contents_named ∙ names_kept o.contents in
      let deleted : file_names unpacked.deletes.items ≡ table_names o.deletes = from.deletes_named ∙ deletes_named a o before packable in
      let all = same_files (all_entries (packed_env a o before)) (files_text_of o) _ _ from.files (are_packed_files a o before packable) ∙ map-append file_of o.contents o.deletes in
      let parts = same_parts (file_texts unpacked.contents.items) (file_texts unpacked.deletes.items) (map file_of o.contents) (map file_of o.deletes) (as_many unpacked.contents.items o.contents contained) all in
      ((contained, parts.0), (deleted, parts.1))

pub unpacking_law : OneReading → IsUnpackingLaw
unpacking_law one = record {
  may = may_unpack;
  text = λ a o before unpacked packable is. (from_packed a o before packable one unpacked is).text;
  contents = λ a o before unpacked packable is. (same_rows a o before packable unpacked (from_packed a o before packable one unpacked is)).0;
  deletes = λ a o before unpacked packable is. (same_rows a o before packable unpacked (from_packed a o before packable one unpacked is)).1;
}
