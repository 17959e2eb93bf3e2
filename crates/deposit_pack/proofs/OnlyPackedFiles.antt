-- The files of a deposit of some objects are their rows in their one spelling, under their entries.
use Rattle.std.proofs.Common.{◌≡◌, ◌++◌, ◌∷◌, ◌∙◌, [], ℕ, All, List, ap, drop, length, map, refl, subst, sym, take}
use Rattle.std.specs.List.{AllZip, concat}
use Rattle.std.proofs.lemmas.List.{map-append, take-append-drop}
use Rattle.std.proofs.lemmas.List.Elements.{All-cons, All-nil}
use Rattle.std.proofs.lemmas.Slice.Zip.{AllZip-map}
use Rattle.deposit_name.specs.declared.table.TableName.{TableName}
use Rattle.envelope.specs.Envelope.{Env}
use Rattle.envelope.specs.declared.envelope.FileEntry.{FileEntry}
use Rattle.deposit_verify.specs.Deposit.{AreFiles, IsFileOf, IsKeyFileOf, IsTableOf, all_entries, contents_files, deletes_files, deletes_of}
use Rattle.deposit_pack.specs.Packable.{AreKeyRows, AreTableRows, HaveObjects}
use Rattle.deposit_pack.specs.Packing.{NamedRows, Objects, packed_entry, file_of, files_text_of, table_names}

-- ---- two lists, place by place

-- a weaker fact of each two
zip_weaker : {A B : Type 0} (R S : A → B → Type 0) → ((x : A) (y : B) → R x y → S x y) → (xs : List A) (ys : List B) → AllZip R xs ys → AllZip S xs ys
zip_weaker R S f [] [] all = tt
zip_weaker R S f (x ∷ xs) (y ∷ ys) all = (f x y all.0, zip_weaker R S f xs ys all.1)
zip_weaker R S f _ _ all = absurd all

-- a fact of the first alone
zip_first : {A B : Type 0} (P : A → Type 0) (xs : List A) (ys : List B) → AllZip (λ x y. P x) xs ys → All P xs
zip_first P [] [] all = All-nil P
zip_first P (x ∷ xs) (y ∷ ys) all = All-cons P x xs all.0 (zip_first P xs ys all.1)
zip_first P _ _ all = absurd all

-- of two lists behind each other, the first and the second
zip_take : {A B : Type 0} (R : A → B → Type 0) (xs more : List A) (ys : List B) → AllZip R (xs ++ more) ys → AllZip R xs (take (length xs) ys)
zip_take R [] more ys all = tt
zip_take R (x ∷ xs) more [] all = absurd all
zip_take R (x ∷ xs) more (y ∷ ys) all = (all.0, zip_take R xs more ys all.1)

zip_drop : {A B : Type 0} (R : A → B → Type 0) (xs more : List A) (ys : List B) → AllZip R (xs ++ more) ys → AllZip R more (drop (length xs) ys)
zip_drop R [] more ys all = all
zip_drop R (x ∷ xs) more [] all = absurd all
zip_drop R (x ∷ xs) more (y ∷ ys) all = zip_drop R xs more ys all.1

-- ---- one list of files

-- entries with the names of files, and their lengths and digests, are theirs
entries_are : (entries : List FileEntry) (fs : List NamedRows) → map (λ entry. entry.name) entries ≡ table_names fs → AllZip IsFileOf entries (map file_of fs) → entries ≡ map packed_entry fs
entries_are [] [] named all = refl
entries_are (e ∷ es) (f ∷ fs) named all =
    let name : e.name ≡ f.name = cc named in
    let names : map (λ (entry : FileEntry). entry.name) es ≡ table_names fs = cc named in
    let first : e ≡ packed_entry f = λ i. record { length = sym all.0.length_right i; name = name i; sha256 = sym all.0.digest_right i } in
    let rest = entries_are es fs names all.1 in
    λ i. first i ∷ rest i
entries_are _ _ named all = absurd all

-- files that are rows by some rule, whose text is then the one spelling of them
module _ (Reads : TableName → List ℕ → List (List (List ℕ)) → Type 0) (spelled : (name : TableName) (file : List ℕ) (rows : List (List (List ℕ))) → Reads name file rows → file ≡ file_of (record { name = name; rows = rows })) where
  texts_are : (fs : List NamedRows) (files : List (List ℕ)) → AllZip (λ f file. Reads f.name file f.rows) fs files → files ≡ map file_of fs
  texts_are fs files all =
      AllZip-map file_of fs files
      (zip_weaker (λ (f : NamedRows) (file : List ℕ). Reads f.name file f.rows) (λ (f : NamedRows) (file : List ℕ). file ≡ file_of f) (λ f file. spelled f.name file f.rows) fs files all)

  rows_read : (fs : List NamedRows) (files : List (List ℕ)) → AllZip (λ f file. Reads f.name file f.rows) fs files → All (λ f. Reads f.name (file_of f) f.rows) fs
  rows_read fs files all =
      zip_first (λ (f : NamedRows). Reads f.name (file_of f) f.rows) fs files
      (zip_weaker (λ (f : NamedRows) (file : List ℕ). Reads f.name file f.rows) (λ (f : NamedRows) (file : List ℕ). Reads f.name (file_of f) f.rows)
      (λ f file is. subst (λ (t : List ℕ). Reads f.name t f.rows) (spelled f.name file f.rows is) is) fs files all)

-- ---- both

module _ (o : Objects) (v : Env) (rest : List ℕ) (files : List (List ℕ)) (are : AreFiles (all_entries v) rest files) (have : HaveObjects o v files) where
  -- the files
  pub contents_texts : contents_files v files ≡ map file_of o.contents
  contents_texts = texts_are IsTableOf (λ name file rows is. is.text.text) o.contents (contents_files v files) have.tables

  pub deletes_texts : deletes_files v files ≡ map file_of o.deletes
  deletes_texts = texts_are IsKeyFileOf (λ name file rows is. is.text.text) o.deletes (deletes_files v files) have.keys

  -- the rows are in form
  pub tables_right : All AreTableRows o.contents
  tables_right = rows_read IsTableOf (λ name file rows is. is.text.text) o.contents (contents_files v files) have.tables

  pub keys_right : All AreKeyRows o.deletes
  keys_right = rows_read IsKeyFileOf (λ name file rows is. is.text.text) o.deletes (deletes_files v files) have.keys

  -- the entries
  pub contents_entries : v.contents ≡ map packed_entry o.contents
  contents_entries =
      entries_are v.contents o.contents have.contents_named
      (subst (AllZip IsFileOf v.contents) contents_texts (zip_take IsFileOf v.contents (deletes_of v) files are.each))

  pub deletes_entries : deletes_of v ≡ map packed_entry o.deletes
  deletes_entries =
      entries_are (deletes_of v) o.deletes have.deletes_named
      (subst (AllZip IsFileOf (deletes_of v)) deletes_texts (zip_drop IsFileOf v.contents (deletes_of v) files are.each))

  -- all bytes
  all_texts : files ≡ map file_of (o.contents ++ o.deletes)
  all_texts =
      sym (take-append-drop (length v.contents) files)
      ∙ (λ i. contents_texts i ++ deletes_texts i)
      ∙ sym (map-append file_of o.contents o.deletes)

  pub rest_spelled : rest ≡ files_text_of o
  rest_spelled = are.joined ∙ ap concat all_texts
