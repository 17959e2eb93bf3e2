-- What is packed is a deposit of its objects.
use Rattle.std.specs.Prelude.{unwrap_or}
use Rattle.std.proofs.Common.{◌≡◌, ◌++◌, ◌∷◌, ◌∙◌, [], ℕ, All, List, ap, arith, drop, length, map, refl, subst, sym, take}
use Rattle.std.specs.List.{AllZip}
use Rattle.std.proofs.lemmas.List.{map-append}
use Rattle.std.proofs.lemmas.List.Elements.{All-head, All-tail}
use Rattle.deposit_name.specs.declared.kinds.Kind.{Kind}
use Rattle.deposit_name.specs.declared.kinds.Kind.TheVariants.{Full}
use Rattle.deposit_name.specs.declared.table.TableName.{TableName}
use Rattle.envelope.specs.Envelope.{Env, env_text}
use Rattle.envelope.specs.Frame.{IsFrame}
use Rattle.envelope.specs.declared.envelope.FileEntry.{FileEntry}
use Rattle.envelope.proofs.Lengths.{env_most}
use Rattle.deposit_verify.specs.Deposit.{AreFiles, IsDeposit, IsFileOf, IsKeyFileOf, IsTableOf, all_entries, contents_files, deletes_files, deletes_of}
use Rattle.deposit_verify.specs.declared.base.Base.{Base}
use Rattle.deposit_pack.specs.Packable.{HaveObjects, IsDepositOf, IsPackable, MayDelete}
use Rattle.deposit_pack.specs.Packing.{NamedRows, Objects, deletes_member, packed_entry, file_of, files_text_of, table_names, packed, packed_env}
use Rattle.deposit_pack.specs.declared.source.Attributes.{Attributes}
use Rattle.deposit_pack.proofs.PackedForm.{packed_in_form}

-- the entries of files have their names
pub names_kept : (fs : List NamedRows) → map (λ e. e.name) (map packed_entry fs) ≡ table_names fs
names_kept [] = refl
names_kept (f ∷ fs) = ap (λ (names : List TableName). f.name ∷ names) (names_kept fs)

-- a full deposit has no files of deleted keys, and lists none
none_named : (fs : List NamedRows) → table_names fs ≡ [] → fs ≡ []
none_named [] none = refl
none_named (f ∷ fs) none = cc none

member_is : (kind : Kind) (ds : List NamedRows) → MayDelete kind (table_names ds) → unwrap_or (deletes_member kind (map packed_entry ds)) [] ≡ map packed_entry ds
member_is Full ds may = ap (map packed_entry) (sym (none_named ds may))
member_is _ ds may = refl

-- each file is that of its entry
each_file : (fs : List NamedRows) → AllZip IsFileOf (map packed_entry fs) (map file_of fs)
each_file [] = tt
each_file (f ∷ fs) = (record { length_right = refl; digest_right = refl }, each_file fs)

-- the first files, and those behind them
first_files : (fs ds : List NamedRows) → take (length (map packed_entry fs)) (map file_of (fs ++ ds)) ≡ map file_of fs
first_files [] ds = refl
first_files (f ∷ fs) ds = ap (λ (files : List (List ℕ)). file_of f ∷ files) (first_files fs ds)

last_files : (fs ds : List NamedRows) → drop (length (map packed_entry fs)) (map file_of (fs ++ ds)) ≡ map file_of ds
last_files [] ds = refl
last_files (f ∷ fs) ds = last_files fs ds

-- what holds of each and of its file
pub zip_files : (R : NamedRows → List ℕ → Type 0) (fs : List NamedRows) → All (λ f. R f (file_of f)) fs → AllZip R fs (map file_of fs)
zip_files R [] all = tt
zip_files R (f ∷ fs) all = (All-head (λ (f : NamedRows). R f (file_of f)) f fs all, zip_files R fs (All-tail (λ (f : NamedRows). R f (file_of f)) f fs all))

pub zip_entries : (R : FileEntry → List ℕ → Type 0) (fs : List NamedRows) → All (λ f. R (packed_entry f) (file_of f)) fs → AllZip R (map packed_entry fs) (map file_of fs)
zip_entries R [] all = tt
zip_entries R (f ∷ fs) all = (All-head (λ (f : NamedRows). R (packed_entry f) (file_of f)) f fs all, zip_entries R fs (All-tail (λ (f : NamedRows). R (packed_entry f) (file_of f)) f fs all))

-- the files of a deposit of these objects
abbrev pub packed_files : Objects → List (List ℕ)
packed_files o = map file_of (o.contents ++ o.deletes)

module _ (a : Attributes) (o : Objects) (before : Base) (packable : IsPackable a o before) where
  -- its envelope
  abbrev v : Env
  v = packed_env a o before

  pub deletes_are : deletes_of v ≡ map packed_entry o.deletes
  deletes_are = member_is a.name.kind o.deletes packable.deletes

  pub contents_files_are : contents_files v (packed_files o) ≡ map file_of o.contents
  contents_files_are = first_files o.contents o.deletes

  pub deletes_files_are : deletes_files v (packed_files o) ≡ map file_of o.deletes
  deletes_files_are = last_files o.contents o.deletes

  -- the files, each that of its entry
  entries_are : all_entries v ≡ map packed_entry (o.contents ++ o.deletes)
  entries_are = ap (λ (es : List FileEntry). map packed_entry o.contents ++ es) deletes_are ∙ sym (map-append packed_entry o.contents o.deletes)

  pub are_packed_files : AreFiles (all_entries v) (files_text_of o) (packed_files o)
  are_packed_files = record {
    joined = refl;
    each = subst (λ (es : List FileEntry). AllZip IsFileOf es (packed_files o)) (sym entries_are) (each_file (o.contents ++ o.deletes));
  }

  pub packed_framed : IsFrame (packed a o before) (env_text v) (files_text_of o)
  unfolding packed
  packed_framed = (omega (arith, env_most v (packed_in_form a o before packable)), refl)

  pub packed_is_deposit : IsDeposit (packed a o before) v (files_text_of o)
  packed_is_deposit = record { in_form = packed_in_form a o before packable; framed = packed_framed }

  have_objects : HaveObjects o v (packed_files o)
  have_objects = record {
    contents_named = names_kept o.contents;
    deletes_named = ap (map (λ (e : FileEntry). e.name)) deletes_are ∙ names_kept o.deletes;
    tables =
        subst (λ (files : List (List ℕ)). AllZip (λ (f : NamedRows) file. IsTableOf f.name file f.rows) o.contents files) (sym contents_files_are)
        (zip_files (λ f file. IsTableOf f.name file f.rows) o.contents packable.tables);
    keys =
        subst (λ (files : List (List ℕ)). AllZip (λ (f : NamedRows) file. IsKeyFileOf f.name file f.rows) o.deletes files) (sym deletes_files_are)
        (zip_files (λ f file. IsKeyFileOf f.name file f.rows) o.deletes packable.keys);
  }

  pub packs : IsDepositOf a o (packed a o before)
  packs = record {
    envelope = v;
    rest = files_text_of o;
    deposit = packed_is_deposit;
    name = record { kind = refl; tld = refl; day = refl; resend = refl };
    id = refl;
    prev_id = refl;
    files = (packed_files o, are_packed_files, have_objects);
  }
