-- Bytes that are cut into files.
use Rattle.std.proofs.Common.{◌≡◌, ◌≢◌, ◌<◌, ◌≤◌, ◌+◌, ◌++◌, ◌∷◌, ◌∙◌, [], List, ℕ, add-one, ap, append-nil, append_assoc, arith, drop, drop-cons, get_or, length, refl, suc, sym, take}
use Rattle.std.specs.List.{AllZip, concat}
use Rattle.std.proofs.lemmas.List.{take-append-drop, take_all, take_more}
use Rattle.std.proofs.Math.Seq.{drop-append_seam, take-append_seam}
use Rattle.std.proofs.lemmas.Slice.Zip.{all_zipped_more}
use Rattle.sha2.specs.Sha256.{sha256}
use Rattle.envelope.specs.declared.envelope.FileEntry.{FileEntry}
use Rattle.deposit_verify.specs.Deposit.{AreFiles, IsFileOf}
use Rattle.deposit_verify.proofs.Lists.{zip_at, zip_length}

pub concat-append : (xs ys : List (List ℕ)) → concat (xs ++ ys) ≡ concat xs ++ concat ys
concat-append [] ys = refl
concat-append (x ∷ xs) ys = ap (λ t. x ++ t) (concat-append xs ys) ∙ sym (append_assoc x (concat xs) (concat ys))

-- what is known while bytes are cut: the files so far, and what is left
pub record IsCut (entries : List FileEntry) (bytes : List ℕ) (i : ℕ) (files : List (List ℕ)) (rest : List ℕ) : Type 0 where
  pub joined : bytes ≡ concat files ++ rest
  pub each : AllZip IsFileOf (take i entries) files
  pub only : (all : List (List ℕ)) → AreFiles entries bytes all → (take i all ≡ files) × (rest ≡ concat (drop i all))

pub uncut : (entries : List FileEntry) (bytes : List ℕ) → IsCut entries bytes 0 [] bytes
uncut entries bytes = record {
  joined = refl;
  each = tt;
  only = λ all are. (refl, are.joined);
}

-- the file at a place, and those behind it
pub next_file : (entries : List FileEntry) (bytes : List ℕ) (i : ℕ) (e : FileEntry) (files : List (List ℕ)) (rest : List ℕ) → IsCut entries bytes i files rest → i < length entries
    → (all : List (List ℕ)) → AreFiles entries bytes all → (i < length all) × IsFileOf (get_or entries i e) (get_or all i []) × (rest ≡ get_or all i [] ++ concat (drop (suc i) all))
next_file entries bytes i e files rest cut inside all are =
    let within : i < length all = omega (arith, zip_length IsFileOf entries all are.each) in
    (within, zip_at IsFileOf entries all i e [] are.each inside, (cut.only all are).1 ∙ ap concat (drop-cons all i [] within))

-- where some files are those of the bytes, the next one is the front of what is left
pub same_file : (a t rest : List ℕ) (n : ℕ) → rest ≡ a ++ t → length a ≡ n → (take n rest ≡ a) × (drop n rest ≡ t)
same_file a t rest n is len = (
  ap (λ (m : ℕ). take m rest) (sym len) ∙ ap (take (length a)) is ∙ take-append_seam a t,
  ap (λ (m : ℕ). drop m rest) (sym len) ∙ ap (drop (length a)) is ∙ drop-append_seam a t,
)

pub other_digest : (entries : List FileEntry) (bytes : List ℕ) (i : ℕ) (e : FileEntry) (files : List (List ℕ)) (rest file : List ℕ) → IsCut entries bytes i files rest → i < length entries
    → file ≡ take (get_or entries i e).length rest → sha256 file ≢ (get_or entries i e).sha256 → (all : List (List ℕ)) → AreFiles entries bytes all → ⊥
other_digest entries bytes i e files rest file cut inside front differs all are =
    let next = next_file entries bytes i e files rest cut inside all are in
    let same = same_file (get_or all i []) (concat (drop (suc i) all)) rest (get_or entries i e).length next.2 next.1.length_right in
    differs (ap sha256 (front ∙ same.0) ∙ next.1.digest_right)

-- one file more
pub cut_more : (entries : List FileEntry) (bytes : List ℕ) (i : ℕ) (e : FileEntry) (files : List (List ℕ)) (rest file more : List ℕ) → IsCut entries bytes i files rest → i < length entries
    → file ≡ take (get_or entries i e).length rest → more ≡ drop (get_or entries i e).length rest → length file ≡ (get_or entries i e).length → sha256 file ≡ (get_or entries i e).sha256
    → IsCut entries bytes (i + 1) (files ++ file ∷ []) more
cut_more entries bytes i e files rest file more cut inside front back len digest =
    let entry = get_or entries i e in
    let whole : rest ≡ file ++ more = sym (take-append-drop entry.length rest) ∙ ap (λ t. t ++ drop entry.length rest) (sym front) ∙ ap (λ t. file ++ t) (sym back) in
    record {
      joined = cut.joined ∙ ap (λ t. concat files ++ t) whole ∙ sym (append_assoc (concat files) file more)
          ∙ ap (λ t. t ++ more) (ap (λ t. concat files ++ t) (sym (append-nil file)) ∙ sym (concat-append files (file ∷ [])));
      each = rw (take_more entries i e inside) (all_zipped_more IsFileOf (take i entries) files entry file cut.each (record { length_right = len; digest_right = digest }));
      only = λ all are.
          let next = next_file entries bytes i e files rest cut inside all are in
          let same = same_file (get_or all i []) (concat (drop (suc i) all)) rest entry.length next.2 next.1.length_right in (
            take_more all i [] next.0 ∙ ap (λ t. t ++ get_or all i [] ∷ []) (cut.only all are).0 ∙ ap (λ (f : List ℕ). files ++ f ∷ []) (sym (front ∙ same.0)),
            rw add-one (back ∙ same.1),
          );
    }

pub cut_whole : (entries : List FileEntry) (bytes : List ℕ) (i : ℕ) (files : List (List ℕ)) (rest : List ℕ) → IsCut entries bytes i files rest → length entries ≤ i → rest ≡ [] → AreFiles entries bytes files
cut_whole entries bytes i files rest cut past none = record {
  joined = cut.joined ∙ ap (λ t. concat files ++ t) none ∙ append-nil (concat files);
  each = rw (take_all i entries past) at cut.each;
}

-- no bytes are cut in two ways
pub one_cut : (entries : List FileEntry) (bytes : List ℕ) (files : List (List ℕ)) → IsCut entries bytes (length entries) files [] → (all : List (List ℕ)) → AreFiles entries bytes all → all ≡ files
one_cut entries bytes files cut all are = sym (take_all (length entries) all (omega (arith, zip_length IsFileOf entries all are.each))) ∙ (cut.only all are).0
