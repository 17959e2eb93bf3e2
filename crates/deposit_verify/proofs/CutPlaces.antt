-- Where the files of cut bytes stand.
use Rattle.std.proofs.Common.{◌-◌, ◌≡◌, ◌≢◌, ◌<◌, ◌≤◌, ◌+◌, ◌*◌, ◌^◌, ◌∷◌, ◌∙◌, [], All, List, ℕ, Option, None, Some, ap, arith, drop, get_or, length, length-append, refl, sym, take}
use Rattle.std.specs.Prelude.{option_map, unwrap_or}
use Rattle.std.specs.List.{AllZip, concat}
use Rattle.std.proofs.lemmas.List.{take_all}
use Rattle.std.proofs.lemmas.List.Sums.{sum_by-append, sum_by-cons, sum_by-le, sum_by_more, sum_by_more_le}
use Rattle.std.proofs.lemmas.Option.{slice_get-get_or}
use Rattle.std.proofs.Math.Seq.{drop-append_seam}
use Rattle.sha2.specs.Sha256.{sha256}
use Rattle.deposit_name.specs.declared.kinds.Kind.{Kind}
use Rattle.deposit_name.specs.declared.kinds.Kind.TheVariants.{Full}
use Rattle.envelope.specs.Envelope.{Env, FitsKind, IsEnvelope, IsFile, file_length_max}
use Rattle.envelope.specs.declared.envelope.FileEntry.{FileEntry}
use Rattle.deposit_verify.specs.Deposit.{AreFiles, IsFileOf, all_entries, deletes_of}
use Rattle.deposit_verify.specs.FilesReasons.{HasOwnDigest, IsOtherDigest, cut_file, total_length}
use Rattle.deposit_verify.proofs.CutLemmas.{IsCut, cut_whole}
use Rattle.deposit_verify.proofs.Lists.{none_from_length}

-- files have the lengths of their entries
pub joined_length : (entries : List FileEntry) (files : List (List ℕ)) → AllZip IsFileOf entries files → length (concat files) ≡ total_length entries
joined_length [] [] each = refl
joined_length (entry ∷ entries) (file ∷ files) each =
    omega (arith, length-append file (concat files), each.0.length_right, joined_length entries files each.1, sum_by-cons (λ (f : FileEntry). f.length) entry entries)
joined_length _ _ each = absurd each

pub other_length : (entries : List FileEntry) (bytes : List ℕ) → total_length entries ≢ length bytes → (files : List (List ℕ)) → AreFiles entries bytes files → ⊥
other_length entries bytes differs files are = differs (sym (joined_length entries files are.each) ∙ ap length (sym are.joined))

-- the files of an envelope are few and small
few_small : (entries : List FileEntry) (n : ℕ) → length entries ≤ n → All IsFile entries → total_length entries ≤ n * file_length_max
few_small entries n few small = omega (arith, few, sum_by-le (λ (f : FileEntry). f.length) file_length_max entries (λ i d inside. (small i d inside).small))

few_deletes : (kind : Kind) (deletes : Option (List FileEntry)) → FitsKind kind deletes → total_length (unwrap_or deletes []) ≤ 4 * file_length_max
few_deletes Full (Some ds) fits = absurd fits
few_deletes _ (Some ds) fits = few_small ds 4 fits.few fits.files
few_deletes kind None fits = omega arith

pub total_fits : (v : Env) → IsEnvelope v → total_length (all_entries v) < 2 ^ 64
total_fits v form =
    omega (arith, sum_by-append (λ (f : FileEntry). f.length) v.contents (deletes_of v), few_small v.contents 8 form.contents_few form.contents, few_deletes v.kind v.deletes form.deletes)

-- what is left is what stands behind the files so far
left_behind : (entries : List FileEntry) (bytes : List ℕ) (i : ℕ) (files : List (List ℕ)) (rest : List ℕ) → IsCut entries bytes i files rest → rest ≡ drop (total_length (take i entries)) bytes
left_behind entries bytes i files rest cut =
    sym (ap (λ (n : ℕ). drop n bytes) (sym (joined_length (take i entries) files cut.each)) ∙ ap (drop (length (concat files))) cut.joined ∙ drop-append_seam (concat files) rest)

-- how much is left
left_length : (entries : List FileEntry) (bytes : List ℕ) (i : ℕ) (files : List (List ℕ)) (rest : List ℕ) → IsCut entries bytes i files rest → total_length (take i entries) + length rest ≡ length bytes
left_length entries bytes i files rest cut =
    omega (arith, joined_length (take i entries) files cut.each, ap length cut.joined, length-append (concat files) rest)

-- the next file is there
pub next_fits : (entries : List FileEntry) (bytes : List ℕ) (i : ℕ) (e : FileEntry) (files : List (List ℕ)) (rest : List ℕ) → IsCut entries bytes i files rest → total_length entries ≡ length bytes
    → i < length entries → (get_or entries i e).length ≤ length rest
next_fits entries bytes i e files rest cut whole inside =
    omega (arith, whole, left_length entries bytes i files rest cut, sum_by_more_le (λ (f : FileEntry). f.length) entries i e inside)

-- and behind the last there is nothing
pub none_left : (entries : List FileEntry) (bytes : List ℕ) (i : ℕ) (files : List (List ℕ)) (rest : List ℕ) → IsCut entries bytes i files rest → total_length entries ≡ length bytes
    → length entries ≤ i → AreFiles entries bytes files
none_left entries bytes i files rest cut whole past =
    cut_whole entries bytes i files rest cut past (none_from_length rest (omega (arith, whole, left_length entries bytes i files rest cut, ap total_length (take_all i entries past))))

-- it is the file at its place
pub file_is : (entries : List FileEntry) (bytes : List ℕ) (i : ℕ) (e : FileEntry) (files : List (List ℕ)) (rest file : List ℕ) → IsCut entries bytes i files rest → i < length entries
    → file ≡ take (get_or entries i e).length rest → file ≡ cut_file entries bytes i
file_is entries bytes i e files rest file cut inside front =
    let more = sum_by_more (λ (f : FileEntry). f.length) entries i e inside in
    let len : (get_or entries i e).length ≡ total_length (take (i + 1) entries) - total_length (take i entries) = omega (arith, more) in
    front ∙ ap (λ (n : ℕ). take n rest) len ∙ ap (take (total_length (take (i + 1) entries) - total_length (take i entries))) (left_behind entries bytes i files rest cut)

pub digest_is : (entries : List FileEntry) (bytes : List ℕ) (i : ℕ) (e : FileEntry) (files : List (List ℕ)) (rest file : List ℕ) → IsCut entries bytes i files rest → i < length entries
    → file ≡ take (get_or entries i e).length rest → sha256 file ≡ (get_or entries i e).sha256 → HasOwnDigest entries bytes i
digest_is entries bytes i e files rest file cut inside front digest =
    ap (option_map (λ (f : FileEntry). f.sha256)) (slice_get-get_or entries i e inside) ∙ ap Some (sym digest ∙ ap sha256 (file_is entries bytes i e files rest file cut inside front))

pub first_other : (entries : List FileEntry) (bytes : List ℕ) (i : ℕ) (e : FileEntry) (files : List (List ℕ)) (rest file : List ℕ) → IsCut entries bytes i files rest → i < length entries
    → file ≡ take (get_or entries i e).length rest → sha256 file ≢ (get_or entries i e).sha256 → ((k : ℕ) → k < i → HasOwnDigest entries bytes k)
    → IsOtherDigest entries bytes i (get_or entries i e) (sha256 file)
first_other entries bytes i e files rest file cut inside front differs before = record {
  there = slice_get-get_or entries i e inside;
  digest = ap sha256 (file_is entries bytes i e files rest file cut inside front);
  other = differs;
  before = before;
}
