-- The first of files that is not what it has to be.
use Rattle.std.proofs.Common.{◌≡◌, ◌<◌, ◌∙◌, [], Bor, List, ℕ, Some, ap, arith, get_or, length, length-take, refl, subst, sym, take}
use Rattle.std.proofs.lemmas.List.{get_or-take, length-map}
use Rattle.std.proofs.lemmas.Option.{slice_get-get_or}
use Rattle.dnrd_csv.specs.inside.RowKeys.{borrowed_texts}
use Rattle.dnrd_csv.specs.declared.errors.TableError.{TableError}
use Rattle.deposit_name.specs.declared.table.TableName.{TableName}
use Rattle.envelope.specs.declared.envelope.FileEntry.{FileEntry}
use Rattle.deposit_verify.specs.FilesReasons.{IsFirstFault}
use Rattle.deposit_verify.specs.declared.files_reason.FileList.{FileList}
use Rattle.deposit_verify.specs.declared.files_reason.NoTable.{NoTable}
use Rattle.deposit_verify.proofs.Lists.{text_at, zip_from}

-- the file at a place, of a list
abbrev pub fault_at : FileList → List FileEntry → ℕ → FileEntry → TableError → NoTable
fault_at list entries i d fault = record { file = record { list = list; place = i; name = (get_or entries i d).name }; fault = fault }

pub first_fault : (IsOne : FileEntry → List ℕ → Type 0) (HasFault : TableName → List ℕ → TableError → Type 0) (list : FileList) (entries : List FileEntry) (files : List (Bor (List ℕ))) (i : ℕ) (d : FileEntry)
    (b : Bor (List ℕ)) (fault : TableError) → length files ≡ length entries → i < length entries → HasFault (get_or entries i d).name (get_or files i b).now fault
    → ((k : ℕ) → k < i → IsOne (get_or entries k d) (get_or (borrowed_texts files) k [])) → IsFirstFault IsOne HasFault entries (borrowed_texts files) (fault_at list entries i d fault)
first_fault IsOne HasFault list entries files i d b fault same inside has before =
    let texts = borrowed_texts files in
    let count : length texts ≡ length files = length-map files (λ (f : Bor (List ℕ)). f.now) in
    let within : i < length files = omega (arith, same, inside) in
    let placed : i < length texts = omega (arith, count, within) in
    record {
      entry = get_or entries i d;
      file = (get_or files i b).now;
      entry_there = slice_get-get_or entries i d inside;
      file_there = slice_get-get_or texts i [] placed ∙ ap Some (text_at files i b within);
      named = refl;
      fault = has;
      before = zip_from IsOne (take i entries) (take i texts) d [] (omega (arith, length-take i entries, length-take i texts, inside, placed)) (λ k below.
          let less : k < i = omega (arith, below, length-take i entries, inside) in
          subst (λ (e : FileEntry). IsOne e (get_or (take i texts) k [])) (sym (get_or-take i entries k d less))
          (subst (λ (f : List ℕ). IsOne (get_or entries k d) f) (sym (get_or-take i texts k [] less)) (before k less)));
    }
