-- What a deposit reads as, it reads as in one way.
use Rattle.std.proofs.Common.{◌≡◌, ◌++◌, ◌∷◌, ◌∙◌, [], List, ℕ, ap, refl, sym}
use Rattle.std.specs.List.{AllZip, concat}
use Rattle.dnrd_csv.specs.Text.{IsTextOf}
use Rattle.envelope.specs.declared.envelope.FileEntry.{FileEntry}
use Rattle.deposit_verify.specs.Deposit.{AreFiles, IsFileOf}
use Rattle.deposit_verify.proofs.CutLemmas.{same_file}

-- no bytes are the text of two lists of rows
abbrev pub OneText : Type 0
OneText = (bytes : List ℕ) (xs ys : List (List (List ℕ))) → IsTextOf bytes xs → IsTextOf bytes ys → xs ≡ ys

same_pieces : (entries : List FileEntry) (xs ys : List (List ℕ)) → AllZip IsFileOf entries xs → AllZip IsFileOf entries ys → concat xs ≡ concat ys → xs ≡ ys
same_pieces [] [] [] p q same = refl
same_pieces [] [] (y ∷ ys) p q same = absurd q
same_pieces [] (x ∷ xs) ys p q same = absurd p
same_pieces (e ∷ es) [] ys p q same = absurd p
same_pieces (e ∷ es) (x ∷ xs) [] p q same = absurd q
same_pieces (e ∷ es) (x ∷ xs) (y ∷ ys) p q same =
    let one = same_file x (concat xs) (x ++ concat xs) e.length refl p.0.length_right in
    let other = same_file y (concat ys) (x ++ concat xs) e.length same q.0.length_right in
    let first : x ≡ y = sym one.0 ∙ other.0 in
    let rest = same_pieces es xs ys p.1 q.1 (sym one.1 ∙ other.1) in
    ap (λ (t : List ℕ). t ∷ xs) first ∙ ap (λ (ts : List (List ℕ)). y ∷ ts) rest

-- no bytes are cut into files in two ways
pub same_files : (entries : List FileEntry) (bytes : List ℕ) (xs ys : List (List ℕ)) → AreFiles entries bytes xs → AreFiles entries bytes ys → xs ≡ ys
same_files entries bytes xs ys p q = same_pieces entries xs ys p.each q.each (sym p.joined ∙ q.joined)
