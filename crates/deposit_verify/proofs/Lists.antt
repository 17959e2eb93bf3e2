-- Lists that are compared place by place.
use Rattle.std.proofs.Common.{Bor, inl, inr, subst, ◌==◌, Bool, true, false, not, ◌≡◌, ◌<◌, ◌≤◌, ◌+◌, ◌++◌, ◌∷◌, ◌∙◌, [], List, ℕ, ap, arith, get_or, length, refl, suc, sym, take, zero}
use Rattle.std.specs.List.{AllZip}
use Rattle.std.proofs.lemmas.Bool.Decides.{eqb_tells}
use Rattle.deposit_name.specs.declared.table.TableName.TheVariants.{Domain}
use Rattle.envelope.specs.declared.envelope.FileEntry.{FileEntry}
use Rattle.std.proofs.lemmas.List.{get_or-map, get_or_default, take_all, take_more}
use Rattle.dnrd_csv.specs.inside.RowKeys.{borrowed_texts}

-- one element more is the same
pub same_more : {X : Type 0} (xs ys : List X) (i : ℕ) (d : X) → i < length xs → i < length ys → take i xs ≡ take i ys → get_or xs i d ≡ get_or ys i d → take (i + 1) xs ≡ take (i + 1) ys
same_more xs ys i d inside within before here = take_more xs i d inside ∙ ap (λ zs. zs ++ get_or xs i d ∷ []) before ∙ ap (λ y. take i ys ++ y ∷ []) here ∙ sym (take_more ys i d within)

pub same_whole : {X : Type 0} (xs ys : List X) (i : ℕ) → length xs ≤ i → length ys ≤ i → take i xs ≡ take i ys → xs ≡ ys
same_whole xs ys i past over same = sym (take_all i xs past) ∙ same ∙ take_all i ys over

-- a fact of two lists, at a place
pub zip_at : {A B : Type 0} (R : A → B → Type 0) (xs : List A) (ys : List B) (i : ℕ) (d : A) (e : B) → AllZip R xs ys → i < length xs → R (get_or xs i d) (get_or ys i e)
zip_at R [] ys i d e all inside = absurd (omega arith)
zip_at R (x ∷ xs) [] i d e all inside = absurd all
zip_at R (x ∷ xs) (y ∷ ys) zero d e all inside = all.0
zip_at R (x ∷ xs) (y ∷ ys) (suc i) d e all inside = zip_at R xs ys i d e all.1 (omega arith)

-- and from each place
pub zip_from : {A B : Type 0} (R : A → B → Type 0) (xs : List A) (ys : List B) (d : A) (e : B) → length xs ≡ length ys
    → ((i : ℕ) → i < length xs → R (get_or xs i d) (get_or ys i e)) → AllZip R xs ys
zip_from R [] [] d e same each = tt
zip_from R (x ∷ xs) (y ∷ ys) d e same each = (each zero (omega arith), zip_from R xs ys d e (omega arith) (λ i inside. each (suc i) (omega arith)))
zip_from R _ _ d e same each = absurd (omega arith)

pub zip_length : {A B : Type 0} (R : A → B → Type 0) (xs : List A) (ys : List B) → AllZip R xs ys → length xs ≡ length ys
zip_length R [] [] all = refl
zip_length R (x ∷ xs) (y ∷ ys) all = ap suc (zip_length R xs ys all.1)
zip_length R _ _ all = absurd all

-- the answer of a test whose opposite failed
pub unnegated : (b : Bool) → false ≡ not b → b ≡ true
unnegated true e = refl
unnegated false e = cc e

pub none_from_length : {X : Type 0} (xs : List X) → length xs ≡ 0 → xs ≡ []
none_from_length [] e = refl
none_from_length (x ∷ xs) e = absurd (omega arith)

pub empty_from_length : {X : Type 0} (xs : List X) → (length xs == 0) ≡ true → xs ≡ []
empty_from_length xs e = elim (eqb_tells (length xs) 0) [
  | inl none ↦ none_from_length xs none.1
  | inr some ↦ cc (some.0, e)
]

-- what holds of each number below i, and of i
pub below_next : (P : ℕ → Type 0) (i : ℕ) → ((k : ℕ) → k < i → P k) → P i → (k : ℕ) → k < i + 1 → P k
below_next P i before here k below = elim (eqb_tells k i) [
  | inl same ↦ subst P (sym same.1) here
  | inr other ↦ before k (omega (arith, below, other.1))
]

-- an entry of no file
abbrev pub no_entry : FileEntry
no_entry = record { length = 0; name = Domain; sha256 = [] }

-- the text at a place
pub text_at : (keys : List (Bor (List ℕ))) (i : ℕ) (d : Bor (List ℕ)) → i < length keys → get_or (borrowed_texts keys) i [] ≡ (get_or keys i d).now
text_at keys i d inside = get_or-map (λ k. k.now) keys i d [] inside

-- a fact of an entry and its file, whatever stands for what is not there
pub file_at : (R : FileEntry → List ℕ → Type 0) (entries : List FileEntry) (files : List (Bor (List ℕ))) (i : ℕ) (d : FileEntry) (b : Bor (List ℕ)) → i < length entries → i < length files
    → R (get_or entries i d) (get_or files i b).now → (e : FileEntry) → R (get_or entries i e) (get_or (borrowed_texts files) i [])
file_at R entries files i d b inside within h e =
    let text = subst (λ (f : List ℕ). R (get_or entries i d) f) (sym (text_at files i b within)) h in
    subst (λ (x : FileEntry). R x (get_or (borrowed_texts files) i [])) (get_or_default entries i d e inside) text

pub file_from : (R : FileEntry → List ℕ → Type 0) (entries : List FileEntry) (files : List (Bor (List ℕ))) (i : ℕ) (d : FileEntry) (b : Bor (List ℕ)) → i < length files
    → R (get_or entries i d) (get_or (borrowed_texts files) i []) → R (get_or entries i d) (get_or files i b).now
file_from R entries files i d b within h = subst (λ (f : List ℕ). R (get_or entries i d) f) (text_at files i b within) h
