-- The rows that a reader has left, one by one.
use Rattle.std.proofs.Common.{Bor, ◌≡◌, ◌<◌, ◌≤◌, ◌+◌, ◌∷◌, ◌∙◌, ◌⊎◌, [], ℕ, zero, suc, List, Option, Some, None, add-one, ap, arith, false, inl, inr, length, refl, sym, true}
use Rattle.std.proofs.lemmas.Bool.{cases_Bool}
use Rattle.csv.specs.Machine.{Read, ends_at_end, field_after, fields_after, is_end, next_record, step}
use Rattle.csv.specs.Reading.{ReadRecord, Reached, default_config, records_from, records_next, strip_bom, is_bom, took_first}
use Rattle.csv.specs.declared.parser.State.{State}
use Rattle.csv.specs.declared.parser.State.TheVariants as st
use Rattle.csv.specs.declared.reader.Reader.{Reader}
use Rattle.csv.proofs.ReadFacts.{rows-end, rows-more}
use Rattle.dnrd_csv.specs.AnySpelling.{rows_found}
use Rattle.dnrd_csv.specs.inside.Spellings.{IsRowReader, rows_left, rows_of_left}

-- a record leaves fewer bytes, or none at all
fewer : (s : State) (fields : List (List ℕ)) (field xs : List ℕ) (p : Read) → next_record default_config s fields field xs ≡ Some p
    → (length p.2 < length xs) ⊎ ((p.1 ≡ st.StartRecord) × (p.2 ≡ []))
unfolding next_record
fewer s fields field [] p e = elim (cases_Bool (ends_at_end s)) [
  | inl ends ↦ let is = rw ends at e in inr (cc is, cc is)
  | inr goes ↦ cc (rw goes at e)
]
fewer s fields field (c ∷ rest) p e = elim (cases_Bool (is_end (step default_config s c).1)) [
  | inl ends ↦
      let is = rw ends at e in
      let left : p.2 ≡ rest = cc is in
      inl (omega (arith, ap length left))
  | inr goes ↦
      elim (fewer (step default_config s c).0 (fields_after (step default_config s c).1 fields field) (field_after (step default_config s c).1 c field) rest p (rw goes at e)) [
        | inl less ↦ inl (omega (arith, less))
        | inr none ↦ inr none
      ]
]

none_left : (n : ℕ) → records_from default_config n st.StartRecord [] ≡ []
unfolding records_from next_record
none_left zero = refl
none_left (suc n) = refl

same_next : (o : Option Read) (f g : State → List ℕ → List (List (List ℕ))) → ((p : Read) → o ≡ Some p → f p.1 p.2 ≡ g p.1 p.2) → records_next f o ≡ records_next g o
same_next None f g same = refl
same_next (Some p) f g same = ap (λ (t : List (List (List ℕ))). p.0 ∷ t) (same p refl)

-- as many turns as there are bytes, and one, find all records
enough : (n m : ℕ) (s : State) (xs : List ℕ) → length xs < n → length xs < m → records_from default_config n s xs ≡ records_from default_config m s xs
unfolding records_from
enough zero m s xs left right = absurd (omega (arith, left))
enough (suc n) zero s xs left right = absurd (omega (arith, right))
enough (suc n) (suc m) s xs left right =
    same_next (next_record default_config s [] [] xs) (records_from default_config n) (records_from default_config m) (λ p e.
    elim (fewer s [] [] xs p e) [
      | inl less ↦ enough n m p.1 p.2 (omega (arith, less, left)) (omega (arith, less, right))
      | inr none ↦ rw (none.0, none.1) (none_left n ∙ sym (none_left m))
    ])

first_of : (s : State) (xs : List ℕ) (p : Read) → next_record default_config s [] [] xs ≡ Some p → rows_of_left s (Some xs) ≡ p.0 ∷ rows_of_left p.1 (Some p.2)
unfolding records_from
first_of s xs p e =
    ap (λ (n : ℕ). records_from default_config n s xs) (add-one (length xs))
    ∙ ap (records_next (records_from default_config (length xs))) e
    ∙ ap (λ (t : List (List (List ℕ))). p.0 ∷ t) (elim (fewer s [] [] xs p e) [
      | inl less ↦ enough (length xs) (length p.2 + 1) p.1 p.2 less (omega arith)
      | inr none ↦ rw (none.0, none.1) (none_left (length xs) ∙ sym (none_left 1))
    ])

end_of : (s : State) (xs : List ℕ) → next_record default_config s [] [] xs ≡ None → rows_of_left s (Some xs) ≡ []
unfolding records_from
end_of s xs e =
    ap (λ (n : ℕ). records_from default_config n s xs) (add-one (length xs))
    ∙ ap (records_next (records_from default_config (length xs))) e

-- a read takes the first of the rows that are left
pub read_next : (old new : Reader (Bor (List ℕ))) (fields : List (List ℕ)) → IsRowReader old → ReadRecord (λ s. Some s.now) old new true fields → took_first new ≡ true
    → IsRowReader new × (rows_left old ≡ fields ∷ rows_left new)
unfolding Reached
read_next old new fields at read first =
    let (left, source, reached) =
    rows-more (λ (s : Bor (List ℕ)). Some s.now) old new fields default_config old.state at.left at.left [] at.config at.source (refl, refl) read in
    let (p, is, same, ends) = reached in
    let (state, tail) = ends in (
      record { untrimmed = read.3 ∙ at.untrimmed; ready = inl first; config = read.2 ∙ at.config; left = left; source = source },
      ap (rows_of_left old.state) at.source ∙ first_of old.state at.left p is
          ∙ ap (λ (t : List (List ℕ)). t ∷ rows_of_left p.1 (Some p.2)) (sym same)
          ∙ ap (λ (s : State). fields ∷ rows_of_left s (Some p.2)) state
          ∙ ap (λ (t : List ℕ). fields ∷ rows_of_left new.state (Some t)) tail
          ∙ ap (λ (o : Option (List ℕ)). fields ∷ rows_of_left new.state o) (sym source),
    )

-- a read that finds none had none left
pub read_end : (old new : Reader (Bor (List ℕ))) (fields : List (List ℕ)) → IsRowReader old → ReadRecord (λ s. Some s.now) old new false fields → rows_left old ≡ []
read_end old new fields at read =
    ap (rows_of_left old.state) at.source
    ∙ end_of old.state at.left (rows-end (λ (s : Bor (List ℕ)). Some s.now) old new fields default_config at.left at.config at.source read)

few_next : (o : Option Read) (f : State → List ℕ → List (List (List ℕ))) (n : ℕ) → ((p : Read) → length (f p.1 p.2) ≤ n) → length (records_next f o) ≤ n + 1
few_next None f n few = omega arith
few_next (Some p) f n few = omega (arith, few p)

few_records : (n : ℕ) (s : State) (xs : List ℕ) → length (records_from default_config n s xs) ≤ n
unfolding records_from
few_records zero s xs = omega arith
few_records (suc n) s xs = omega (arith, few_next (next_record default_config s [] [] xs) (records_from default_config n) n (λ p. few_records n p.1 p.2))

strip_few : (text : List ℕ) → length (strip_bom text) ≤ length text
unfolding strip_bom
strip_few [] = omega arith
strip_few (a ∷ []) = omega arith
strip_few (a ∷ b ∷ []) = omega arith
strip_few (a ∷ b ∷ c ∷ rest) = elim (cases_Bool (is_bom a b c)) [
  | inl mark ↦ rw mark (omega arith)
  | inr other ↦ rw other (omega arith)
]

-- a text has fewer rows than two and its bytes
pub few_rows : (text : List ℕ) → length (rows_found text) ≤ length text + 1
few_rows text = omega (arith, few_records (length (strip_bom text) + 1) st.StartRecord (strip_bom text), strip_few text)
