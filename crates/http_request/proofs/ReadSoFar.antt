-- The bytes of a body as far as they were read.
use Rattle.std.proofs.Common.{◌∙◌, ◌≡◌, ◌≤◌, ◌<◌, ◌++◌, ap, arith, sym, List, ℕ, [], Option, IfSome, length, take, append-nil, append_assoc, length-append, ◌⊎◌, inl, inr}
use Rattle.std.proofs.lemmas.Bool.{cases_lt}
use Rattle.std.proofs.lemmas.List.{take_all, take_at, take-append-le, length-take, length-take-le, nil_from_length}
use Rattle.std.specs.Io.KnownBytes.{Consumes, IsAtEnd}
use Rattle.std.proofs.KnownBytes.{Consumes-trans}
use Rattle.http_request.specs.Body.{HasFirstBytes}
use Rattle.http_request.proofs.KnownInput.{of_input}

-- what was read, behind the first bytes that were there
abbrev pub IsReadSoFar : Option (List ℕ) → Option (List ℕ) → List ℕ → ℕ → List ℕ → Type 0
IsReadSoFar before now front wanted body = (taken : List ℕ) × Consumes before now taken × (body ≡ take wanted front ++ taken) × (length body ≤ wanted)

pub body_done : (before now : Option (List ℕ)) (front : List ℕ) (wanted : ℕ) (body : List ℕ) → IsReadSoFar before now front wanted body → wanted ≤ length body → IfSome before (λ rest. HasFirstBytes (front ++ rest) wanted body)
body_done before now front wanted body (taken, consumed, is, small) full =
    of_input _ before now taken consumed (λ rest after known same. done rest after same (cases_lt (length front) wanted))
  where
    done : (rest after : List ℕ) → rest ≡ taken ++ after → (length front < wanted) ⊎ (wanted ≤ length front) → HasFirstBytes (front ++ rest) wanted body
    done rest after same (inl less) =
        let all : take wanted front ≡ front = take_all wanted front (omega arith) in
        let mine : body ≡ front ++ taken = is ∙ ap (λ l. l ++ taken) all in
        let whole : front ++ rest ≡ body ++ after = ap (λ l. front ++ l) same ∙ sym (append_assoc front taken after) ∙ ap (λ l. l ++ after) (sym mine) in
        let sum = ap length whole ∙ length-append body after in
        (omega (arith, sum, full), sym (ap (take wanted) whole ∙ take_at body after wanted (omega (arith, small, full))))
    done rest after same (inr more) =
        let sum = length-append front rest in
        let front_length : length (take wanted front) ≡ wanted = length-take-le wanted front more in
        let counted = ap length is ∙ length-append (take wanted front) taken in
        let none : taken ≡ [] = nil_from_length taken (omega (arith, counted, front_length, small)) in
        let mine : body ≡ take wanted front = is ∙ ap (λ l. take wanted front ++ l) none ∙ append-nil (take wanted front) in
        (omega (arith, sum, more), mine ∙ sym (take-append-le wanted front rest more))

pub body_short : (before now : Option (List ℕ)) (front : List ℕ) (wanted : ℕ) (body : List ℕ) → IsReadSoFar before now front wanted body → length body < wanted → IsAtEnd now → IfSome before (λ rest. length (front ++ rest) < wanted)
body_short before now front wanted body (taken, consumed, is, small) less end = of_input _ before now taken consumed (λ rest after known came.
    let same : rest ≡ taken = came ∙ ap (λ l. taken ++ l) (rw known at end) ∙ append-nil taken in
    let counted = ap length is ∙ length-append (take wanted front) taken in
    let all : take wanted front ≡ front = take_all wanted front (omega (arith, length-take wanted front, counted)) in
    let sum = length-append front rest in
    let one = ap length same in
    let two = ap length all in
    omega (arith, counted, sum, one, two, less))

pub one_more : (a b c : Option (List ℕ)) (front : List ℕ) (wanted : ℕ) (body piece rest now : List ℕ) (count : ℕ) → IsReadSoFar a b front wanted body → Consumes b c (take count piece)
    → now ≡ body ++ take count (piece ++ rest) → count ≤ length piece → length now ≤ wanted → IsReadSoFar a c front wanted now
one_more a b c front wanted body piece rest now count (taken, consumed, is, small) more grown fits within = (
  taken ++ take count piece,
  Consumes-trans a b c taken (take count piece) consumed more,
  grown ∙ ap (λ l. body ++ l) (take-append-le count piece rest fits) ∙ ap (λ l. l ++ take count piece) is ∙ append_assoc (take wanted front) taken (take count piece),
  within,
)
