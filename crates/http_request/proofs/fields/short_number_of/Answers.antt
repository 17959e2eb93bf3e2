use Rattle.std.proofs.Common.{◌≡◌, ◌≤◌, ◌∙◌, ◌+◌, ◌-◌, ◌*◌, ◌/◌, ◌%◌, ◌++◌, ℕ, List, [], ◌∷◌, length, decimal, slice_index_or, ap, ap₂, arith, sym}
use Rattle.std.proofs.lemmas.Fmt.{decimal_digit, decimal_step}
use Rattle.http_request.proofs.fields.short_number_of.Goals as goal

digit_of : (x : ℕ) → 48 ≤ x → x ≤ 57 → x ∷ [] ≡ decimal (x - 48)
digit_of x low high = let same : x ≡ 48 + (x - 48) = omega (arith, low) in ap (λ n. n ∷ []) same ∙ sym (decimal_digit (x - 48) (omega (arith, high)))

one_digit : (text : List ℕ) → length text ≡ 1 → 48 ≤ slice_index_or text 0 0 → slice_index_or text 0 0 ≤ 57 → text ≡ decimal (slice_index_or text 0 0 - 48)
one_digit [] long low high = absurd (omega arith)
one_digit (x ∷ []) long low high = digit_of x low high
one_digit (x ∷ y ∷ text) long low high = absurd (omega arith)

two_digits : (text : List ℕ) → length text ≡ 2 → 49 ≤ slice_index_or text 0 0 → slice_index_or text 0 0 ≤ 57 → 48 ≤ slice_index_or text 1 0 → slice_index_or text 1 0 ≤ 57
    → text ≡ decimal ((slice_index_or text 0 0 - 48) * 10 + (slice_index_or text 1 0 - 48))
two_digits [] long a b c d = absurd (omega arith)
two_digits (x ∷ []) long a b c d = absurd (omega arith)
two_digits (x ∷ y ∷ []) long a b c d =
    let n : ℕ = (x - 48) * 10 + (y - 48) in
    let tens : x - 48 ≡ n / 10 = omega arith in
    let ones : y ≡ 48 + n % 10 = omega arith in
    let front : x ∷ [] ≡ decimal (n / 10) = digit_of x (omega arith) b ∙ ap decimal tens in
    ap₂ (λ (l : List ℕ) (m : ℕ). l ++ m ∷ []) front ones ∙ sym (decimal_step n (omega arith) (omega arith))
two_digits (x ∷ y ∷ z ∷ text) long a b c d = absurd (omega arith)

pub returns-in-48-to-57-clause-found : goal.returns-in-48-to-57-clause-found
returns-in-48-to-57-clause-found c = (omega arith, one_digit c.args.text.now (omega arith) (omega arith) (omega arith))

pub returns-in-49-to-57-clause-found : goal.returns-in-49-to-57-clause-found
returns-in-49-to-57-clause-found c = (omega arith, two_digits c.args.text.now (omega arith) (omega arith) (omega arith) (omega arith) (omega arith))
