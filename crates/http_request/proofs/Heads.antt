-- Where no head within the limits can come, from the bytes that were read.
use Rattle.std.proofs.Common.{◌∙◌, ◌≡◌, ◌≤◌, ◌++◌, ap, arith, inl, refl, sym, subst, List, ℕ, [], Option, IfSome, length, take, drop, append-nil, take-append-drop}
use Rattle.std.proofs.lemmas.Grind.{common_steps}
use Rattle.std.proofs.Math.Seq.{take-append_seam}
use Rattle.std.proofs.lemmas.List.{take-append-le}
use Rattle.std.specs.Io.KnownBytes.{Consumes, IsAtEnd}
use Rattle.std.proofs.KnownBytes.{Consumes-trans}
use Rattle.httparse.specs.Grammar.{Field, HasNoRequest, RequestHead, print_request}
use Rattle.httparse.specs.Spans.{AreFieldsAt, IsRequestAt, IsRequestOf, IsRequestWithin, RequestOverflows}
use Rattle.httparse.specs.declared.spans.RequestSpans.{RequestSpans}
use Rattle.httparse.specs.declared.spans.HeaderSpan.{HeaderSpan}
use Rattle.http_request.specs.declared.errors.RequestError.TheVariants as error
use Rattle.http_request.specs.declared.faults.RequestFault.TheVariants as fault
use Rattle.http_request.specs.Errors.{IsRequestError}
use Rattle.http_request.specs.Head.{HasNoShortHead, IsShortHead}
use Rattle.http_request.proofs.KnownInput.{of_input}

-- one more read
pub taken_more : (a b c : Option (List ℕ)) (bytes piece rest now : List ℕ) (count : ℕ) → Consumes a b bytes → Consumes b c (take count piece)
    → now ≡ bytes ++ take count (piece ++ rest) → count ≤ length piece → Consumes a c now
taken_more a b c bytes piece rest now count first second grown fits =
    subst (Consumes a c) (sym (grown ∙ ap (λ l. bytes ++ l) (take-append-le count piece rest fits)))
    (Consumes-trans a b c bytes (take count piece) first second)

-- no bytes are no head
pub none_of_nothing : HasNoRequest []
unfolding print_request
none_of_nothing h rest reads =
    let lengths = ap length reads.1 in
    let some = reads.0.method.0 in
    grind (arith, common_steps, lengths, some)

abbrev NoHead : Option (List ℕ) → Type 0
NoHead known = IfSome known (λ input. IsRequestError input (error.Fault fault.Head))

-- the reader is at its end
pub none_at_end : (a b : Option (List ℕ)) (bytes : List ℕ) → Consumes a b bytes → IsAtEnd b → HasNoRequest bytes → NoHead a
none_at_end a b bytes taken end no_head = of_input _ a b bytes taken (λ x y known is.
    let same : x ≡ bytes = is ∙ ap (λ l. bytes ++ l) (rw known at end) ∙ append-nil bytes in
    let none : HasNoShortHead x = λ h rest reads short. no_head h rest (reads.0, sym same ∙ reads.1) in
    inl (none, refl))

-- as many bytes were read as a head may have
pub none_when_full : (a b : Option (List ℕ)) (bytes : List ℕ) → Consumes a b bytes → 8192 ≤ length bytes → HasNoRequest bytes → NoHead a
none_when_full a b bytes taken full no_head = of_input _ a b bytes taken (λ x y known is.
    let none : HasNoShortHead x = λ h rest reads short.
    let front = print_request h in
    let same : bytes ++ y ≡ front ++ rest = sym is ∙ reads.1 in
    let is_front : take (length front) bytes ≡ front =
    sym (take-append-le (length front) bytes y (omega (arith, short.0, full))) ∙ ap (take (length front)) same ∙ take-append_seam front rest in
    no_head h (drop (length front) bytes)
    (reads.0, sym (take-append-drop (length front) bytes) ∙ ap (λ l. l ++ drop (length front) bytes) is_front) in
    inl (none, refl))

-- no head with so few fields can come
pub none_when_over : (a b : Option (List ℕ)) (bytes : List ℕ) → Consumes a b bytes → RequestOverflows 32 bytes → NoHead a
none_when_over a b bytes taken over = of_input _ a b bytes taken (λ x y known is.
    let none : HasNoShortHead x = λ h rest reads short.
    let many = over y h rest (reads.0, sym is ∙ reads.1) in
    let few = short.1 in
    omega arith in
    inl (none, refl))

-- the spans of a head that fits the room cover at most 32 fields
pub few_fields : (buf : List ℕ) (headers : List HeaderSpan) (count : ℕ) (fields : List Field) → AreFieldsAt buf headers count fields → length headers ≡ 32 → length fields ≤ 32
few_fields buf headers count fields covered room =
    let counts = ap length covered in
    grind (arith, common_steps, counts, room)

-- what a parse that is complete says of the bytes that it was given
pub head_found : (bytes buf : List ℕ) (headers : List HeaderSpan) (spans : RequestSpans) → buf ≡ bytes → IsRequestOf buf headers spans → IsRequestWithin buf headers spans
    → length bytes ≤ 8192 → length headers ≡ 32 → IsRequestWithin bytes headers spans × ((h : RequestHead) × IsRequestAt bytes headers spans h × IsShortHead h)
head_found bytes buf headers spans same (h, at) within small room =
    let len = at.len in
    let fits = within.section.len_fits in
    let same_length = ap length same in (
      subst (λ (b : List ℕ). IsRequestWithin b headers spans) same within,
      (h, subst (λ (b : List ℕ). IsRequestAt b headers spans h) same at, (omega (arith, len, fits, same_length, small), few_fields buf headers spans.headers h.fields at.fields room)),
    )
