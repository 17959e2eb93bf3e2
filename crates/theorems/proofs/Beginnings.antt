-- A beginning of a request asks what the request asks, or nothing: its head is not whole (A1), or its body (A9).
use Rattle.std.proofs.Common.{◌≡◌, ◌⊎◌, inl, inr, ⊎_elim, ℕ, ◌<◌, ◌≤◌, List, ◌++◌, length, Option, Some, None, refl, sym, ◌∙◌, ap, arith, append_assoc, le_refl}
use Rattle.std.specs.Prelude.{drop}
use Rattle.std.proofs.lemmas.Bool.{cases_lt}
use Rattle.std.proofs.lemmas.List.{length-append, take-append-drop, take-append-le, take_all}
use Rattle.httparse.specs.Grammar.{RequestHead, print_request}
use Rattle.http_request.specs.RequestMeaning.{AreContentLength, RequestMeaning, RequestMeans, HeadMeans, IsRequestBody, HasNoFaultBelow, HasFault, HasBodyLimit, asks_for, bad, fault_number, content_lengths}
use Rattle.http_request.specs.Paths.{limit_of}
use Rattle.http_request.specs.declared.faults.RequestFault.{RequestFault}
use Rattle.http_request.specs.declared.faults.RequestFault.TheVariants as fault
use Rattle.theorems.specs.Service.{IsBeginning}

-- what a text has more than a beginning
pub behind : (text beginning : List ℕ) → IsBeginning beginning text → (rest : List ℕ) × (text ≡ beginning ++ rest)
behind text beginning h = (drop h.0 text, sym (take-append-drop h.0 text) ∙ ap (λ l. l ++ drop h.0 text) (sym h.2))

pub whole_begins : (text : List ℕ) → IsBeginning text text
whole_begins text = (length text, le_refl (length text), sym (take_all (length text) text (le_refl (length text))))

-- what holds of the limit of a body
takes_so : (limit : Option ℕ) (P Q : ℕ → Type 0) → ((n : ℕ) → P n → Q n) → HasBodyLimit limit P → HasBodyLimit limit Q
takes_so None P Q so h = h
takes_so (Some limit) P Q so h = so limit h

module _ (h : RequestHead) (rest more : List ℕ) where
  -- a body that has come whole stays
  body_stays : (limit : Option ℕ) (body : List ℕ) → IsRequestBody limit h rest body → IsRequestBody limit h (rest ++ more) body
  body_stays None body is = is
  body_stays (Some limit) body is =
      let fits = is.2 in (is.0, is.1, omega (arith, length-append rest more), is.3 ∙ sym (take-append-le is.0 rest more fits))

  -- and one that comes whole with more bytes had come before, unless it was short
  body_came : (limit : Option ℕ) (body : List ℕ) → (HasBodyLimit limit (λ l. (n : ℕ) × AreContentLength (content_lengths h) n × (length rest < n)) → ⊥) → IsRequestBody limit h (rest ++ more) body → IsRequestBody limit h rest body
  body_came None body whole is = is
  body_came (Some limit) body whole is = ⊎_elim
      (λ (short : length rest < is.0). absurd (whole (is.0, is.1, short)))
      (λ (fits : is.0 ≤ length rest). (is.0, is.1, fits, is.3 ∙ take-append-le is.0 rest more fits))
      (cases_lt (length rest) is.0)

  -- what stands of a head stands with more bytes behind it, but that the body is short
  stands_still : (found : RequestFault) → (found ≡ fault.BodyShort) ⊎ (HasFault h rest found → HasFault h (rest ++ more) found)
  stands_still fault.BodyShort = inl refl
  stands_still fault.Form = inr (λ s. (s.0, s.1, s.2, body_stays (limit_of s.0) s.1 s.3, s.4))
  stands_still found = inr (λ s. s)

  -- what stands with more bytes stood before, unless the body was short
  stood_before : (found : RequestFault) → (found ≡ fault.Form → HasFault h rest fault.BodyShort → ⊥) → HasFault h (rest ++ more) found → HasFault h rest found
  stood_before fault.BodyShort whole s =
      (s.0, s.1, takes_so (limit_of s.0) _ _ (λ l w. let less = w.2 in (w.0, w.1, omega (arith, length-append rest more))) s.2)
  stood_before fault.Form whole s = (s.0, s.1, s.2, body_came (limit_of s.0) s.1 (λ short. whole refl (s.0, s.2, short)) s.3, s.4)
  stood_before found whole s = s

  none_below : (n : ℕ) → n ≤ 11 → HasNoFaultBelow n h rest → HasNoFaultBelow n h (rest ++ more)
  none_below n most none found less s = none found less (stood_before found (λ is short. by found is less short) s)
    where
      by : (g : RequestFault) → g ≡ fault.Form → fault_number g < n → HasFault h rest fault.BodyShort → ⊥
      by g is less short = none fault.BodyShort (let ten = ap fault_number is in omega arith) short

  asked_still : (asked : RequestMeaning) → HeadMeans h rest asked → (asked ≡ bad fault.BodyShort) ⊎ HeadMeans h (rest ++ more) asked
  asked_still (asks_for wanted) is = inr ((is.0.0, is.0.1, is.0.2, body_stays (limit_of is.0.0) is.0.1 is.0.3, is.0.4), none_below 11 (omega arith) is.1)
  asked_still (bad found) is = ⊎_elim
      (λ short. inl (ap bad short))
      (λ still. inr (still is.0, none_below (fault_number found) (most found) is.1))
      (stands_still found)
    where
      most : (g : RequestFault) → fault_number g ≤ 11
      most (fault.Method allowed) = omega arith
      most g = omega arith

-- what a beginning asks, all of it asks, unless its head or its body is not whole
pub beginning_asks : (text beginning : List ℕ) (asked : RequestMeaning) → IsBeginning beginning text → RequestMeans beginning asked → (asked ≡ bad fault.Head) ⊎ ((asked ≡ bad fault.BodyShort) ⊎ RequestMeans text asked)
beginning_asks text beginning asked begins (inl none) = inl none.1
beginning_asks text beginning asked begins (inr a) =
    let more = behind text beginning begins in
    let reads = a.2 in
    let whole : text ≡ print_request a.0 ++ (a.1 ++ more.0) = more.1 ∙ ap (λ l. l ++ more.0) reads.1 ∙ append_assoc (print_request a.0) a.1 more.0 in
    inr (⊎_elim inl (λ still. inr (inr (a.0, a.1 ++ more.0, (reads.0, whole), a.3, still))) (asked_still a.0 a.1 more.0 asked a.4))
