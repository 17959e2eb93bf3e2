-- The bytes of a part: those that came with the head, cut at its length, and then what the reader gives.
use Rattle.std.proofs.Common.{◌≡◌, ◌<◌, ◌≤◌, ◌⊎◌, ◌++◌, ◌∙◌, ◌∷◌, [], ℕ, zero, suc, List, Option, Some, None, IfSome, ap, arith, inl, inr, length, refl, subst, sym, take}
use Rattle.std.proofs.lemmas.Bool.{cases_lt}
use Rattle.std.proofs.lemmas.List.{take_all}
use Rattle.vault_volume.specs.declared.volume.Volume as volume
use Rattle.sqlite.specs.Store.{Ghosts}
use Rattle.std.specs.Io.KnownBytes.{Consumes}
use Rattle.custody_machine.specs.Machine.{Receive}
use Rattle.custody.specs.declared.custody.Custody.{Custody}
use Rattle.custody.specs.Receiving.{IsPartBody, IsPartShort}
use Rattle.http_request.specs.RequestMeaning.{asks_for, SendsPart}
use Rattle.http_request.specs.Body.{HasFirstBytes, IsDeclaredBody}
use Rattle.http_request.specs.Head.{IsHeadOf, rest_of}
use Rattle.http_request.specs.declared.routes.Route.{Route}
use Rattle.http_request.specs.declared.routes.Route.TheVariants.{Deposit}
use Rattle.http_request.specs.Targets.{target_of}
use Rattle.http_request.specs.Action.{Do, Means, Report}
use Rattle.http_request.specs.declared.head.Head.{Head}
use Rattle.http_request.specs.declared.plan.Plan.{Plan}
use Rattle.http_request.specs.declared.faults.RequestFault.{RequestFault}
use Rattle.http_request.specs.declared.faults.RequestFault.TheVariants as fault
use Rattle.http_request.specs.Errors.{IsBodyError}
use Rattle.http_request.specs.declared.errors.RequestError.{RequestError}
use Rattle.http_request.specs.declared.errors.RequestError.TheVariants as error
use Rattle.http_request.proofs.Asking.{Plans, asks_wanted}
use Rattle.http_api.specs.declared.handling.PendingResponse.{PendingResponse}
use Rattle.http_api.specs.declared.handling.PendingResponse.TheVariants as outcome
use Rattle.http_api.specs.Handling.{Performs, ErrorLeaves, MayLackMemory, HasNoMemory, HasReceivedPart, IsRequestPerformed, IsNoCommand, IsServed, IsActionPerformed, FaultLeaves, IsRequestServed}

cut_same : (front rest : List ℕ) (n : ℕ) → take n (take n front ++ rest) ≡ take n (front ++ rest)
cut_same [] rest zero = refl
cut_same [] rest (suc n) = refl
cut_same (b ∷ front) rest zero = refl
cut_same (b ∷ front) rest (suc n) = ap (λ l. b ∷ l) (cut_same front rest n)

cut_short : (front rest : List ℕ) (n : ℕ) → length (take n front ++ rest) < n → length (front ++ rest) < n
cut_short [] rest zero h = absurd (omega (arith, h))
cut_short [] rest (suc n) h = h
cut_short (b ∷ front) rest zero h = absurd (omega (arith, h))
cut_short (b ∷ front) rest (suc n) h = let less = cut_short front rest n (omega (arith, h)) in omega (arith, less)

long_enough : (bytes body : List ℕ) (n : ℕ) → length body ≡ n → body ≡ take n bytes → n ≤ length bytes
long_enough bytes body n counted same = by (cases_lt (length bytes) n)
  where
    by : (length bytes < n) ⊎ (n ≤ length bytes) → n ≤ length bytes
    by (inl less) =
        let short : length body ≡ length bytes = ap length (same ∙ take_all n bytes (omega (arith, less))) in
        absurd (omega (arith, counted, short, less))
    by (inr fits) = fits

pub part_came : (known : Option (List ℕ)) (front body : List ℕ) (n : ℕ) → IsPartBody known (take n front) n body → IfSome known (λ rest. HasFirstBytes (front ++ rest) n body)
part_came None front body n is = tt
part_came (Some rest) front body n (counted, same) =
    let cut = same ∙ cut_same front rest n in
    (long_enough (front ++ rest) body n counted cut, cut)

pub part_short : (known : Option (List ℕ)) (front : List ℕ) (n : ℕ) → IsPartShort known (take n front) n
    → IfSome known (λ rest. IsBodyError (front ++ rest) (Some n) (error.Fault fault.BodyShort))
part_short None front n short = tt
part_short (Some rest) front n short = (n, refl, cut_short front rest n short)

pub part_unread : (known : Option (List ℕ)) (front : List ℕ) (n : ℕ) → IfSome known (λ rest. IsBodyError (front ++ rest) (Some n) error.Unread)
part_unread None front n = tt
part_unread (Some rest) front n = tt

module _ {V S : Type 0} {g : volume.Ghosts V} {database : Ghosts S} (known : Option (List ℕ)) (old new : Custody V S g database) where
  fault_alone : new ≡ old → (found : RequestFault) → FaultLeaves known found old new
  fault_alone same fault.BodyShort = inl same
  fault_alone same _ = same

  -- a custody that is as it was
  pub left_alone : new ≡ old → (s : RequestError) → ErrorLeaves known s old new
  left_alone same error.Unread = inl same
  left_alone same error.NoMemory = same
  left_alone same (error.Fault found) = fault_alone same found

  module _ (sends : IfSome known SendsPart) where
    no_part : IsNoCommand None old new → IsNoCommand known old new
    no_part (inl same) = inl same
    no_part (inr (any, ended)) = inr (sends, ended)

    fault_of_part : (found : RequestFault) → FaultLeaves None found old new → FaultLeaves known found old new
    fault_of_part fault.BodyShort left = no_part left
    fault_of_part _ same = same

    -- the custody where a part is sent
    pub part_left : (s : RequestError) → ErrorLeaves None s old new → ErrorLeaves known s old new
    part_left error.Unread left = no_part left
    part_left error.NoMemory same = same
    part_left (error.Fault found) left = fault_of_part found left

-- what is done of a request is one of the ways in which it is served
module _ {V S : Type 0} {g : volume.Ghosts V} {database : Ghosts S} where
  pub done_serves : (known : Option (List ℕ)) (now : ℕ) (old new : Custody V S g database) (outcome : PendingResponse) → IsRequestPerformed known now old outcome new → IsRequestServed known now old outcome new
  done_serves known now old new outcome (wanted, asks, step) answer told = by (step answer told)
    where
      by : Performs wanted now old answer new ⊎ (MayLackMemory wanted old × HasNoMemory old answer new) → IsServed known now old answer new
      by (inl does) = inl (asks_for wanted, asks, does)
      by (inr (long, none)) = inr none

  -- a report that is wanted is the response that is pending, and the custody is as it was
  pub report_step : (tld : List ℕ) (now : ℕ) (custody : Custody V S g database) → IsActionPerformed (Report tld) now custody (outcome.Report tld) custody
  report_step tld now custody answer (inl is) = inl (is, refl)
  report_step tld now custody answer (inr (long, is)) = inr (long, (is, refl))

-- the part of a request is received: that is what the request asks
module _ {V S : Type 0} {g : volume.Ghosts V} {database : Ghosts S} (head : Head) (plan : Plan) where
  pub part_done : (a b : Option (List ℕ)) → Consumes a b head.bytes.items → IsHeadOf head → Plans head plan → plan.target.route ≡ Deposit
      → (len : ℕ) → plan.length ≡ Some len → (now : ℕ) (old new : Custody V S g database) (outcome : PendingResponse)
      → HasReceivedPart b (rest_of head) plan.target.first.now len now old outcome new → IsRequestPerformed a now old outcome new
  part_done a b taken is plans e len told now old new outcome (body, has, step) =
      let wanted = Do (Receive plan.target.first.now body) in
      let whole = subst (λ (t : Option ℕ). IfSome b (λ rest. IsDeclaredBody (rest_of head ++ rest) t body)) (sym told) has in
      let means = subst (λ (r : Route). Means (target_of r plan.target.first.now plan.target.second.now plan.target.third.now) body wanted) (sym e) refl in
      let asks = asks_wanted head plan a b taken is plans body whole wanted means in
      (wanted, asks, step)
