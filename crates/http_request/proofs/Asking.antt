-- What an input asks, by what was read of it.
use Rattle.std.proofs.Common.{◌≡◌, ◌≤◌, ◌∙◌, ◌++◌, ap, arith, List, ℕ, Option, Some, None, IfSome, Result, Ok, Err, IfErr, IsErrAnd, append_assoc, inr, refl, subst, sym, true}
use Rattle.std.specs.List.{list_all}
use Rattle.std.specs.Io.KnownBytes.{Consumes}
use Rattle.std.proofs.lemmas.Bool.{true_from_ne_false}
use Rattle.httparse.specs.Grammar.{RequestHead, ReadsRequest}
use Rattle.http_request.specs.declared.head.Head.{Head}
use Rattle.http_request.specs.declared.plan.Plan.{Plan}
use Rattle.http_request.specs.declared.errors.RequestError.{RequestError}
use Rattle.http_request.specs.declared.errors.RequestError.TheVariants as error
use Rattle.http_request.specs.Head.{CoversHead, IsHeadOf, IsShortHead, rest_of}
use Rattle.http_request.specs.Paths.{NamesTarget, is_target_byte, row_of}
use Rattle.http_request.specs.declared.routes.Route.{Route}
use Rattle.http_request.specs.declared.routes.Route.TheVariants.{Deposit}
use Rattle.http_request.specs.RequestMeaning.{RequestFault, RequestMeaning, HeadMeans, HasFault, HasNoFaultBelow, fault_number, RequestMeans, SendsPart, bad, asks_for, content_lengths}
use Rattle.http_request.specs.declared.faults.RequestFault.TheVariants as fault
use Rattle.http_request.specs.Body.{IsDeclaredBody}
use Rattle.http_request.specs.Plans.{IsPlanOf, FitsLength}
use Rattle.http_request.specs.Errors.{IsRequestError, IsBodyError, IsMeaningError}
use Rattle.http_request.specs.Targets.{target_of, target_view}
use Rattle.http_request.specs.Action.{RequestAction, Means}
use Rattle.http_request.proofs.KnownInput.{of_input}
use Rattle.http_request.proofs.PlanLemmas.{short_asked, form_asked, wanted_asked}

-- what an error is that `?` hands on
pub error_kept : {T E : Type 0} (Q : E → Type 0) (r : Result T E) (e : E) → IsErrAnd r (λ x. x ≡ e) → Q e → IfErr r Q
error_kept Q (Ok x) e is holds = tt
error_kept Q (Err x) e is holds = subst Q (sym is) holds

reads_on : (input after : List ℕ) (head : Head) (h : RequestHead) → input ≡ head.bytes.items ++ after → CoversHead head h → ReadsRequest input h (rest_of head ++ after)
reads_on input after head h e at = (at.reads.0, e ∙ ap (λ l. l ++ after) at.reads.1 ∙ append_assoc _ (rest_of head) after)

abbrev pub PlanFails : Head → RequestFault → Type 0
PlanFails head found = (h : RequestHead) → CoversHead head h → (rest : List ℕ) → HasFault h rest found × HasNoFaultBelow (fault_number found) h rest

abbrev pub Plans : Head → Plan → Type 0
Plans head plan = (h : RequestHead) → CoversHead head h → IsPlanOf h plan

module _ (head : Head) (a b : Option (List ℕ)) (taken : Consumes a b head.bytes.items) (is : IsHeadOf head) where
  -- what holds by the head with any bytes behind it holds of the input
  of_head : (P : List ℕ → Type 0)
      → ((h : RequestHead) → CoversHead head h → IsShortHead h → (input after : List ℕ) → b ≡ Some after → ReadsRequest input h (rest_of head ++ after) → P input) → IfSome a P
  of_head P holds = of_input P a b head.bytes.items taken (λ input after known same. holds is.1.0 is.1.1 is.1.2 input after known (reads_on input after head is.1.0 same is.1.1))

  pub plan_error : (found : RequestFault) → PlanFails head found → IfSome a (λ input. IsRequestError input (error.Fault found))
  plan_error found fails = of_head _ (λ h at short input after known reads. let rest = rest_of head ++ after in inr (h, rest, reads, short, fails h at rest))

module _ (head : Head) (plan : Plan) where
  -- how long a part is that is sent: it is told, and within the limit
  pub part_told : IsHeadOf head → Plans head plan → plan.target.route ≡ Deposit → (n : ℕ) × (plan.length ≡ Some n) × (n ≤ 1_048_576)
  part_told is plans e =
      let h = is.1.0 in
      by plan.length (subst (λ (r : Route). FitsLength (row_of r).limit (content_lengths h) plan.length) e (plans h is.1.1).1)
    where
      by : (told : Option ℕ) → FitsLength (Some 1_048_576) (content_lengths is.1.0) told → (n : ℕ) × (told ≡ Some n) × (n ≤ 1_048_576)
      by None fits = absurd fits
      by (Some n) fits = (n, refl, fits.1)

  bytes_pass : (h : RequestHead) (rest : List ℕ) → HasNoFaultBelow 9 h rest → list_all is_target_byte h.target ≡ true
  bytes_pass h rest below = true_from_ne_false (list_all is_target_byte h.target) (below fault.Target (omega arith))

  module _ (a b : Option (List ℕ)) (taken : Consumes a b head.bytes.items) (is : IsHeadOf head) (plans : Plans head plan) where
    -- a part is sent
    pub part_sent : plan.target.route ≡ Deposit → IfSome a SendsPart
    part_sent e = of_head head a b taken is _ (λ h at short input after known reads.
        let rest = rest_of head ++ after in
        let planned = plans h at in
        let names = subst (λ (r : Route). NamesTarget h.target (target_of r plan.target.first.now plan.target.second.now plan.target.third.now)) e planned.0 in
        (h, rest, reads, short, (plan.target.first.now, names), planned.2 rest))

    -- what the head means by its plan is what the input asks
    of_plan : (asked : RequestMeaning)
        → ((h : RequestHead) (after : List ℕ) → b ≡ Some after → list_all is_target_byte h.target ≡ true → IsPlanOf h plan → HeadMeans h (rest_of head ++ after) asked)
        → IfSome a (λ input. RequestMeans input asked)
    of_plan asked means = of_head head a b taken is _ (λ h at short input after known reads.
        let rest = rest_of head ++ after in
        let planned = plans h at in
        inr (h, rest, reads, short, means h after known (bytes_pass h rest (planned.2 rest)) planned))

    pub body_error : (s : RequestError) → IfSome b (λ rest. IsBodyError (rest_of head ++ rest) plan.length s) → IfSome a (λ input. IsRequestError input s)
    body_error (error.Fault fault.BodyShort) within = of_plan (bad fault.BodyShort) (λ h after known bytes planned.
        let rest = rest_of head ++ after in
        let short = rw known at within in
        short_asked h (target_view plan.target) bytes planned.0 rest plan.length short.0 short.1 (planned.2 rest) planned.1 short.2)
    body_error (error.Fault _) within = of_head head a b taken is _ (λ h at short input after known reads. absurd (rw known at within))
    body_error _ within = of_head head a b taken is _ (λ h at short input after known reads. tt)

    module _ (body : List ℕ) (has : IfSome b (λ rest. IsDeclaredBody (rest_of head ++ rest) plan.length body)) where
      form_error : ((wanted : RequestAction) → ¬ Means (target_view plan.target) body wanted) → IfSome a (λ input. IsRequestError input (error.Fault fault.Form))
      form_error none = of_plan (bad fault.Form) (λ h after known bytes planned.
          let rest = rest_of head ++ after in
          form_asked h (target_view plan.target) bytes planned.0 rest plan.length body (planned.2 rest) planned.1 (rw known at has) none)

      -- the same of the error that a meaning gives
      pub meaning_error : (s : RequestError) → IsMeaningError s → (s ≡ error.Fault fault.Form → (wanted : RequestAction) → ¬ Means (target_view plan.target) body wanted)
          → IfSome a (λ input. IsRequestError input s)
      meaning_error error.Unread kind none = absurd kind
      meaning_error error.NoMemory kind none = of_head head a b taken is _ (λ h at short input after known reads. tt)
      meaning_error (error.Fault found) kind none =
          subst (λ (f : RequestFault). IfSome a (λ input. IsRequestError input (error.Fault f))) (sym kind) (form_error (none (ap error.Fault kind)))

      pub asks_wanted : (wanted : RequestAction) → Means (target_view plan.target) body wanted → IfSome a (λ input. RequestMeans input (asks_for wanted))
      asks_wanted wanted means = of_plan (asks_for wanted) (λ h after known bytes planned.
          let rest = rest_of head ++ after in
          wanted_asked h (target_view plan.target) bytes planned.0 rest plan.length body wanted (planned.2 rest) planned.1 (rw known at has) means)
