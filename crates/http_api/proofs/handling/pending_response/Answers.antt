use Rattle.std.proofs.Common.{◌∙◌, ◌++◌, ℕ, Err, Option, Some, IfSome, ap, arith, refl, subst, sym}
use Rattle.std.proofs.lemmas.Result.{IfOk-weaker, IfErr-weaker}
use Rattle.http_request.specs.ActionView.{action_view}
use Rattle.http_request.specs.Head.{rest_of}
use Rattle.http_request.specs.Errors.{IsBodyError}
use Rattle.http_request.specs.declared.errors.RequestError.TheVariants as error
use Rattle.http_request.proofs.Asking.{error_kept, plan_error, part_sent, part_told, body_error, meaning_error, asks_wanted}
use Rattle.http_api.proofs.PartLemmas.{left_alone, part_done, part_left}
use Rattle.http_api.proofs.handling.pending_response.Goals as goal

pub returns-in_err-head-clause-error : goal.returns-in_err-head-clause-error
returns-in_err-head-clause-error g c = error_kept _ _ _ c.from_residual.ensures.1 c.in_err-head.ensures.error

pub returns-in_err-plan-clause-error : goal.returns-in_err-plan-clause-error
returns-in_err-plan-clause-error g c =
    error_kept _ _ _ c.from_residual-in_err-plan.ensures.1
    (plan_error c.in_ok-head.head _ _ c.in_ok-head.ensures.found.0 c.in_ok-head.ensures.found.1 c.in_err-plan.field-0.0 c.in_err-plan.ensures.err)

pub returns-in_err-body-clause-error : goal.returns-in_err-body-clause-error
returns-in_err-body-clause-error g c =
    let within = rw c.rest-2.ensures at c.in_err-body.ensures.error in
    error_kept _ _ _ c.from_residual-in_err-body.ensures.1
    (body_error c.in_ok-head.head c.in_ok-plan.plan _ _ c.in_ok-head.ensures.found.0 c.in_ok-head.ensures.found.1 c.in_ok-plan.ensures.ok c.in_err-body.field-0.0 within)

pub returns-clause-error : goal.returns-clause-error
returns-clause-error g c =
    let body = rw c.rest-2.ensures at c.in_ok-body.ensures.found in
    meaning_error c.in_ok-head.head c.in_ok-plan.plan _ _ c.in_ok-head.ensures.found.0 c.in_ok-head.ensures.found.1 c.in_ok-plan.ensures.ok c.in_ok-body.body.items body c.in-Err.error
    c.in-Err.ensures.kind (λ is. rw c.deref.ensures.value at (c.in-Err.ensures.form (ap (λ u. Err u) is)))

pub returns-in-Ok-clause-done : goal.returns-in-Ok-clause-done
returns-in-Ok-clause-done g c =
    let body = rw c.rest-2.ensures at c.in_ok-body.ensures.found in
    let means = rw c.deref.ensures.value at c.in-Ok.ensures.found in
    let wanted = action_view c.in-Ok.action in
    let asks = asks_wanted c.in_ok-head.head c.in_ok-plan.plan _ _ c.in_ok-head.ensures.found.0 c.in_ok-head.ensures.found.1 c.in_ok-plan.ensures.ok c.in_ok-body.body.items body wanted means in
    (wanted, asks, c.perform.ensures)

pub returns-in_err-head-clause-left : goal.returns-in_err-head-clause-left
returns-in_err-head-clause-left g c = error_kept _ _ _ c.from_residual.ensures.1 (left_alone _ _ _ refl c.in_err-head.field-0.0)

pub returns-in_err-plan-clause-left : goal.returns-in_err-plan-clause-left
returns-in_err-plan-clause-left g c = error_kept _ _ _ c.from_residual-in_err-plan.ensures.1 (left_alone _ _ _ refl (error.Fault c.in_err-plan.field-0.0))

pub returns-in_err-body-clause-left : goal.returns-in_err-body-clause-left
returns-in_err-body-clause-left g c = error_kept _ _ _ c.from_residual-in_err-body.ensures.1 (left_alone _ _ _ refl c.in_err-body.field-0.0)

pub returns-clause-left : goal.returns-clause-left
returns-clause-left g c = left_alone _ _ _ refl c.in-Err.error

pub overflow_cast-len : goal.overflow_cast-len
overflow_cast-len g c =
    let told = part_told c.in_ok-head.head c.in_ok-plan.plan c.in_ok-head.ensures.found.1 c.in_ok-plan.ensures.ok c.in-Deposit.is in
    omega (arith, told.2, rw told.1 at c.unwrap_or-len.ensures)

pub returns-in-Deposit-clause-done : goal.returns-in-Deposit-clause-done
returns-in-Deposit-clause-done g c =
    let head = c.in_ok-head.head in
    let plan = c.in_ok-plan.plan in
    let told = part_told head plan c.in_ok-head.ensures.found.1 c.in_ok-plan.ensures.ok c.in-Deposit.is in
    let len = told.1 ∙ ap Some (sym (rw told.1 at c.unwrap_or-len.ensures)) in
    IfOk-weaker c.receive.result _ _
    (λ outcome part. part_done head plan _ _ c.in_ok-head.ensures.found.0 c.in_ok-head.ensures.found.1 c.in_ok-plan.ensures.ok c.in-Deposit.is _ len _ _ _ outcome part)
    (rw c.rest.ensures at c.receive.ensures.done)

pub returns-in-Deposit-clause-error : goal.returns-in-Deposit-clause-error
returns-in-Deposit-clause-error g c =
    let head = c.in_ok-head.head in
    let plan = c.in_ok-plan.plan in
    let told = part_told head plan c.in_ok-head.ensures.found.1 c.in_ok-plan.ensures.ok c.in-Deposit.is in
    let len = told.1 ∙ ap Some (sym (rw told.1 at c.unwrap_or-len.ensures)) in
    IfErr-weaker c.receive.result _ _
    (λ s within. body_error head plan _ _ c.in_ok-head.ensures.found.0 c.in_ok-head.ensures.found.1 c.in_ok-plan.ensures.ok s
    (subst (λ (t : Option ℕ). IfSome (g.R.Read.remaining c.read_head.new.reader) (λ rest. IsBodyError (rest_of head ++ rest) t s)) (sym len) within))
    (rw c.rest.ensures at c.receive.ensures.error)

pub returns-in-Deposit-clause-left : goal.returns-in-Deposit-clause-left
returns-in-Deposit-clause-left g c =
    let sends = part_sent c.in_ok-head.head c.in_ok-plan.plan _ _ c.in_ok-head.ensures.found.0 c.in_ok-head.ensures.found.1 c.in_ok-plan.ensures.ok c.in-Deposit.is in
    IfErr-weaker c.receive.result _ _ (λ s left. part_left _ _ _ sends s left) c.receive.ensures.left
