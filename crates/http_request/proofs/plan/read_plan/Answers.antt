use Rattle.http_request.specs.RequestMeaning.{content_lengths}
use Rattle.http_request.specs.Targets.{target_view}
use Rattle.http_request.proofs.Asking.{error_kept}
use Rattle.http_request.proofs.PlanLemmas.{some_values, below_five, length_refused, below_nine}
use Rattle.http_request.proofs.plan.read_plan.Goals as goal

pub returns-in_default-clause-err : goal.returns-in_default-clause-err
returns-in_default-clause-err c = λ h at rest.
    (some_values _ c.field_values.result (c.field_values.ensures h at) c.in_default.not-None, below_five h (target_view c.in_ok-target.target) (c.in_ok-target.ensures.ok h at) rest)

pub returns-in_err-length-clause-err : goal.returns-in_err-length-clause-err
returns-in_err-length-clause-err c = error_kept _ c.from_residual-in_err-length.result _ c.from_residual-in_err-length.ensures.1 (λ h at rest.
    let refused = rw c.limit.ensures at (c.in_err-length.ensures.err (content_lengths h) (c.field_values-values.ensures h at)) in
    length_refused h (target_view c.in_ok-target.target) (c.in_ok-target.ensures.ok h at) rest (c.in-None.ensures h at) _ refused)

pub returns-clause-ok : goal.returns-clause-ok
returns-clause-ok c = λ h at.
    let reached = c.in_ok-target.ensures.ok h at in
    let fits = rw c.limit.ensures at (c.in_ok-length.ensures.ok (content_lengths h) (c.field_values-values.ensures h at)) in
    (reached.names, fits, λ rest. below_nine h (target_view c.in_ok-target.target) reached rest (c.in-None.ensures h at) _ fits)
