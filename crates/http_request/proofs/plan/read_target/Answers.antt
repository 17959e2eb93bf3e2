use Rattle.std.proofs.Common.{rules, ◌≡◌, ◌≢◌, true}
use Rattle.std.specs.List.{list_all}
use Rattle.http_request.specs.Paths.{NamesTarget, is_target_byte}
use Rattle.http_request.specs.RequestMeaning.{method_text}
use Rattle.http_request.specs.Targets.{target_view}
use Rattle.http_request.proofs.PlanLemmas.{method_refused}
use Rattle.http_request.proofs.plan.read_target.Goals as goal

pub returns-then-ne-clause-err : goal.returns-then-ne-clause-err
returns-then-ne-clause-err c = λ h at rest.
    let bytes : list_all is_target_byte h.target ≡ true = search rules in
    let names : NamesTarget h.target (target_view c.in_ok-target.target) = search rules in
    let other : h.method ≢ method_text c.method-method.result = search rules in
    method_refused h (target_view c.in_ok-target.target) bytes names c.method-method.result c.method-method.ensures other rest
