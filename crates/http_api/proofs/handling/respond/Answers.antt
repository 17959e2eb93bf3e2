use Rattle.std.proofs.Common.{◌∙◌, inl, inr, refl}
use Rattle.http_request.specs.RequestMeaning.{bad}
use Rattle.http_api.proofs.PartLemmas.{done_serves}
use Rattle.http_api.proofs.handling.respond.Goals as goal

pub returns-in-Ok-clause-serves : goal.returns-in-Ok-clause-serves
returns-in-Ok-clause-serves g c = done_serves _ _ _ _ c.in-Ok.outcome c.in-Ok.ensures.done

pub returns-in-Err-Fault-clause-serves : goal.returns-in-Err-Fault-clause-serves
returns-in-Err-Fault-clause-serves g c =
    let stopped = rw c.in-Err-Fault.field-0-is at c.in-Err-Fault.ensures.error in
    λ answer told. inl (bad c.in-Err-Fault.fault, stopped, (told ∙ c.fault_response.ensures, rw c.in-Err-Fault.field-0-is at c.in-Err-Fault.ensures.left))

pub returns-in-Err-NoMemory-clause-serves : goal.returns-in-Err-NoMemory-clause-serves
returns-in-Err-NoMemory-clause-serves g c =
    λ answer told. inr (told ∙ c.failure_response.ensures, rw c.in-Err-NoMemory.field-0-is at c.in-Err-NoMemory.ensures.left)

pub returns-in-Err-Unread-clause-left : goal.returns-in-Err-Unread-clause-left
returns-in-Err-Unread-clause-left g c = (refl, rw c.in-Err-Unread.field-0-is at c.in-Err-Unread.ensures.left)
