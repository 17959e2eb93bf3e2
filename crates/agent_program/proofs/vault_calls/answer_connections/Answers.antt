use Rattle.std.proofs.Common.{◌≡◌, ◌≤◌, ℕ, refl, sym, ◌∙◌, arith}
use Rattle.std.proofs.KnownBytes.{Appends-nil}
use Rattle.http_api.specs.declared.connections.ServiceError.{ServiceError}
use Rattle.http_api.specs.declared.connections.ServiceError.TheVariants.{Socket, Clock, Closed}
use Rattle.http_api.specs.Connections.{MayEndAfter}
use Rattle.http_api.specs.Connections.{socket_state}
use Rattle.agent_program.proofs.ConnectionLemmas.{custody_left}
use Rattle.agent_program.proofs.vault_calls.answer_connections.Goals as goal

not_done : {P : Type 0} (status : ℕ) → status ≡ 3 → status ≡ 0 → P
not_done status failed done = absurd (omega (arith, failed, done))

at_most : (fault : ServiceError) (served count : ℕ) → MayEndAfter fault served count → served ≤ count
at_most (Socket port cause) served count fewer = omega (arith, fewer)
at_most Clock served count fewer = omega (arith, fewer)
at_most (Closed why) served count fewer = fewer

-- where it does not listen, no connection is answered
pub returns-in-Err-clause-turns : goal.returns-in-Err-clause-turns
returns-in-Err-clause-turns g c = (0, omega arith, not_done _ c.print_service_error.ensures, (socket_state c.args.custody.now, socket_state c.args.custody.now, refl, refl, refl))

pub returns-in-Err-clause-told : goal.returns-in-Err-clause-told
returns-in-Err-clause-told g c = (not_done _ c.print_service_error.ensures, (0, omega arith, Appends-nil _))

-- nor where it is not printed where it listens
pub returns-then-status-number-clause-turns : goal.returns-then-status-number-clause-turns
returns-then-status-number-clause-turns g c = (0, omega arith, (λ done. absurd (c.if-status-number.true (done ∙ sym c.number.ensures))), (socket_state c.args.custody.now, socket_state c.args.custody.now, refl, refl, refl))

-- no further connection is served
pub returns-clause-turns : goal.returns-clause-turns
returns-clause-turns g c =
    let fault = c.in-Err-served.fault in
    let ended = c.in-Err-served.ensures.fewer in
    (ended.served, at_most fault ended.served c.args.requests ended.fewer, not_done _ c.print_service_error-in-Err-served.ensures, (_, ended.last, refl, ended.turns, custody_left fault ended.last _ ended.left))

-- there is no memory for the routes
pub returns-in_default-clause-turns : goal.returns-in_default-clause-turns
returns-in_default-clause-turns g c = (0, omega arith, not_done _ c.tell.ensures.status, (socket_state c.args.custody.now, socket_state c.args.custody.now, refl, refl, refl))

-- all connections are served
pub returns-in-Ok-served-clause-turns : goal.returns-in-Ok-served-clause-turns
returns-in-Ok-served-clause-turns g c = (c.args.requests, omega arith, (λ _. refl), (_, _, refl, c.in-Ok-served.ensures.all, refl))
