-- What one client makes of a connection, and one connection more.
use Rattle.std.proofs.Common.{◌≡◌, ◌+◌, ◌<◌, ◌≤◌, inl, inr, ℕ, List, [], length, take, Option, Some, IfSome, IfOk, IfErr, Result, Ok, Err, add-one, arith, refl, subst, sym}
use Rattle.std.specs.Prelude.{OnErr, OnOk}
use Rattle.std.specs.Io.KnownBytes.{Keeps}
use Rattle.vault_volume.specs.declared.volume.Volume as volume
use Rattle.sqlite.specs.Store.{Ghosts}
use Rattle.desk.specs.Lines.{AppendsBeginning}
use Rattle.custody.specs.declared.custody.Custody.{Custody}
use Rattle.http_api.specs.declared.clients.Clients as clients
use Rattle.http_api.specs.declared.connections.ServiceError.{ServiceError}
use Rattle.http_api.specs.declared.connections.ServiceError.TheVariants.{Socket, Clock, Closed}
use Rattle.http_api.specs.declared.handling.PendingResponse.{PendingResponse}
use Rattle.http_api.specs.declared.handling.Served.{Served}
use Rattle.http_api.specs.declared.handling.ServeError.{ServeError}
use Rattle.http_api.specs.declared.handling.ServeError.TheVariants as failed
use Rattle.http_api.specs.Responses.{HttpResponse, response_bytes}
use Rattle.http_api.specs.Handling.{IsCompletedAs, IsNoCommand, IsRequestServed, IsServed}
use Rattle.http_api.specs.Clients.{FirstComes, GainsResponse, LastHasTaken}
use Rattle.http_api.specs.Connections.{AreConnections, IsConnection, MayEndAfter, ServerState, server_state}
use Rattle.http_api.proofs.ClientLemmas.{gains_taken}

-- clients that reveal what they revealed before
pub same_server : {K Sender Taker C : Type 0} (revealed : clients.Ghosts K Sender Taker) (before after : K) (custody : C) → revealed.requests after ≡ revealed.requests before → revealed.responses after ≡ revealed.responses before
    → server_state revealed after custody ≡ server_state revealed before custody
same_server {C = C} revealed before after custody requests responses =
    let server : Option (List (List ℕ)) → Option (List (List ℕ)) → ServerState C = λ coming taken. record { requests = coming; responses = taken; custody = custody } in
    subst (λ coming. server coming (revealed.responses after) ≡ server_state revealed before custody) (sym requests)
    (subst (λ taken. server (revealed.requests before) taken ≡ server_state revealed before custody) (sym responses) refl)

-- a turn fails before so many
pub fails_before : (fault : ServiceError) (served count : ℕ) → served < count → MayEndAfter fault served count
fails_before (Socket port cause) served count fewer = fewer
fails_before Clock served count fewer = fewer
fails_before (Closed why) served count fewer = omega (arith, fewer)

module _ {V S : Type 0} {g : volume.Ghosts V} {database : Ghosts S} where
  -- where a writer fails, it has taken a beginning of the response
  pub response_begun : (request : Option (List ℕ)) (moment : ℕ) (old new : Custody V S g database) (outcome : Result PendingResponse ServeError) (result : Result Served ServeError) (before taken : Option (List ℕ))
      → IfOk outcome (λ pending. IsRequestServed request moment old pending new) → IfErr outcome (λ error. (error ≡ failed.Read) × IsNoCommand request old new)
      → OnErr result (IfOk outcome (λ pending. (result ≡ Err failed.Write) × (answer : HttpResponse) × IsCompletedAs new pending answer × AppendsBeginning before taken (response_bytes answer)))
      → IfErr outcome (λ error. (result ≡ Err error) × Keeps before taken)
      → result ≡ Err failed.Write → (answer : HttpResponse) × IsServed request moment old answer new × AppendsBeginning before taken (response_bytes answer)
  response_begun request moment old new (Ok pending) (Ok served) before taken serves left write read is = cc
  response_begun request moment old new (Ok pending) (Err error) before taken serves left write read is = (write.1, serves write.1 write.2, write.3)
  response_begun request moment old new (Err error) result before taken serves left write read is = let no = left.0 in let said = read.0 in cc

  -- a client that came, and was served or lost
  pub client_turn : (given : Option ℕ) (moment : ℕ) (request : Option (List ℕ)) (old began new : ServerState (Custody V S g database)) (result : Result Served ServeError)
      → IfSome given (λ m. moment ≡ m) → FirstComes request old.requests began.requests → GainsResponse [] old.responses began.responses → new.requests ≡ began.requests
      → OnOk result ((answer : HttpResponse) × IsServed request moment old.custody answer new.custody × LastHasTaken (Some (response_bytes answer)) began.responses new.responses)
      → (result ≡ Err failed.Read → IsNoCommand request old.custody new.custody × LastHasTaken (Some []) began.responses new.responses)
      → (result ≡ Err failed.Write → (answer : HttpResponse) × IsServed request moment old.custody answer new.custody
      × (taken : ℕ) × (taken ≤ length (response_bytes answer)) × LastHasTaken (Some (take taken (response_bytes answer))) began.responses new.responses)
      → IsConnection given old new
  client_turn given moment request old began new (Ok served) at comes came others done read write =
      inr (inl (record {
        request = request;
        now = moment;
        answer = done.0;
        comes = rw others comes;
        at = at;
        step = done.1;
        response = gains_taken _ old.responses began.responses new.responses came done.2;
      }))
  client_turn given moment request old began new (Err failed.Read) at comes came others done read write =
      let lost = read refl in
      inr (inr (inl (record {
        request = request;
        comes = rw others comes;
        step = lost.0;
        response = gains_taken _ old.responses began.responses new.responses came lost.1;
      })))
  client_turn given moment request old began new (Err failed.Write) at comes came others done read write =
      let lost = write refl in
      inr (inr (inr (record {
        request = request;
        now = moment;
        answer = lost.0;
        taken = lost.2;
        comes = rw others comes;
        at = at;
        step = lost.1;
        within = lost.3;
        response = gains_taken _ old.responses began.responses new.responses came lost.4;
      })))

  pub turns_more : (given : Option ℕ) (n : ℕ) (old between new : ServerState (Custody V S g database)) → AreConnections given n old between → IsConnection given between new → AreConnections given (n + 1) old new
  turns_more given n old between new before turn = subst (λ (m : ℕ). AreConnections given m old new) (sym (add-one n)) (between, before, turn)
