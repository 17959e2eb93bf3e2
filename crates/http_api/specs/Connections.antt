-- What a server does for its clients, one after the other.
use Rattle.std.specs.Prelude.{◌≡◌, ◌⊎◌, ◌<◌, ◌≤◌, ℕ, zero, suc, List, [], codes, length, take, Option, None, Some, IfSome}
use Rattle.vault_volume.specs.declared.volume.Volume as volume
use Rattle.sqlite.specs.Store.{Ghosts}
use Rattle.custody_machine.specs.Texts.{failure_text}
use Rattle.custody.specs.declared.custody.Custody.{Custody}
use Rattle.http_api.specs.declared.clients.Clients as clients
use Rattle.http_api.specs.declared.connections.ServiceError.{ServiceError}
use Rattle.http_api.specs.declared.connections.ServiceError.TheVariants.{Socket, Clock, Closed}
use Rattle.http_api.specs.Clients.{FirstComes, GainsResponse, IsNobodyLeft}
use Rattle.http_api.specs.Responses.{HttpResponse, response_bytes}
use Rattle.http_api.specs.Handling.{IsNoCommand, IsServed}

-- why no further connection is served; the cause of a socket is told in the words of the system
abbrev pub service_error_text : ServiceError → Option (List ℕ)
service_error_text (Socket port cause) = None
service_error_text Clock = Some (codes "clock failed")
service_error_text (Closed why) = Some (failure_text why)

-- so many connections are served before it, of those that are wanted; the last of them may close the custody
abbrev pub MayEndAfter : ServiceError → (served count : ℕ) → Type 0
MayEndAfter (Socket port cause) served count = served < count
MayEndAfter Clock served count = served < count
MayEndAfter (Closed why) served count = served ≤ count

-- A server: the requests that are still to come and what each client that came has taken, where these are known, and its custody.
pub record ServerState (C : Type 0) : Type 0 where
  pub requests : Option (List (List ℕ))
  pub responses : Option (List (List ℕ))
  pub custody : C

-- the server of these clients, by what they reveal
abbrev pub server_state : {K Sender Taker C : Type 0} → clients.Ghosts K Sender Taker → K → C → ServerState C
server_state revealed them custody = record { requests = revealed.requests them; responses = revealed.responses them; custody = custody }

-- a server over sockets, which reveal nothing
abbrev pub socket_state : {C : Type 0} → C → ServerState C
socket_state custody = record { requests = None; responses = None; custody = custody }

module _ {V S : Type 0} {g : volume.Ghosts V} {database : Ghosts S} where
  -- nobody comes
  abbrev pub NobodyComes : ServerState (Custody V S g database) → ServerState (Custody V S g database) → Type 0
  NobodyComes old new = IsNobodyLeft old.requests × (new ≡ old)

  -- A client is served: the custody takes the step that its request asks for, at its moment, which is the one that is given, where one is, and the client takes the whole response.
  pub record IsClientServed (given : Option ℕ) (old new : ServerState (Custody V S g database)) : Type 0 where
    pub request : Option (List ℕ)
    pub now : ℕ
    pub answer : HttpResponse
    pub comes : FirstComes request old.requests new.requests
    pub at : IfSome given (λ moment. now ≡ moment)
    pub step : IsServed request now old.custody answer new.custody
    pub response : GainsResponse (response_bytes answer) old.responses new.responses

  -- its request breaks off: no command is done, and it takes nothing
  pub record IsRequestLost (old new : ServerState (Custody V S g database)) : Type 0 where
    pub request : Option (List ℕ)
    pub comes : FirstComes request old.requests new.requests
    pub step : IsNoCommand request old.custody new.custody
    pub response : GainsResponse [] old.responses new.responses

  -- its response breaks off: the step is taken, and the client takes a beginning of the response
  pub record IsResponseLost (given : Option ℕ) (old new : ServerState (Custody V S g database)) : Type 0 where
    pub request : Option (List ℕ)
    pub now : ℕ
    pub answer : HttpResponse
    pub taken : ℕ
    pub comes : FirstComes request old.requests new.requests
    pub at : IfSome given (λ moment. now ≡ moment)
    pub step : IsServed request now old.custody answer new.custody
    pub within : taken ≤ length (response_bytes answer)
    pub response : GainsResponse (take taken (response_bytes answer)) old.responses new.responses

  abbrev pub IsClientLost : Option ℕ → ServerState (Custody V S g database) → ServerState (Custody V S g database) → Type 0
  IsClientLost given old new = IsRequestLost old new ⊎ IsResponseLost given old new

  -- one connection, or none that is there
  abbrev pub IsConnection : Option ℕ → ServerState (Custody V S g database) → ServerState (Custody V S g database) → Type 0
  IsConnection given old new = NobodyComes old new ⊎ (IsClientServed given old new ⊎ IsClientLost given old new)

  -- so many connections
  abbrev pub AreConnections : Option ℕ → ℕ → ServerState (Custody V S g database) → ServerState (Custody V S g database) → Type 0
  AreConnections given zero old new = new ≡ old
  AreConnections given (suc n) old new = (between : ServerState (Custody V S g database)) × AreConnections given n old between × IsConnection given between new

  -- nobody comes, or a client that comes is let go and takes nothing
  abbrev pub MayHaveCome : ServerState (Custody V S g database) → ServerState (Custody V S g database) → Type 0
  MayHaveCome old new =
      NobodyComes old new
      ⊎ ((request : Option (List ℕ)) × FirstComes request old.requests new.requests × GainsResponse [] old.responses new.responses × (new.custody ≡ old.custody))

  -- what is left where no further connection is served; the clock is read when a client may have come
  abbrev pub ServiceErrorLeaves : ServiceError → ServerState (Custody V S g database) → ServerState (Custody V S g database) → Type 0
  ServiceErrorLeaves (Socket port cause) old new = new ≡ old
  ServiceErrorLeaves Clock old new = MayHaveCome old new
  ServiceErrorLeaves (Closed why) old new = new ≡ old

  -- so many connections are served, and then no further one
  pub record ConnectionsEnd (given : Option ℕ) (count : ℕ) (fault : ServiceError) (old new : ServerState (Custody V S g database)) : Type 0 where
    pub served : ℕ
    pub last : ServerState (Custody V S g database)
    pub fewer : MayEndAfter fault served count
    pub turns : AreConnections given served old last
    pub left : ServiceErrorLeaves fault last new
