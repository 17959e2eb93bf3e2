-- Connections written out by the bytes that the clients send, so that the law of connections speaks of something: a registration that is answered 201, a client that breaks off within its request, and nobody.
use Rattle.std.specs.Prelude.{ℕ, List, [], ◌∷◌, None, Some, codes, false, Ok}
use Rattle.vault_volume.specs.declared.volume.Volume as volume
use Rattle.sqlite.specs.Store.{Ghosts}
use Rattle.custody_machine.specs.State.{empty}
use Rattle.custody_machine.specs.Machine.{Register, OfRegistry}
use Rattle.custody_machine.specs.ExampleLife.{clock_moment, example_tld}
use Rattle.custody.specs.declared.answers.Record.TheVariants as record_of
use Rattle.custody.specs.declared.custody.Custody.{Custody}
use Rattle.custody.specs.Custody.{HasApplied}
use Rattle.http_api.specs.declared.status.ResponseStatus.TheVariants.{Created}
use Rattle.http_api.specs.Connections.{AreConnections, ServerState}
use Rattle.http_api.specs.Responses.{response_bytes, text_response}
use Rattle.theorems.specs.Service.{ServiceEvent, Exchanged, Unread, IsServiceHistory}
use Rattle.theorems.specs.ExampleService.{command_request, registration_request}
use Rattle.theorems.specs.Connections.{AreServerEvents}

abbrev pub example_moment : ℕ
example_moment = clock_moment 20_667 9 0

-- the requests, of which the second breaks off
abbrev pub connection_requests : List (List ℕ)
connection_requests = registration_request ∷ codes "PUT /dep" ∷ []

-- what their clients take
abbrev pub connection_responses : List (List ℕ)
connection_responses = response_bytes (text_response Created (codes "registered example 2026-08-02\n")) ∷ [] ∷ []

-- the events of the connections
abbrev pub connection_events : List ServiceEvent
connection_events =
    Exchanged (command_request registration_request (Register example_tld 20_667) example_moment (OfRegistry example_tld 20_667)).last
    ∷ Unread (codes "PUT /dep") None
    ∷ []

-- a server before its clients come, and after them
abbrev pub server_before : {C : Type 0} → C → ServerState C
server_before custody = record { requests = Some connection_requests; responses = Some []; custody = custody }

abbrev pub server_after : {C : Type 0} → C → ServerState C
server_after custody = record { requests = Some []; responses = Some connection_responses; custody = custody }

module _ {V S : Type 0} {g : volume.Ghosts V} {database : Ghosts S} where
  -- a custody accepts the registration
  abbrev pub AcceptsRegistration : Custody V S g database → Custody V S g database → Type 0
  AcceptsRegistration old new = HasApplied old (Register example_tld 20_667) example_moment (Ok (record { «record» = record_of.Registry example_tld 20_667; is_repeat = false })) new

module _ {V S : Type 0} (g : volume.Ghosts V) (database : Ghosts S) where
  pub record ConnectionsHappen : Type 0 where
    -- A server whose custody accepts the registration serves three such connections, each at this moment.
    pub served : (old new : Custody V S g database) → AcceptsRegistration old new → AreConnections (Some example_moment) 3 (server_before old) (server_after new)
    -- These are their events.
    pub are_events : (old new : Custody V S g database) → AreServerEvents (Some example_moment) (server_before old) (server_after new) connection_events
    -- They are a history of a service, from nothing.
    pub lived : IsServiceHistory empty connection_events
