-- The connections that are written out, and their events.
use Rattle.std.proofs.Common.{◌≡◌, [], ◌∷◌, Some, false, codes, inl, inr, refl, sym, ap, Ok}
use Rattle.std.specs.Prelude.{filter_map}
use Rattle.std.specs.Fmt.{digits, padded}
use Rattle.schedule.specs.Calendar.{date_of}
use Rattle.vault_volume.specs.declared.volume.Volume as volume
use Rattle.sqlite.specs.Store.{Ghosts}
use Rattle.custody_machine.specs.ExampleLife.{CustodyLives, example_tld}
use Rattle.custody_machine.specs.Machine.{Register, OfRegistry}
use Rattle.custody.specs.declared.answers.Record.TheVariants as record_of
use Rattle.custody.specs.declared.custody.Custody.{Custody}
use Rattle.http_request.specs.RequestMeaning.{asks_for}
use Rattle.http_request.specs.Action.{Do}
use Rattle.http_api.specs.declared.status.ResponseStatus.TheVariants.{Created}
use Rattle.http_api.specs.Connections.{AreConnections, IsConnection, ServerState}
use Rattle.http_api.specs.Responses.{response_bytes, text_response}
use Rattle.theorems.specs.Responses.{record_text}
use Rattle.theorems.specs.Connections.{HaveTaken, event_response}
use Rattle.theorems.specs.ExampleService.{registration_request}
use Rattle.theorems.specs.ExampleConnections.{AcceptsRegistration, ConnectionsHappen, connection_events, connection_responses, example_moment, server_after, server_before}
use Rattle.theorems.proofs.ExampleHistory.{bare_place, begun_bare, registration_move, registry_place}
use Rattle.theorems.proofs.ExampleRequests.{registration_asks}

-- what is told of the registration
told_text : record_text (OfRegistry example_tld 20_667) ≡ codes "registered example 2026-08-02\n"
unfolding date_of digits padded
told_text = refl

module _ {V S : Type 0} {g : volume.Ghosts V} {database : Ghosts S} (old new : Custody V S g database) where
  -- the server between the first connection and the second
  abbrev server_between : ServerState (Custody V S g database)
  server_between = record { requests = Some (codes "PUT /dep" ∷ []); responses = Some (response_bytes (text_response Created (codes "registered example 2026-08-02\n")) ∷ []); custody = new }

  registered : AcceptsRegistration old new → IsConnection (Some example_moment) (server_before old) server_between
  registered accepts = inr (inl (record {
    request = Some registration_request;
    now = example_moment;
    answer = text_response Created (codes "registered example 2026-08-02\n");
    comes = (refl, refl);
    at = refl;
    step = inl (asks_for (Do (Register example_tld 20_667)), registration_asks, (Ok (record { «record» = record_of.Registry example_tld 20_667; is_repeat = false }), accepts, ap (text_response Created) (sym told_text)));
    response = refl;
  }))

  broken_off : IsConnection (Some example_moment) server_between (server_after new)
  broken_off = inr (inr (inl (record { request = Some (codes "PUT /dep"); comes = (refl, refl); step = inl refl; response = refl })))

  nobody : IsConnection (Some example_moment) (server_after new) (server_after new)
  nobody = inl (refl, refl)

  three : AcceptsRegistration old new → AreConnections (Some example_moment) 3 (server_before old) (server_after new)
  three accepts = (server_after new, (server_between, (server_before old, refl, registered accepts), broken_off), nobody)

  taken : HaveTaken (filter_map event_response connection_events) (Some []) (Some connection_responses)
  taken = ap (λ text. Some (response_bytes (text_response Created text) ∷ [] ∷ [])) (sym told_text)

module _ {V S : Type 0} (g : volume.Ghosts V) (database : Ghosts S) (lives : CustodyLives) where
  pub connections_happen : ConnectionsHappen g database
  connections_happen = record {
    served = λ old new accepts. three old new accepts;
    are_events = λ old new. record { each = (refl, (tt, tt)); requests = ([], refl, refl); responses = taken old new };
    lived = record { start = bare_place; end = registry_place; begun = begun_bare; along = (registry_place, registration_move lives, (registry_place, (tt, tt, refl), refl)) };
  }
