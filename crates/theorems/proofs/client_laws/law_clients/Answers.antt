use Rattle.theorems.proofs.ClientLemmas.{accepted_is_found_once, bodies_are_the_same, clients_end_as_once, repeats_are_told}
use Rattle.theorems.proofs.FetchedLemmas.{no_internal_error, parts_are_fetched, parts_are_fetched_as_sent, revisions_are_explained}
use Rattle.theorems.proofs.ExampleHistory.{services_live}
use Rattle.theorems.proofs.client_laws.law_clients.Goals as goal

pub returns : goal.returns
returns c = record {
  accepted = accepted_is_found_once c.law_asked.ensures;
  again = repeats_are_told c.law_asked.ensures;
  same_body = bodies_are_the_same c.law_asked.ensures;
  no_internal_error = no_internal_error;
  fetched = parts_are_fetched c.law_asked.ensures;
  as_sent = parts_are_fetched_as_sent c.law_asked.ensures;
  explained = revisions_are_explained c.law_asked.ensures;
  ends = clients_end_as_once c.law_asked.ensures;
  happen = services_live c.law_accepted.ensures;
}
