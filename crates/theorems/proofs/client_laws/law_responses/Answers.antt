use Rattle.theorems.proofs.WholeLemmas.{clients_can_tell, none_begins_another}
use Rattle.theorems.proofs.client_laws.law_responses.Goals as goal

pub returns : goal.returns
returns c = record { one = none_begins_another; read = clients_can_tell }
