use Rattle.http_request.proofs.OneAsked.{one_asked}
use Rattle.http_request.proofs.laws.law_asked.Goals as goal

pub returns : goal.returns
returns c = one_asked
