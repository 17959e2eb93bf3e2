use Rattle.std.proofs.Common.{Ok, Err, refl}
use Rattle.http_api.proofs.handling.fetch.Goals as goal

pub returns-in-Ok : goal.returns-in-Ok
returns-in-Ok g c = (Ok c.fetch.new.out.items, c.in-Ok.ensures.fetched, refl)

pub returns-in-Err : goal.returns-in-Err
returns-in-Err g c = (Err c.in-Err.refused, c.in-Err.ensures.fetched, c.refused_response.ensures)
