use Rattle.http_request.proofs.Finding.{target_read, none_named}
use Rattle.http_request.proofs.routes.Routes.find.Goals as goal

pub returns-in-Ok-clause-found : goal.returns-in-Ok-clause-found
returns-in-Ok-clause-found c =
    let is_first = rw c.args.self.now.routed at c.in-Ok.ensures.found in
    let read = rw c.in-Ok.ensures.path at c.target_of.ensures in
    target_read c.args.path.now c.requires _ c.target_of.result is_first read

pub returns-in-Err-clause-none : goal.returns-in-Err-clause-none
returns-in-Err-clause-none c =
    let is_first = rw c.args.self.now.routed at c.in-Err.ensures.missing in
    none_named c.args.path.now c.requires is_first
