use Rattle.std.specs.Prelude.{◌≡◌, [], fold, take}
use Rattle.http_request.specs.RouteTable.{routes, with_route}
use Rattle.http_request.proofs.routes.route_table.Given as goal

abbrev pub invariant-loop-route : goal.invariant-loop-route
invariant-loop-route l = l.router ≡ fold with_route [] (take l.route-index routes)
