use Rattle.std.proofs.Common.{◌≡◌, ◌∙◌, [], Result, Ok, Err, ap₂, arith, inl, inr, refl, sym}
use Rattle.std.proofs.lemmas.List.Sums.{fold_more}
use Rattle.matchit.specs.Rows.{RowsOf}
use Rattle.matchit.specs.Order.{placed}
use Rattle.matchit.specs.Route.{Scan, parse_route}
use Rattle.matchit.specs.Router.{RouteOf, InsertsRead, route_from}
use Rattle.matchit.specs.declared.error.InsertError.{InsertError}
use Rattle.http_request.specs.declared.routes.Route.{Route}
use Rattle.http_request.specs.RouteTable.{route_text, routes, scan_in, with_route}
use Rattle.http_request.proofs.routes.route_table.Goals as goal

route_inserted : (route : Route) (old new : RowsOf (RouteOf Route)) → InsertsRead (parse_route (route_text route)) route old new (Ok tt) → new ≡ with_route old route
route_inserted route old new h = by (parse_route (route_text route)) h
  where
    by : (scan : Result Scan InsertError) → InsertsRead scan route old new (Ok tt) → new ≡ placed ((scan_in scan).pattern, route_from (scan_in scan) route) old
    by (Ok scan) (none, is) = is
    by (Err error) (is, inl e) = cc
    by (Err error) (is, inr e) = cc

pub loop-route-preserved : goal.loop-route-preserved
loop-route-preserved c =
    route_inserted _ _ _ (rw c.row.ensures.path at c.in_ok-insert.ensures) ∙ ap₂ with_route c.loop-route.invariant refl
    ∙ sym (fold_more with_route [] routes c.loop-route.route-index _ (omega arith))
