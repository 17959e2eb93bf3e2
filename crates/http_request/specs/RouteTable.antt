-- The rows that the routes are in a router.
use Rattle.std.specs.Prelude.{◌≡◌, ℕ, List, [], ◌∷◌, ◌++◌, codes, fold, map, Result, Ok, Err}
use Rattle.std.specs.Coded.{Coded, Coded-set, code_by, coded×, coded_list, coded_ℕ}
use base.Stored.{coded_via}
use denote.Enum.Bare.{tag_one}
use denote.Enum.Declared.{tag_of}
use mathlib.Core.Path.{refl}
use Rattle.matchit.specs.Rows.{RowsOf}
use Rattle.matchit.specs.Order.{placed}
use Rattle.matchit.specs.Route.{Scan, parse_route, scan_start}
use Rattle.matchit.specs.Router.{RouteOf, route_from}
use Rattle.matchit.specs.declared.error.InsertError.{InsertError}
use Rattle.http_request.specs.Paths.{row_of, path_text}
use Rattle.http_request.specs.declared.routes.Route.{Route}
use Rattle.http_request.specs.declared.routes.Route.TheVariants as route
use Rattle.http_request.specs.contracts.routes.Route.{the_type}

abbrev pub routes : List Route
routes =
    route.Registry ∷ route.Deposit ∷ route.Statements ∷ route.Check ∷ route.Release ∷ route.ReleasedPart ∷ route.Hold
    ∷ route.Lift ∷ route.Notices ∷ route.Reasons ∷ route.Digests ∷ route.State ∷ route.Due ∷ route.Purges ∷ []

-- a path of the route with the names of its parameters in braces, as a router reads it
abbrev pub route_text : Route → List ℕ
route_text route = path_text route (map (λ name. codes "{" ++ (name ++ codes "}")) (row_of route).names)

abbrev pub scan_in : Result Scan InsertError → Scan
scan_in (Ok scan) = scan
scan_in (Err error) = scan_start

abbrev pub entry_of : Route → RouteOf Route
entry_of route = route_from (scan_in (parse_route (route_text route))) route

abbrev pub with_route : RowsOf (RouteOf Route) → Route → RowsOf (RouteOf Route)
with_route rows route = placed ((entry_of route).pattern, entry_of route) rows

abbrev pub route_table : RowsOf (RouteOf Route)
route_table = fold with_route [] routes

-- ---- that a router has these rows can be known in one way only

coded_route : Coded Route
coded_route = coded_via coded_ℕ (tag_of the_type) (tag_one the_type tt)

coded_entry : Coded (RouteOf Route)
coded_entry =
    code_by (List ℕ × (List ℕ × (List (ℕ × ℕ) × Route))) (coded× (coded_list coded_ℕ) (coded× (coded_list coded_ℕ) (coded× (coded_list (coded× coded_ℕ coded_ℕ)) coded_route)))
    (λ e. (e.pattern, (e.text, (e.names, e.value)))) (λ p. record { pattern = p.0; text = p.1.0; names = p.1.1.0; value = p.1.1.1 }) (λ _. refl)

pub is_table_prop : (rows : RowsOf (RouteOf Route)) → IsProp (rows ≡ route_table)
is_table_prop rows = Coded-set (coded_list (coded× (coded_list coded_ℕ) coded_entry)) rows route_table
