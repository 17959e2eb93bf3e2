-- The routes of the HTTP interface, and what its paths name.
use Rattle.std.specs.Prelude.{◌≡◌, ◌<◌, ℕ, List, [], ◌∷◌, ◌++◌, length, codes, Bool, true, false, Option, Some, None, ◌==◌, ◌||◌}
use Rattle.std.specs.Char.{is_ascii_alphanumeric}
use Rattle.std.specs.List.{list_any, AllZip}
use Rattle.http_request.specs.declared.faults.Method.{Method}
use Rattle.http_request.specs.declared.faults.Method.TheVariants.{Get, Post, Put}
use Rattle.http_request.specs.declared.routes.Route.{Route}
use Rattle.http_request.specs.declared.routes.Route.TheVariants as of

pub record RouteRow : Type 0 where
  -- what its paths begin with, and the names of the parameters behind it
  pub front : List ℕ
  pub names : List (List ℕ)
  pub method : Method
  -- the most bytes of a body, where the route takes one, and whether that is JSON
  pub limit : Option ℕ
  pub takes_json : Bool

abbrev pub route_row : List ℕ → List (List ℕ) → Method → Option ℕ → Bool → RouteRow
route_row front names method limit json = record { front = front; names = names; method = method; limit = limit; takes_json = json }

abbrev pub row_of : Route → RouteRow
row_of of.Registry = route_row (codes "/registries/") (codes "tld" ∷ []) Put (Some 4096) true
row_of of.Deposit = route_row (codes "/deposits/") (codes "name" ∷ []) Put (Some 1_048_576) false
row_of of.Statements = route_row (codes "/statements") [] Post (Some 4096) true
row_of of.Check = route_row (codes "/checks/") (codes "tld" ∷ codes "date" ∷ []) Post (Some 0) false
row_of of.Release = route_row (codes "/releases/") (codes "reference" ∷ []) Put (Some 4096) true
row_of of.ReleasedPart = route_row (codes "/releases/") (codes "reference" ∷ codes "name" ∷ []) Get None false
row_of of.Hold = route_row (codes "/holds/") (codes "reference" ∷ []) Put (Some 4096) true
row_of of.Lift = route_row (codes "/lifts/") (codes "reference" ∷ []) Post (Some 0) false
row_of of.Notices = route_row (codes "/notices/") (codes "tld" ∷ []) Get None false
row_of of.Reasons = route_row (codes "/reasons/") (codes "tld" ∷ codes "date" ∷ codes "revision" ∷ []) Get None false
row_of of.Digests = route_row (codes "/digests/") (codes "tld" ∷ []) Get None false
row_of of.State = route_row (codes "/state") [] Get None false
row_of of.Due = route_row (codes "/due") [] Get None false
row_of of.Purges = route_row (codes "/purges") [] Post (Some 0) false

-- a route, and its parameters in the order of the path
pub record Target : Type 0 where
  pub route : Route
  pub parameters : List (List ℕ)

abbrev pub target_at : Route → List (List ℕ) → Target
target_at route parameters = record { route = route; parameters = parameters }

-- a slash between each two
abbrev pub with_slashes : List (List ℕ) → List ℕ
with_slashes [] = []
with_slashes (part ∷ []) = part
with_slashes (part ∷ next ∷ parts) = part ++ (codes "/" ++ with_slashes (next ∷ parts))

abbrev pub path_text : Route → List (List ℕ) → List ℕ
path_text route parts = (row_of route).front ++ with_slashes parts

-- one or more bytes other than `/`
pub record IsSegment (bytes : List ℕ) : Type 0 where
  pub some : 0 < length bytes
  pub no_slash : list_any (λ b. b == 47) bytes ≡ false

-- a segment for each parameter
abbrev pub HasSegments : Target → Type 0
HasSegments target = AllZip (λ name part. IsSegment part) (row_of target.route).names target.parameters

-- the path names the target
abbrev pub NamesTarget : List ℕ → Target → Type 0
NamesTarget path target = HasSegments target × (path ≡ path_text target.route target.parameters)

-- a byte of `A-Z a-z 0-9 / - _ .`
abbrev pub is_target_byte : ℕ → Bool
is_target_byte b = is_ascii_alphanumeric b || (b == 47 || (b == 45 || (b == 95 || b == 46)))

abbrev pub method_of : Target → Method
method_of target = (row_of target.route).method

abbrev pub limit_of : Target → Option ℕ
limit_of target = (row_of target.route).limit

abbrev pub takes_json : Target → Bool
takes_json target = (row_of target.route).takes_json
