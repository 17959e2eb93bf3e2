-- The targets of the code, as what paths name.
use Rattle.std.specs.Prelude.{◌≡◌, ℕ, List, [], ◌∷◌, length, map, take}
use Rattle.std.specs.List.{AllByRecursion}
use Rattle.std.specs.Str.{IsUtf8}
use Rattle.matchit.specs.Params.{walk}
use Rattle.matchit.specs.declared.params.Params.{Params}
use Rattle.http_request.specs.Paths.{row_of, target_at, HasSegments}
use Rattle.http_request.specs.Paths as paths
use Rattle.http_request.specs.declared.routes.Route.{Route}
use Rattle.http_request.specs.declared.routes.Target.{Target}

-- of the three parameters of the code, as many as the route has
abbrev pub target_of : Route → (first second third : List ℕ) → paths.Target
target_of route first second third = target_at route (take (length (row_of route).names) (first ∷ second ∷ third ∷ []))

abbrev pub target_view : Target → paths.Target
target_view target = target_of target.route target.first.now target.second.now target.third.now

-- what the parameters of a match take of a path
abbrev pub parameters_of : Params → List (List ℕ)
parameters_of params = map (λ p. p.1) (walk params.pattern.now params.text.now params.path.now params.names.now 0 0)

-- the target is that of the route and the parameters, where these are its segments
abbrev pub IsTargetOf : Route → List (List ℕ) → paths.Target → Type 0
IsTargetOf route parameters target = HasSegments (target_at route parameters) → AllByRecursion IsUtf8 parameters → target ≡ target_at route parameters

-- the next parameter of a match
abbrev pub IsNextValue : List (List ℕ × List ℕ) → List ℕ → List (List ℕ × List ℕ) → Type 0
IsNextValue [] value rest = Unit {0}
IsNextValue (p ∷ others) value rest = (rest ≡ others) × (IsUtf8 p.1 → value ≡ p.1)
