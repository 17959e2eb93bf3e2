-- What is known of clients: the requests of those that are still to come, and what each that came has taken. What is unknown stays unknown.
use Rattle.std.specs.Prelude.{◌≡◌, ℕ, List, [], ◌∷◌, ◌++◌, Option, Some, None, IfSome}
use Rattle.http_api.specs.declared.connections.ServiceError.{ServiceError}
use Rattle.http_api.specs.declared.connections.ServiceError.TheVariants.{Socket}

-- the socket fails
abbrev pub IsOfSocket : ServiceError → Type 0
IsOfSocket (Socket port cause) = Unit {0}
IsOfSocket fault = ⊥

-- no client is still to come, where this is known
abbrev pub IsNobodyLeft : Option (List (List ℕ)) → Type 0
IsNobodyLeft requests = IfSome requests (λ left. left ≡ [])

-- a client comes with this request, which is the first of those that are known
abbrev pub FirstComes : Option (List ℕ) → Option (List (List ℕ)) → Option (List (List ℕ)) → Type 0
FirstComes request None later = later ≡ None
FirstComes request (Some []) later = ⊥
FirstComes request (Some (first ∷ others)) later = (request ≡ Some first) × (later ≡ Some others)

-- one more client came, and has taken these bytes
abbrev pub GainsResponse : List ℕ → Option (List (List ℕ)) → Option (List (List ℕ)) → Type 0
GainsResponse bytes None new = new ≡ None
GainsResponse bytes (Some responses) new = new ≡ Some (responses ++ bytes ∷ [])

-- the client that came last has taken these bytes, where they are known
abbrev pub LastHasTaken : Option (List ℕ) → Option (List (List ℕ)) → Option (List (List ℕ)) → Type 0
LastHasTaken taken None new = new ≡ None
LastHasTaken taken (Some responses) new =
    IfSome taken (λ bytes. (others : List (List ℕ)) (last : List ℕ) → responses ≡ others ++ last ∷ [] → new ≡ Some (others ++ bytes ∷ []))
