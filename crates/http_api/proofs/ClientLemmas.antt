-- What clients have taken.
use Rattle.std.proofs.Common.{◌≡◌, ◌∙◌, ◌-◌, ◌++◌, [], ◌∷◌, ℕ, List, Option, Some, None, IfSome, ap, arith, length, map, subst}
use Rattle.std.specs.Io.KnownBytes.{Appends}
use Rattle.std.proofs.Math.ListN.{set}
use Rattle.std.proofs.Math.Seq.{set-append_seam}
use Rattle.std.proofs.lemmas.List.{length-append, length-map, map-set}
use Rattle.http_api.specs.Clients.{GainsResponse, LastHasTaken}

-- one that came, and then took bytes, is one more that took them
pub gains_taken : (bytes : List ℕ) (old began new : Option (List (List ℕ))) → GainsResponse [] old began → LastHasTaken (Some bytes) began new → GainsResponse bytes old new
gains_taken bytes None None new came taken = taken
gains_taken bytes None (Some responses) new came taken = cc
gains_taken bytes (Some responses) None new came taken = cc
gains_taken bytes (Some responses) (Some began) new came taken = taken responses [] (cc)

-- bytes that a writer with nothing in it has gained are all that the client has taken
pub has_taken : (bytes : List ℕ) (before taken : Option (List ℕ)) (began after : Option (List (List ℕ))) → IfSome began (λ _. before ≡ Some []) → Appends before taken bytes → LastHasTaken taken began after
    → LastHasTaken (Some bytes) began after
has_taken bytes before taken None after nothing gained last = last
has_taken bytes None taken (Some began) after nothing gained last = cc
has_taken bytes (Some held) None (Some began) after nothing gained last = absurd gained
has_taken bytes (Some held) (Some all) (Some began) after nothing gained last =
    let empty : held ≡ [] = cc in
    let same : all ≡ bytes = gained ∙ ap (λ xs. xs ++ bytes) empty in
    subst (λ (xs : List ℕ). LastHasTaken (Some xs) (Some began) after) same last

-- the last of those that took something has taken something else
pub last_set : {A : Type 0} (f : A → List ℕ) (xs : List A) (n : ℕ) (x : A) (others : List (List ℕ)) (last : List ℕ) → n ≡ length xs → map f xs ≡ others ++ last ∷ [] → map f (set xs (n - 1) x) ≡ others ++ f x ∷ []
last_set f xs n x others last len are =
    let at : n - 1 ≡ length others = omega (arith, length-map xs f, ap length are, length-append others (last ∷ [])) in
    map-set f xs (n - 1) x ∙ ap (λ ys. set ys (n - 1) (f x)) are ∙ ap (λ i. set (others ++ last ∷ []) i (f x)) at ∙ set-append_seam others last [] (f x)
