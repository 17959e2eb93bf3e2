-- What holds of an input, where it is known, by the bytes that were read of it.
use Rattle.std.proofs.Common.{◌≡◌, ◌++◌, ℕ, List, Option, Some, None, IfSome, refl}
use Rattle.std.specs.Io.KnownBytes.{Consumes}

-- what holds of each input that begins with the bytes holds of this one
pub of_input : (P : List ℕ → Type 0) (a b : Option (List ℕ)) (bytes : List ℕ) → Consumes a b bytes
    → ((input after : List ℕ) → b ≡ Some after → input ≡ bytes ++ after → P input) → IfSome a P
of_input P None b bytes taken holds = tt
of_input P (Some input) None bytes taken holds = absurd taken
of_input P (Some input) (Some after) bytes taken holds = holds input after refl taken
