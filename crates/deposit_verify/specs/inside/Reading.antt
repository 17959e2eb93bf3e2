-- Deposits are read in one way, for private clauses.
use Rattle.std.specs.Prelude.{◌≡◌, ℕ, List}
use Rattle.envelope.specs.Envelope.{Env, IsEnvelope, env_text}
use Rattle.envelope.specs.Frame.{IsFrame}

-- no text is the text of two envelopes, and none is a frame in two ways
pub record OneReading : Type 0 where
  pub envelope : (v w : Env) → IsEnvelope v → IsEnvelope w → env_text v ≡ env_text w → v ≡ w
  pub frame : (t a b x y : List ℕ) → IsFrame t a x → IsFrame t b y → (a ≡ b) × (x ≡ y)
