use Rattle.std.proofs.Common.{◌≡◌, take}
use Rattle.deposit_verify.specs.Checks.{object_uris}
use Rattle.deposit_pack.proofs.envelopes.object_uris.Given as goal

abbrev pub invariant-loop-place : goal.invariant-loop-place
invariant-loop-place l = l.uris.items ≡ take l.place object_uris
