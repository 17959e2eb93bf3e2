use Rattle.std.proofs.Common.{◌≡◌, take}
use Rattle.deposit_verify.specs.Checks.{object_uris}
use Rattle.deposit_verify.proofs.menu.first_other_uri.Given as goal

abbrev pub invariant-loop-place : goal.invariant-loop-place
invariant-loop-place l = take l.place l.uris ≡ take l.place object_uris
