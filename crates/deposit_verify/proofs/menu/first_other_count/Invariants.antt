use Rattle.std.proofs.Common.{◌≡◌, map, take}
use Rattle.deposit_verify.specs.Checks.{counted_uris}
use Rattle.deposit_verify.proofs.menu.first_other_count.Given as goal

abbrev pub invariant-loop-place : goal.invariant-loop-place
invariant-loop-place l = take l.place (map (λ c. c.uri) l.counts) ≡ take l.place counted_uris
