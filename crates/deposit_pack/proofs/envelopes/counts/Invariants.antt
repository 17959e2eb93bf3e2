use Rattle.std.proofs.Common.{◌≡◌, take}
use Rattle.deposit_verify.specs.Checks.{object_uris}
use Rattle.deposit_pack.specs.Packing.{counts_with}
use Rattle.deposit_pack.proofs.envelopes.counts.Given as goal

abbrev pub invariant-loop-place : goal.invariant-loop-place
invariant-loop-place l = l.counts.items ≡ counts_with (take l.place object_uris) (take l.place l.fn.numbers)
