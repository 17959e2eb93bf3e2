use Rattle.std.proofs.Common.{◌≡◌, take}
use Rattle.envelope.proofs.reading.first_difference.Given as goal

abbrev pub invariant-loop-offset : goal.invariant-loop-offset
invariant-loop-offset l = take l.offset l.text ≡ take l.offset l.wanted
