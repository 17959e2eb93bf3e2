use Rattle.std.proofs.Common.{◌≡◌, take}
use Rattle.deposit_verify.specs.TablesReasons.{said_counts}
use Rattle.deposit_verify.proofs.tables_reason.WrongCount.first.Given as goal

abbrev pub invariant-loop-i : goal.invariant-loop-i
invariant-loop-i l = take l.i (said_counts l.counts) ≡ take l.i l.there
