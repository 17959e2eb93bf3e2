use Rattle.deposit_tables.proofs.AllFiles.{AreInPlace}
use Rattle.deposit_tables.proofs.whole.are_all_tables.Given as goal

abbrev pub invariant-loop-place : goal.invariant-loop-place
invariant-loop-place l = AreInPlace l.files l.place
