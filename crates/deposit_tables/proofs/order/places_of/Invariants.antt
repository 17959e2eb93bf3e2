use Rattle.deposit_tables.proofs.RowsOrdered.{AreNumbers}
use Rattle.deposit_tables.proofs.order.places_of.Given as goal

abbrev pub invariant-loop-place : goal.invariant-loop-place
invariant-loop-place l = AreNumbers l.place l.places.items
