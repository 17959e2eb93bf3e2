use Rattle.std.proofs.Common.{◌≤◌}
use Rattle.std.specs.Prelude.{IfSome}
use Rattle.std.specs.List.{AllAdjacentBelow}
use Rattle.dnrd_csv.specs.inside.RowKeys.{AreNeighbours}
use Rattle.dnrd_csv.proofs.RepeatLemmas.{IsLeast}
use Rattle.dnrd_csv.proofs.row_checks.first_of_neighbours.Given as goal

abbrev pub invariant-loop-i : goal.invariant-loop-i
invariant-loop-i l = record {
  started : 1 ≤ l.i;
  least : AllAdjacentBelow (IsLeast l.first) l.placed l.i;
  found : IfSome l.first (λ place. AreNeighbours l.placed place.0 place.1);
}
