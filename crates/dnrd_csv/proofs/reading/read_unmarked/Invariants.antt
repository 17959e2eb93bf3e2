use Rattle.std.proofs.Common.{length}
use Rattle.dnrd_csv.proofs.WalkLemmas.{Walked}
use Rattle.dnrd_csv.proofs.reading.read_unmarked.Given as goal

abbrev pub invariant-loop-rest : goal.invariant-loop-rest
invariant-loop-rest l = Walked l.fn.text l.fn.width l.reader l.fields l.count l.uneven l.rest

abbrev pub decreases-loop-rest : goal.decreases-loop-rest
decreases-loop-rest l = length l.rest
