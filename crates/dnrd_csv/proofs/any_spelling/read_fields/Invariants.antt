use Rattle.std.proofs.Common.{length}
use Rattle.dnrd_csv.specs.inside.Spellings.{rows_left}
use Rattle.dnrd_csv.proofs.WidthLemmas.{Gathered}
use Rattle.dnrd_csv.proofs.any_spelling.read_fields.Given as goal

abbrev pub invariant-loop-fields : goal.invariant-loop-fields
invariant-loop-fields l = Gathered l.fn.width (rows_left l.fn.reader) l.reader l.fields l.count

abbrev pub decreases-loop-fields : goal.decreases-loop-fields
decreases-loop-fields l = length (rows_left l.reader)
