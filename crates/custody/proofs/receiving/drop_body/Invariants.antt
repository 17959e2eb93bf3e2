use Rattle.std.proofs.Common.{◌≡◌, ◌+◌, List, ℕ, length}
use Rattle.std.specs.Io.KnownBytes.{Consumes}
use Rattle.custody.proofs.receiving.drop_body.Given as goal

abbrev pub invariant-loop-left : goal.invariant-loop-left
invariant-loop-left g l = (sent : List ℕ) × Consumes (g.R.Read.remaining l.fn.reader) (g.R.Read.remaining l.reader) sent × (length sent + l.left ≡ l.len)

abbrev pub decreases-loop-left : goal.decreases-loop-left
decreases-loop-left g l = l.left
