use Rattle.std.proofs.Common.{◌-◌, vec_len}
use Rattle.http_request.proofs.ReadSoFar.{IsReadSoFar}
use Rattle.http_request.proofs.body.read_body.Given as goal

abbrev pub invariant-loop-piece : goal.invariant-loop-piece
invariant-loop-piece g l = IsReadSoFar (g.R.Read.remaining l.initial.reader) (g.R.Read.remaining l.reader) l.front l.wanted l.body.items

abbrev pub decreases-loop-piece : goal.decreases-loop-piece
decreases-loop-piece g l = l.wanted - vec_len l.body
