use Rattle.std.proofs.Common.{◌-◌, ◌≤◌, take, length}
use Rattle.std.specs.Io.KnownBytes.{Consumes}
use Rattle.custody.proofs.receiving.fill.Given as goal

abbrev pub invariant-loop-filled : goal.invariant-loop-filled
invariant-loop-filled g l = record {
  bound : l.filled ≤ length l.buffer;
  bytes : Consumes (g.R.Read.remaining l.initial.reader) (g.R.Read.remaining l.reader) (take l.filled l.buffer);
}

abbrev pub decreases-loop-filled : goal.decreases-loop-filled
decreases-loop-filled g l = length l.buffer - l.filled
