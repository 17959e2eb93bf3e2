use Rattle.std.proofs.Common.{◌≡◌, ◌-◌, ◌≤◌, length, vec_len}
use Rattle.std.specs.Io.KnownBytes.{Consumes}
use Rattle.httparse.specs.Grammar.{HasNoRequest}
use Rattle.http_request.proofs.head.read_head.Given as goal

abbrev pub invariant-loop-headers : goal.invariant-loop-headers
invariant-loop-headers g l = record {
  taken : Consumes (g.R.Read.remaining l.initial.reader) (g.R.Read.remaining l.reader) l.bytes.items;
  no_head : HasNoRequest l.bytes.items;
  small : vec_len l.bytes ≤ 8192;
  room : length l.headers ≡ 32;
}

abbrev pub decreases-loop-headers : goal.decreases-loop-headers
decreases-loop-headers g l = 8192 - vec_len l.bytes
