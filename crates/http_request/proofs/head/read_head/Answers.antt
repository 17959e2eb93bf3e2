use Rattle.std.proofs.Common.{◌≡◌, arith, drop, refl, length, ◌≤◌, sym, subst}
use Rattle.std.proofs.lemmas.Grind.{common_steps}
use Rattle.std.specs.Io.KnownBytes.{Consumes}
use Rattle.std.proofs.KnownBytes.{Consumes-nil}
use Rattle.httparse.specs.Grammar.{HasNoRequest}
use Rattle.http_request.proofs.Heads.{head_found, taken_more, none_of_nothing, none_when_full}
use Rattle.http_request.proofs.head.read_head.Goals as goal

pub loop-headers-init : goal.loop-headers-init
loop-headers-init g c = record {
  taken = subst (Consumes (g.R.Read.remaining c.args.reader.now) (g.R.Read.remaining c.args.reader.now)) (sym c.new-bytes.ensures.items) (Consumes-nil (g.R.Read.remaining c.args.reader.now));
  no_head = subst HasNoRequest (sym c.new-bytes.ensures.items) none_of_nothing;
  small = omega (arith, c.new-bytes.ensures.len);
  room = refl;
}

pub returns-in-Ok-Complete-clause-found : goal.returns-in-Ok-Complete-clause-found
returns-in-Ok-Complete-clause-found g c =
    let all = rw c.in-Ok-Complete.field-0-is at c.in-Ok-Complete.ensures in
    let taken = taken_more _ _ _ c.loop-headers.bytes.items c.read.new.buf (drop c.min-room.result c.loop-headers.piece) c.extend_from_slice.new.self.items c.in_ok-count.count
    c.loop-headers.invariant.taken c.in_ok-count.ensures.bytes.0 c.in_ok-extend_from_slice.ensures.items c.in_ok-count.ensures.bound.0 in
    let small : length c.extend_from_slice.new.self.items ≤ 8192 = grind (
      arith,
      common_steps,
      c.loop-headers.invariant.small,
      c.len-in-loop-headers.ensures,
      c.loop-headers-test.true,
      c.min-room.ensures,
      c.in_ok-count.ensures.bound.0,
      c.read.auto.buf,
      c.in_ok-extend_from_slice.ensures.len,
    ) in
    let room : length c.parse_request.new.headers ≡ 32 = grind (arith, common_steps, c.parse_request.auto.headers, c.loop-headers.invariant.room) in
    (taken, head_found c.extend_from_slice.new.self.items c.as_slice.result.now c.parse_request.new.headers c.in-Ok-Complete.spans c.as_slice.ensures.value all.complete all.within small room)

pub returns-clause-error : goal.returns-clause-error
returns-clause-error g c =
    none_when_full _ _ c.loop-headers.bytes.items c.loop-headers.invariant.taken (grind (arith, common_steps, c.loop-headers-test.false, c.len.ensures)) c.loop-headers.invariant.no_head
