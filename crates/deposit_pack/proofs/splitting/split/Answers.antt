use Rattle.std.proofs.Common.{◌≡◌, arith, length, rules, subst}
use Rattle.deposit_pack.proofs.PartLemmas.{AreFirstParts, first_all, first_more, place_inside, too_long}
use Rattle.deposit_pack.proofs.splitting.split.Goals as goal

pub returns-then-count-gt-PARTS_MAX : goal.returns-then-count-gt-PARTS_MAX
returns-then-count-gt-PARTS_MAX c = too_long c.args.deposit.now c.div_ceil-count.result c.div_ceil-count.ensures c.if-count-gt-PARTS_MAX.true

pub loop-place-preserved : goal.loop-place-preserved
loop-place-preserved c = record {
  len = search rules;
  room = omega (arith, c.push_reserved.ensures.capacity, c.loop-place.invariant.room);
  parts =
      let inside = place_inside 1048576 (length c.args.deposit.now) c.div_ceil-count.result c.loop-place.place (omega arith) c.div_ceil-count.ensures c.loop-place-test.true in
      rw c.push_reserved.ensures.items
      (first_more 1048576 c.args.name.now c.args.deposit.now c.loop-place.parts.items c.loop-place.place c.part_at.result c.loop-place.invariant.parts
      (omega arith) inside c.part_at.ensures.name c.part_at.ensures.bytes);
}

pub returns : goal.returns
returns c =
    let done : c.loop-place.place ≡ c.div_ceil-count.result = omega (arith, c.loop-place.auto.place-end, c.loop-place-test.false) in
    first_all c.args.name.now c.args.deposit.now c.loop-place.parts.items c.div_ceil-count.result c.div_ceil-count.ensures
    (subst (λ n. AreFirstParts 1048576 c.args.name.now c.args.deposit.now c.loop-place.parts.items n) done c.loop-place.invariant.parts)
    c.if-count-gt-PARTS_MAX.false
