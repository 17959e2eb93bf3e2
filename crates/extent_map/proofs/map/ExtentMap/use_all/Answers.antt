use Rattle.std.proofs.Common.{◌∙◌, refl}
use Rattle.extent_map.specs.Map.{IsFree, size_of}
use Rattle.extent_map.specs.declared.extent.Extent.{Extent}
use Rattle.extent_map.proofs.SetLemmas.{apart_next, free_next, was_taken}
use Rattle.extent_map.proofs.map.ExtentMap.use_all.Goals as goal

pub returns-then-not-is_all_free-clause-overlap : goal.returns-then-not-is_all_free-clause-overlap
unfolding IsFree
returns-then-not-is_all_free-clause-overlap c = λ _.
    let d : Extent = record { start = 0; count = 0 } in
    let i = c.loop-extent.extent-index in
    let used = c.if-not-is_all_free.ensures.used refl in
    was_taken c.args.extents.now i d c.loop-extent-test.true (size_of c.args.self.now) (IsFree c.loop-extent.self) c.loop-extent.invariant.taken (c.requires.within i d c.loop-extent-test.true) used.0 used.1 used.2

pub loop-extent-preserved : goal.loop-extent-preserved
unfolding IsFree
loop-extent-preserved c =
    let d : Extent = record { start = 0; count = 0 } in
    let i = c.loop-extent.extent-index in
    let es = c.args.extents.now in
    let lt = c.loop-extent-test.true in
    record {
      size = c.use_up.ensures.size ∙ c.loop-extent.invariant.size;
      taken = free_next es i d lt (size_of c.args.self.now) (IsFree c.loop-extent.self) (IsFree c.use_up.new.self) c.loop-extent.invariant.taken c.use_up.ensures.taken;
      apart = apart_next es i d lt c.loop-extent.invariant.apart (λ b here there. ((c.loop-extent.invariant.taken b).0 (c.if-not-is_all_free.ensures.free refl b here.0 here.1)).2 there);
    }
