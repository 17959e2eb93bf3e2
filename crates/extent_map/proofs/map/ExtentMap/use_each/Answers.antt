use Rattle.std.proofs.Common.{◌∙◌}
use Rattle.extent_map.specs.Map.{IsFree}
use Rattle.extent_map.specs.declared.extent.Extent.{Extent}
use Rattle.extent_map.proofs.SetLemmas.{in_at, meet}
use Rattle.extent_map.proofs.RunLemmas.{takes_next}
use Rattle.extent_map.proofs.map.ExtentMap.use_each.Goals as goal

pub use_up-requires-clause-run : goal.use_up-requires-clause-run
use_up-requires-clause-run c = λ b from to.
    let d : Extent = record { start = 0; count = 0 } in
    let i = c.loop-extent.extent-index in
    let es = c.args.extents.now in
    let lt = c.loop-extent-test.true in
    (c.loop-extent.invariant.taken b).1 (c.requires.free b (in_at es i d b lt (from, to))) (λ there. meet es i d b lt there (from, to) c.requires.apart)

pub loop-extent-preserved : goal.loop-extent-preserved
loop-extent-preserved c =
    let d : Extent = record { start = 0; count = 0 } in
    record {
      size = c.use_up.ensures.size ∙ c.loop-extent.invariant.size;
      taken = takes_next c.args.extents.now c.loop-extent.extent-index d (IsFree c.args.self.now) (IsFree c.loop-extent.self) (IsFree c.use_up.new.self) c.loop-extent-test.true
          c.loop-extent.invariant.taken c.use_up.ensures.taken;
    }
