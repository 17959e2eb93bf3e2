use Rattle.std.proofs.Common.{◌≡◌, take}
use Rattle.extent_map.specs.Extents.{Takes}
use Rattle.extent_map.specs.Map.{IsFree, size_of}
use Rattle.extent_map.proofs.map.ExtentMap.use_each.Given as goal

abbrev pub invariant-loop-extent : goal.invariant-loop-extent
invariant-loop-extent l = record {
  size : size_of l.self ≡ size_of l.initial.self;
  taken : Takes (IsFree l.initial.self) (take l.extent-index l.extents) (IsFree l.self);
}
