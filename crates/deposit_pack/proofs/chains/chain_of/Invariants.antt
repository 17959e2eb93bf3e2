use Rattle.std.proofs.Common.{◌≡◌, ◌∷◌, Some, take}
use Rattle.std.specs.List.{AllZip}
use Rattle.deposit_verify.specs.Bases.{all_then, base_of_first}
use Rattle.deposit_pack.specs.Chains.{HasId, joined_of}
use Rattle.deposit_pack.proofs.chains.chain_of.Given as goal

abbrev pub invariant-loop-i : goal.invariant-loop-i
invariant-loop-i l = record {
  keys : all_then (base_of_first l.first.joined.now) (take l.i (joined_of l.later)) ≡ Some l.base;
  ids : AllZip HasId (l.first ∷ take l.i l.later) l.ids.items;
}
