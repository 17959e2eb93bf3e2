use Rattle.std.proofs.Common.{◌≡◌, All, IsTrue, take}
use Rattle.deposit_name.specs.Tables.{has_deletes}
use Rattle.deposit_name.specs.declared.kinds.Kind.TheVariants.{Full}
use Rattle.deposit_pack.proofs.packing.first_undeletable.Given as goal

abbrev pub invariant-loop-file : goal.invariant-loop-file
invariant-loop-file l = record {
  none_of_full : l.kind ≡ Full → l.file-index ≡ 0;
  may_delete : All (λ file. IsTrue (has_deletes file.name)) (take l.file-index l.source.deletes.now);
}
