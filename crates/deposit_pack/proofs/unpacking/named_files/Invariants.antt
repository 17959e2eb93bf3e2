use Rattle.std.proofs.Common.{◌≡◌, length, map, take}
use Rattle.dnrd_csv.specs.inside.RowKeys.{borrowed_texts}
use Rattle.deposit_pack.specs.Unpacking.{file_names, file_texts}
use Rattle.deposit_pack.proofs.unpacking.named_files.Given as goal

abbrev pub invariant-loop-entry : goal.invariant-loop-entry
invariant-loop-entry l = record {
  names : file_names l.named.items ≡ take (length l.yielded) (map (λ entry. entry.name) l.entries);
  texts : file_texts l.named.items ≡ take (length l.yielded) (borrowed_texts l.files);
}
