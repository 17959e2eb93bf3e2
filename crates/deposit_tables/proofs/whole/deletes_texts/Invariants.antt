use Rattle.std.proofs.Common.{map}
use Rattle.dnrd_csv.specs.Text.{key_rows}
use Rattle.deposit_tables.specs.inside.Changing.{keys_of_table}
use Rattle.deposit_tables.specs.inside.Packing.{text_rows}
use Rattle.deposit_tables.proofs.ChangesPacked.{AreTextsSoFar}
use Rattle.deposit_tables.proofs.whole.deletes_texts.Given as goal

abbrev pub invariant-loop-place : goal.invariant-loop-place
invariant-loop-place l = AreTextsSoFar (λ name. key_rows (keys_of_table l.deletes name)) (map text_rows l.texts.items) l.place
