use Rattle.std.proofs.Common.{map}
use Rattle.deposit_verify.specs.Tables.{table_of}
use Rattle.deposit_tables.specs.inside.Packing.{text_rows}
use Rattle.deposit_tables.proofs.ChangesPacked.{AreTextsSoFar}
use Rattle.deposit_tables.proofs.whole.contents_texts.Given as goal

abbrev pub invariant-loop-place : goal.invariant-loop-place
invariant-loop-place l = AreTextsSoFar (table_of l.tables) (map text_rows l.texts.items) l.place
