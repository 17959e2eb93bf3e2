use Rattle.std.proofs.Common.{take}
use Rattle.custody_records.specs.Keys.{part_cmp}
use Rattle.custody_records.specs.RegistryRows.{all_rows}
use Rattle.custody_records.specs.Tables.{table_map}
use Rattle.custody_records.specs.TypedRecords.{key_of_part, part_value}
use Rattle.custody_records.proofs.DropLemmas.{AreDropped}
use Rattle.custody_records.proofs.purging.RowsByRegistry+Part.drop_bytes.Given as goal

-- the parts of the keys so far are without their bytes
abbrev pub invariant-loop-key : goal.invariant-loop-key
invariant-loop-key l = AreDropped (take l.key-index l.keys) (table_map part_cmp key_of_part part_value (all_rows l.fn.self)) (table_map part_cmp key_of_part part_value (all_rows l.self))
